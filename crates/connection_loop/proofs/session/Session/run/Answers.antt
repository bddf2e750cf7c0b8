use Rattle.std.proofs.Common.{[]}
use Rattle.connection_loop.specs.Inner.{talk_of}
use Rattle.connection_loop.proofs.Known.{consumes_none, appends_none}
use Rattle.connection_loop.proofs.Passing.{stays, gives_closes, passes_then, going_on}
use Rattle.connection_loop.proofs.session.Session.run.Goals as goal

pub loop-init : goal.loop-init
loop-init g c = (
  tt,
  tt,
  stays (talk_of c.send.new.self) _ _ _ _ (consumes_none _) (appends_none _),
  gives_closes (talk_of c.args.self.now) (talk_of c.send.new.self) _ c.send.ensures c.requires.once,
)

pub loop-preserved-in-Done : goal.loop-preserved-in-Done
loop-preserved-in-Done g c = (
  tt,
  tt,
  passes_then (talk_of c.send.new.self) (talk_of c.loop.self) (talk_of c.step.new.self) _ _ _ _ _ _ []
      c.loop.invariant.2 (going_on _ _ _ _ _ _ c.in-Done.ensures.goes.0 c.in-Done.ensures.passes),
  c.in-Done.ensures.goes.1,
)

pub loop-preserved : goal.loop-preserved
loop-preserved g c = (
  tt,
  tt,
  passes_then (talk_of c.send.new.self) (talk_of c.loop.self) (talk_of c.step.new.self) _ _ _ _ _ _ []
      c.loop.invariant.2 (going_on _ _ _ _ _ _ c.in-Idle.ensures.goes.0 c.in-Idle.ensures.passes),
  c.in-Idle.ensures.goes.1,
)

pub returns-in-Over : goal.returns-in-Over
returns-in-Over g c = record {
  begun = talk_of c.send.new.self;
  begins = c.send.ensures;
  lost = c.step.ensures.lost;
  passes = passes_then (talk_of c.send.new.self) (talk_of c.loop.self) (talk_of c.step.new.self) _ _ _ _ _ _
      c.step.ensures.lost c.loop.invariant.2 c.step.ensures.passes;
}
