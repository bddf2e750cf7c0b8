use Rattle.std.proofs.Common.{sym, refl, subst}
use Rattle.connection_loop.specs.declared.session.Session.{Session}
use Rattle.connection_loop.specs.Inner.{talk_of, Drops}
use Rattle.connection_loop.proofs.Passing.{drops_none, drops_one, drops_asked}
use Rattle.connection_loop.proofs.session.Session.drop_outputs.Goals.{else-loop-test, then-loop-test+in-None}
use Rattle.connection_loop.proofs.session.Session.drop_outputs.Goals as goal

pub loop-init : goal.loop-init
loop-init c = drops_none (talk_of c.args.self.now)

pub loop-preserved : goal.loop-preserved
loop-preserved c =
    drops_one (talk_of c.args.self.now) (talk_of c.loop.self) (talk_of c.keep_fault.new.self) c.receive.new.self
    c.in-Some.output c.loop.invariant c.in-Some.ensures.port c.in-Some.ensures.some c.in-Some.ensures.sent
    c.keep_fault.ensures

pub returns : goal.returns
returns c =
    let a = talk_of c.args.self.now in
    let all : Drops a (talk_of c.loop-test.self) = elim c.loop-test.branch [
      | else-loop-test w ↦
          subst (λ (s : Session). Drops a (talk_of s)) (sym w.self-is) c.loop.invariant
      | then-loop-test+in-None w ↦
          subst (λ (s : Session). Drops a (talk_of s)) (sym w.self-is)
          (drops_asked a (talk_of c.loop.self) _ w.receive.new.self c.loop.invariant w.in-None.ensures.port
          w.in-None.ensures.none w.in-None.ensures.sent refl)
    ] in all
