use Rattle.std.proofs.Common.{[], refl}
use Rattle.connection_loop.specs.Inner.{talk_of}
use Rattle.connection_loop.proofs.Known.{consumes_none, appends_none}
use Rattle.connection_loop.proofs.Passing.{stays, gathers, gathered_closes, loses, passes_at, ends_on}
use Rattle.connection_loop.proofs.session.Session.gather.Goals as goal

pub returns-then-not-is_written : goal.returns-then-not-is_written
returns-then-not-is_written c = λ unread written. record {
  lost = [];
  goes = (refl, c.requires);
  passes = stays (talk_of c.args.self.now) unread unread written written (consumes_none unread) (appends_none written);
}

pub returns-in-Ok-true : goal.returns-in-Ok-true
returns-in-Ok-true c = λ unread written. record {
  lost = [];
  goes = (refl, gathered_closes (talk_of c.args.self.now) _ _ _ _ _ _ c.in-Ok-true.ensures.ok refl c.requires refl);
  passes = gathers (talk_of c.args.self.now) _ _ _ _ _ _ unread written c.in-Ok-true.ensures.ok refl refl c.requires refl;
}

pub returns-in-Ok-false : goal.returns-in-Ok-false
returns-in-Ok-false c = λ unread written. record {
  lost = [];
  goes = (refl, gathered_closes (talk_of c.args.self.now) _ _ _ _ _ _ c.in-Ok-false.ensures.ok refl c.requires refl);
  passes = gathers (talk_of c.args.self.now) _ _ _ _ _ _ unread written c.in-Ok-false.ensures.ok refl refl c.requires refl;
}

pub returns-in-Err : goal.returns-in-Err
returns-in-Err c = λ unread written.
    ends_on _ _ _ unread unread written written _ c.want_memory.ensures.over
    (passes_at (talk_of c.args.self.now) _ _ unread unread written written _
    (loses (talk_of c.args.self.now) _ _ _ _ unread written c.in-Err.ensures.err refl refl c.requires refl)
    c.want_memory.ensures.talk)
