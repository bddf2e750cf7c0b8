use Rattle.std.proofs.Common.{◌≡◌, [], drop, refl, ap, ◌∙◌, subst, IfOk}
use Rattle.std.specs.Io.KnownBytes.{WriteAppends}
use Rattle.connection_loop.specs.Inner.{talk_of}
use Rattle.connection_loop.specs.Outgoing.{Unwritten}
use Rattle.connection_loop.proofs.Known.{consumes_none, appends_none}
use Rattle.connection_loop.proofs.Passing.{stays, wrote_some, wrote_none}
use Rattle.connection_loop.proofs.session.Session.write_gathered.Goals as goal

pub returns-then-is_closing-clause-passes : goal.returns-then-is_closing-clause-passes
returns-then-is_closing-clause-passes g c = λ unread. record {
  lost = [];
  goes = tt;
  passes = stays (talk_of c.args.self.now) unread unread _ _ (consumes_none unread) (appends_none _);
}

pub returns-else-is_closing-clause-passes : goal.returns-else-is_closing-clause-passes
returns-else-is_closing-clause-passes g c = λ unread. record {
  lost = [];
  goes = (refl, c.requires);
  passes = stays (talk_of c.args.self.now) unread unread _ _ (consumes_none unread) (appends_none _);
}

pub returns-in-Ok-eq0-clause-passes : goal.returns-in-Ok-eq0-clause-passes
returns-in-Ok-eq0-clause-passes g c = λ unread.
    let old = c.args.self.now.outgoing in
    let contents = g.W.Write.contents in
    let appended = subst (λ r. WriteAppends (contents c.args.writer.now) (contents c.write_to.new.writer) r old.bytes)
    c.in-Ok-eq0.is c.write_to.ensures.written in
    let rest = subst (λ r. IfOk r (λ n. c.write_to.new.self ≡ record old { bytes = drop n old.bytes }))
    c.in-Ok-eq0.is c.write_to.ensures.rest in
    record {
      lost = [];
      goes = tt;
      passes = wrote_some (talk_of c.args.self.now) old c.write_to.new.self c.in-Ok-eq0.field-0 unread _ _ refl refl rest
          appended;
    }

pub returns-then-not-self-clause-passes : goal.returns-then-not-self-clause-passes
returns-then-not-self-clause-passes g c = λ unread. record {
  lost = [];
  goes = (refl, λ refused. ap (λ (u : Unwritten). u.closing) c.in-Ok.ensures.rest ∙ c.requires refused);
  passes = wrote_some (talk_of c.args.self.now) c.args.self.now.outgoing c.write_to.new.self c.in-Ok.count unread _ _
      refl refl c.in-Ok.ensures.rest c.in-Ok.ensures.written;
}

pub returns-else-not-self-clause-passes : goal.returns-else-not-self-clause-passes
returns-else-not-self-clause-passes g c = λ unread. record {
  lost = [];
  goes = (refl, λ refused. ap (λ (u : Unwritten). u.closing) c.in-Ok.ensures.rest ∙ c.requires refused);
  passes = wrote_some (talk_of c.args.self.now) c.args.self.now.outgoing c.write_to.new.self c.in-Ok.count unread _ _
      refl refl c.in-Ok.ensures.rest c.in-Ok.ensures.written;
}

pub returns-in-Err-clause-passes : goal.returns-in-Err-clause-passes
returns-in-Err-clause-passes g c = λ unread. record {
  lost = [];
  goes = (refl, λ refused. ap (λ (u : Unwritten). u.closing) c.in-Err.ensures.err ∙ c.requires refused);
  passes = wrote_none (talk_of c.args.self.now) c.args.self.now.outgoing c.write_to.new.self unread _ _ refl refl
      c.in-Err.ensures.err c.in-Err.ensures.written;
}

pub returns-in-Err-2-clause-passes : goal.returns-in-Err-2-clause-passes
returns-in-Err-2-clause-passes g c = λ unread. record {
  lost = [];
  goes = tt;
  passes = wrote_none (talk_of c.args.self.now) c.args.self.now.outgoing c.write_to.new.self unread _ _ refl refl
      c.in-Err-2.ensures.err c.in-Err-2.ensures.written;
}
