use Rattle.std.proofs.Common.{[], true, refl, ap, ◌∙◌}
use Rattle.connection_loop.specs.Inner.{talk_of}
use Rattle.connection_loop.proofs.Passing.{says, passes_at, ends_on}
use Rattle.connection_loop.proofs.session.Session.refuse.Goals as goal

pub returns-in-Ok : goal.returns-in-Ok
returns-in-Ok c = λ unread written.
    let a = talk_of c.args.self.now in
    let b = talk_of c.put_refusal.new.self in
    let said = c.in-Ok.ensures.text in
    record {
      lost = [];
      goes = (refl, λ _. c.in-Ok.ensures.closing);
      passes = says a b said.0 c.args.word unread written c.requires.new
          (c.in-Ok.ensures.rest ∙ ap (λ l. record a { unwritten = l; closing = b.closing; refuses = true }) said.2)
          said.1 c.requires.word c.requires.refused;
    }

pub returns-in-Err : goal.returns-in-Err
returns-in-Err c = λ unread written.
    let a = talk_of c.args.self.now in
    let b = talk_of c.put_refusal.new.self in
    let said = c.in-Err.ensures.text in
    ends_on _ _ _ unread unread written written _ c.want_memory.ensures.over
    (passes_at a b _ unread unread written written _
    (says a b said.0 c.args.word unread written c.requires.new
    (c.in-Err.ensures.rest ∙ ap (λ l. record a { unwritten = l; closing = b.closing; refuses = true }) said.2)
    said.1 c.requires.word c.requires.refused)
    c.want_memory.ensures.talk)
