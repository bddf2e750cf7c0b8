use Rattle.std.proofs.Common.{[], ◌∷◌, refl, ap, subst, ◌∙◌}
use Rattle.intake.specs.declared.message.Message.TheVariants.{Bytes}
use Rattle.connection_loop.specs.Incoming.{Unsent}
use Rattle.connection_loop.specs.declared.session.Step.TheVariants.{Idle}
use Rattle.connection_loop.specs.Inner.{talk_of, Gives}
use Rattle.connection_loop.proofs.Passing.{gave_nothing, gives_nothing, passes_at, passes_then_on, sends_on_piece}
use Rattle.connection_loop.proofs.session.Session.send_next.Goals as goal

pub returns-then-is_untaken : goal.returns-then-is_untaken
returns-then-is_untaken c = λ unread written.
    gave_nothing Idle (talk_of c.args.self.now) _ _ unread written c.is_untaken.ensures.gives refl c.requires.new

pub returns-in_default : goal.returns-in_default
returns-in_default c = λ unread written.
    gave_nothing Idle (talk_of c.args.self.now) _ _ unread written c.is_untaken.ensures.gives
    c.next_piece-next.ensures.talk c.requires.new

pub returns-in-Some-refused_word : goal.returns-in-Some-refused_word
returns-in-Some-refused_word c = λ unread written.
    passes_then_on _ (talk_of c.args.self.now) (talk_of c.next_piece-next.new.self) _ unread unread unread written written
    written
    (passes_at _ _ _ unread unread written written _
    (gives_nothing (talk_of c.args.self.now) (talk_of c.is_untaken.new.self) unread written c.is_untaken.ensures.gives)
    c.next_piece-next.ensures.talk)
    (c.refuse.ensures unread written)

pub returns-in_default-take : goal.returns-in_default-take
returns-in_default-take c = λ unread written.
    let n = talk_of c.next_piece-next.new.self in
    gave_nothing c.want_memory.result (talk_of c.args.self.now) (talk_of c.is_untaken.new.self) _ unread written
    c.is_untaken.ensures.gives
    (c.want_memory.ensures.talk ∙ ap (λ (u : Unsent). record n { unsent = u.bytes }) c.in_default-take.ensures.err
    ∙ c.next_piece-next.ensures.talk)
    c.requires.new

pub returns : goal.returns
returns c = λ unread written.
    let n = talk_of c.next_piece-next.new.self in
    let d = talk_of c.send-2.new.self in
    sends_on_piece (talk_of c.args.self.now) (talk_of c.is_untaken.new.self) n d c.in-Ok.bytes c.in-Some.piece.len
    unread written c.is_untaken.ensures.gives c.next_piece-next.ensures.talk c.requires.new c.in-Ok.ensures.bytes
    (subst (λ (u : Unsent). Gives (record n { unsent = u.bytes }) d (Bytes c.in-Ok.bytes ∷ [])) c.in-Ok.ensures.rest
    c.send-2.ensures)
