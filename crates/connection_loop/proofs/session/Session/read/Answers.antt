use Rattle.std.proofs.Common.{refl, ap, ◌∙◌, subst, OnOk}
use Rattle.std.specs.Io.{StartsWith, appended_bytes}
use Rattle.std.specs.Io.KnownBytes.{Consumes}
use Rattle.connection_loop.specs.declared.session.Step.TheVariants.{Over}
use Rattle.connection_loop.specs.Inner.{talk_of}
use Rattle.connection_loop.proofs.Known.{keeps_itself, keeps_then}
use Rattle.connection_loop.proofs.Passing.{rested, reads_more}
use Rattle.connection_loop.proofs.session.Session.read.Goals as goal

pub returns-then-owed-eq0 : goal.returns-then-owed-eq0
returns-then-owed-eq0 g c = λ written.
    rested Over (talk_of c.args.self.now) _ _ _ written refl (keeps_itself _) c.requires

pub returns-then-self-2 : goal.returns-then-self-2
returns-then-self-2 g c = λ written.
    rested _ (talk_of c.args.self.now) _ _ _ written c.rest.ensures.talk c.rest.ensures.kept c.requires

pub returns-then-eq : goal.returns-then-eq
returns-then-eq g c = λ written.
    let a = talk_of c.args.self.now in
    rested _ a _ _ _ written
    (c.want_memory.ensures.talk ∙ ap (λ l. record a { unsent = l }) c.in-Err.ensures.err) c.in-Err.ensures.unread
    c.requires

pub returns-in-Ok-eq0 : goal.returns-in-Ok-eq0
returns-in-Ok-eq0 g c = λ written.
    let old = c.args.self.now.incoming.bytes in
    let new = c.read_from.new.self.bytes in
    let remaining = g.R.Read.remaining in
    reads_more (talk_of c.args.self.now) new _ _ written c.requires
    (subst (λ r. OnOk r (StartsWith new old)) c.in-Ok-eq0.is c.read_from.ensures.kept)
    (subst (λ r. OnOk r (Consumes (remaining c.args.reader.now) (remaining c.read_from.new.reader)
    (appended_bytes old new))) c.in-Ok-eq0.is c.read_from.ensures.read)

pub returns-in-Ok : goal.returns-in-Ok
returns-in-Ok g c = λ written.
    reads_more (talk_of c.args.self.now) c.read_from.new.self.bytes _ _ written c.requires c.in-Ok.ensures.kept
    c.in-Ok.ensures.read

pub returns-in-Err : goal.returns-in-Err
returns-in-Err g c = λ written.
    let a = talk_of c.args.self.now in
    rested _ a _ _ _ written
    (c.rest-in-Err.ensures.talk ∙ ap (λ l. record a { unsent = l }) c.in-Err.ensures.err)
    (keeps_then _ _ _ c.in-Err.ensures.unread c.rest-in-Err.ensures.kept) c.requires

pub returns-else-eq : goal.returns-else-eq
returns-else-eq g c = λ written.
    let a = talk_of c.args.self.now in
    rested Over a _ _ _ written (ap (λ l. record a { unsent = l }) c.in-Err.ensures.err) c.in-Err.ensures.unread
    c.requires
