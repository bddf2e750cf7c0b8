use Rattle.std.proofs.Common.{Some, Ok, Err, ◌≡◌, ap, subst, sym, ◌∙◌}
use Rattle.std.proofs.lemmas.Result.{err_from_is_err_and}
use Rattle.values.specs.declared.fault.ReadError.TheVariants as errors
use Rattle.jute.specs.Stream.{Place}
use Rattle.quorum_packet.specs.declared.item.Item.TheVariants as item
use Rattle.quorum_packet.specs.declared.phase.Phase.{Phase}
use Rattle.quorum_packet.specs.declared.phase.Phase.TheVariants.{Packets}
use Rattle.quorum_packet.specs.Feed.{AnswersNext}
use Rattle.quorum_packet.specs.Items.{phase_dialect}
use Rattle.quorum_packet.specs.Lending.{Lent}
use Rattle.quorum_packet.proofs.Finding.{place_of}
use Rattle.quorum_packet.proofs.Owning.{packet_untaken}
use Rattle.quorum_packet.proofs.feed.PacketFeed.next.Goals as goal

pub returns-in_err-into_owned-in-Ok-Some-Packet-clause-first :
    goal.returns-in_err-into_owned-in-Ok-Some-Packet-clause-first
returns-in_err-into_owned-in-Ok-Some-Packet-clause-first c =
    let p = err_from_is_err_and c.from_residual.result c.from_residual.ensures.1 in
    let arm = c.in-Ok-Some-Packet in
    let mid = c.next-found.new.self.place in
    let at : c.new-items.result.place ≡ c.args.self.now = ap (λ (l : Lent). l.place) c.new-items.ensures
    ∙ (λ i. place_of (c.as_slice.ensures i) (c.replace.ensures.value i) c.self.inside.fault)
    ∙ c.self.view_is in
    let first = subst (λ (old : Place Phase). AnswersNext (Ok (Some (item.Packet arm.packet))) old mid) at
    (rw (arm.field-0-is, arm.field-0-0-is) at arm.ensures.first) in
    let kept : c.replace.new.dest ≡ Packets (phase_dialect c.args.self.now.phase) =
    c.replace.ensures.after ∙ ap (λ d. Packets d) c.dialect.ensures
    ∙ ap (λ (p : Place Phase). Packets (phase_dialect p.phase)) c.self.view_is in
    rw (p.1, p.2) (subst (λ (new : Place Phase). AnswersNext (Err errors.NoMemory) c.args.self.now new)
    (λ i. record { phase = sym kept i; unread = (sym c.self.view_is i).unread })
    (packet_untaken arm.packet c.args.self.now mid first))
