use Rattle.std.proofs.Common.{List, ℕ, ap, subst, sym, ◌∙◌}
use Rattle.jute.specs.Stream.{Place, with_more_bytes}
use Rattle.quorum_packet.specs.Unseen.{MayBeUnseen}
use Rattle.quorum_packet.specs.declared.phase.Phase.{Phase}
use Rattle.quorum_packet.proofs.Finding.{place_of}
use Rattle.quorum_packet.proofs.Looking.{unseen_more}
use Rattle.quorum_packet.proofs.Owning.{with_piece}
use Rattle.quorum_packet.proofs.feed.PacketFeed.open.Goals as goal

pub returns-clause-place : goal.returns-clause-place
returns-clause-place c =
    let old = c.self.inside in
    ap (λ (bytes : List ℕ). place_of bytes old.phase old.fault) c.in_ok-source.ensures
    ∙ with_piece old.waiting c.args.piece.now old.phase old.fault
    ∙ ap (λ (p : Place Phase). with_more_bytes p c.args.piece.now) c.self.view_is

pub returns-clause-unseen : goal.returns-clause-unseen
returns-clause-unseen c =
    let old = c.self.inside in
    subst (λ (bytes : List ℕ). MayBeUnseen bytes old.unseen) (sym c.in_ok-source.ensures)
    (unseen_more old.waiting c.args.piece.now old.unseen c.self.invariant)
