use Rattle.std.proofs.Common.{ap}
use Rattle.quorum_packet.specs.Lending.{Lent}
use Rattle.quorum_packet.proofs.Finding.{short_stops, refused_stops}
use Rattle.quorum_packet.proofs.lending.LentItems.refuse.Goals as goal

pub returns-in-Short-clause-steps : goal.returns-in-Short-clause-steps
returns-in-Short-clause-steps c =
    short_stops c.args.self.now.place.phase c.args.self.now.place.unread (rw c.in-Short.is at c.requires)

pub returns-in_default-clause-steps : goal.returns-in_default-clause-steps
returns-in_default-clause-steps c =
    rw (ap (λ (l : Lent). l.place.phase) c.self.view_is)
    (refused_stops c.args.self.now.place.phase c.args.self.now.place.unread c.args.fault c.requires c.in_default.not-Short)
