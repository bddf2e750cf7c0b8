use Rattle.std.proofs.Common.{ap, ◌∙◌, w64}
use Rattle.std.proofs.lemmas.Int.{to_z-of_z}
use Rattle.pairs.specs.Pairs.{without_number}
use Rattle.ephemerals.specs.Orders.{OwnerPairs}
use Rattle.ephemerals.specs.Pairs.{without_session}
use Rattle.ephemerals.specs.Inner.OwnersView.{number_of_session, owners_in}
use Rattle.ephemerals.proofs.OwnersView.{owners-without_number}
use Rattle.ephemerals.proofs.owners.Ephemerals.take_session.Goals as goal

pub returns-clause-rest : goal.returns-clause-rest
returns-clause-rest c =
    ap owners_in (c.take_number.ensures.rest
    ∙ ap (λ n. without_number n c.self.inside.pairs)
    (c.number_of_session.ensures ∙ ap number_of_session (to_z-of_z w64 c.args.session c.ranges.session)))
    ∙ owners-without_number c.args.session c.self.inside.pairs
    ∙ ap (λ (s : OwnerPairs). without_session c.args.session s) c.self.view_is
