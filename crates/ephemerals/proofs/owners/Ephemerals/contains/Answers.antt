use Rattle.std.proofs.Common.{◌≡◌, ap, sym, ◌∙◌, w64}
use Rattle.std.proofs.lemmas.Int.{to_z-of_z}
use Rattle.std.specs.FinSet as set
use Rattle.ephemerals.specs.Orders.{OwnerPairs}
use Rattle.ephemerals.specs.Inner.OwnersView.{number_of_session}
use Rattle.ephemerals.proofs.OwnersView.{contains-owners}
use Rattle.ephemerals.proofs.owners.Ephemerals.contains.Goals as goal

pub returns : goal.returns
returns c =
    let number : c.number_of_session.result ≡ number_of_session c.args.session =
    c.number_of_session.ensures ∙ ap number_of_session (to_z-of_z w64 c.args.session c.ranges.session) in
    c.contains.ensures
    ∙ ap (λ n. set.contains c.self.inside.pairs (c.args.path.now, n)) number
    ∙ sym (contains-owners c.self.inside.pairs c.args.session c.args.path.now)
    ∙ ap (λ (s : OwnerPairs). set.contains s (c.args.session, c.args.path.now)) c.self.view_is
