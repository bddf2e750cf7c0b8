use Rattle.std.proofs.Common.{◌≡◌, ap, sym, ◌∙◌, w64}
use Rattle.std.proofs.lemmas.Int.{to_z-of_z}
use Rattle.pairs.specs.Pairs.{texts_at}
use Rattle.ephemerals.specs.Orders.{OwnerPairs}
use Rattle.ephemerals.specs.Pairs.{paths_of_session}
use Rattle.ephemerals.specs.Inner.OwnersView.{number_of_session}
use Rattle.ephemerals.proofs.OwnersView.{owners-paths}
use Rattle.ephemerals.proofs.TextSets.{distinct-none}
use Rattle.ephemerals.proofs.owners.Ephemerals.paths_of.Goals as goal

pub returns-in-None-clause-paths : goal.returns-in-None-clause-paths
returns-in-None-clause-paths c =
    let found : texts_at c.number_of_session.result c.self.inside.pairs ≡ paths_of_session c.args.session c.args.self.now =
    ap (λ n. texts_at n c.self.inside.pairs)
    (c.number_of_session.ensures ∙ ap number_of_session (to_z-of_z w64 c.args.session c.ranges.session))
    ∙ owners-paths c.args.session c.self.inside.pairs
    ∙ ap (λ (s : OwnerPairs). paths_of_session c.args.session s) c.self.view_is in
    sym c.in-None.ensures.none ∙ found

pub returns-in-None-clause-once : goal.returns-in-None-clause-once
returns-in-None-clause-once c = distinct-none

pub returns-clause-paths : goal.returns-clause-paths
returns-clause-paths c =
    let found : texts_at c.number_of_session.result c.self.inside.pairs ≡ paths_of_session c.args.session c.args.self.now =
    ap (λ n. texts_at n c.self.inside.pairs)
    (c.number_of_session.ensures ∙ ap number_of_session (to_z-of_z w64 c.args.session c.ranges.session))
    ∙ owners-paths c.args.session c.self.inside.pairs
    ∙ ap (λ (s : OwnerPairs). paths_of_session c.args.session s) c.self.view_is in
    c.as_slice.ensures.texts ∙ c.in-Some.ensures.texts ∙ found
