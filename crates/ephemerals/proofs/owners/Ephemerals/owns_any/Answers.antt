use Rattle.std.proofs.Common.{◌≡◌, ap, refl, sym, ◌∙◌, w64}
use Rattle.std.proofs.lemmas.Int.{to_z-of_z}
use mathlib.Core.Bool.{true≢false}
use Rattle.pairs.specs.Pairs.{texts_at}
use Rattle.ephemerals.specs.Orders.{OwnerPairs}
use Rattle.ephemerals.specs.Pairs.{paths_of_session}
use Rattle.ephemerals.specs.Inner.OwnersView.{number_of_session}
use Rattle.ephemerals.proofs.OwnersView.{owners-paths}
use Rattle.ephemerals.proofs.owners.Ephemerals.owns_any.Goals as goal

pub returns-in-None : goal.returns-in-None
returns-in-None c =
    let found : texts_at c.number_of_session.result c.self.inside.pairs ≡ paths_of_session c.args.session c.args.self.now =
    ap (λ n. texts_at n c.self.inside.pairs)
    (c.number_of_session.ensures ∙ ap number_of_session (to_z-of_z w64 c.args.session c.ranges.session))
    ∙ owners-paths c.args.session c.self.inside.pairs
    ∙ ap (λ (s : OwnerPairs). paths_of_session c.args.session s) c.self.view_is in
    (λ e. absurd (true≢false (sym e)), λ some. absurd (some (sym found ∙ c.in-None.ensures.none)))

pub returns-in-Some : goal.returns-in-Some
returns-in-Some c =
    let found : texts_at c.number_of_session.result c.self.inside.pairs ≡ paths_of_session c.args.session c.args.self.now =
    ap (λ n. texts_at n c.self.inside.pairs)
    (c.number_of_session.ensures ∙ ap number_of_session (to_z-of_z w64 c.args.session c.ranges.session))
    ∙ owners-paths c.args.session c.self.inside.pairs
    ∙ ap (λ (s : OwnerPairs). paths_of_session c.args.session s) c.self.view_is in
    (λ _ e. c.in-Some.ensures.some (c.in-Some.ensures.texts ∙ found ∙ e), λ some. refl)
