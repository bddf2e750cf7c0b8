use Rattle.std.proofs.Common.{◌≡◌, ap, sym, ◌∙◌, Some, None, to_z, of_z, w64}
use Rattle.std.specs.FinMap as finmap
use Rattle.std.specs.Cmp.{int_cmp_total}
use Rattle.std.proofs.lemmas.Map.Lookups.{exact_signed}
use Rattle.std.proofs.lemmas.Int.{to_z-of_z}
use Rattle.values.proofs.Keyed.{remove_absent}
use Rattle.sessions.proofs.Agreeing.{closing_agrees, expires_nothing, expires_closing}
use Rattle.sessions.proofs.table.Sessions.expire.Goals as goal

pub invariant_of-self : goal.invariant_of-self
invariant_of-self c =
    let here : to_z w64 (of_z w64 c.args.session) ≡ c.args.session = to_z-of_z w64 c.args.session c.ranges.session in
    let was : finmap.get c.self.inside.owners c.args.session ≡ None =
    (λ i. finmap.get c.self.inside.owners (sym here i)) ∙ sym c.remove.ensures.was ∙ c.in-None.is in
    rw (c.remove.ensures.removed ∙ ap (finmap.remove c.self.inside.owners) here
    ∙ remove_absent int_cmp_total exact_signed c.self.inside.owners c.args.session was) c.self.invariant

pub returns-in-None : goal.returns-in-None
returns-in-None c =
    let here : to_z w64 (of_z w64 c.args.session) ≡ c.args.session = to_z-of_z w64 c.args.session c.ranges.session in
    let was : finmap.get c.self.inside.owners c.args.session ≡ None =
    (λ i. finmap.get c.self.inside.owners (sym here i)) ∙ sym c.remove.ensures.was ∙ c.in-None.is in
    rw (c.remove.ensures.removed ∙ ap (finmap.remove c.self.inside.owners) here, ← c.self.view_is)
    (expires_nothing _ c.args.session was)

pub invariant_of-self-in-Some : goal.invariant_of-self-in-Some
invariant_of-self-in-Some c =
    let here : to_z w64 (of_z w64 c.args.session) ≡ c.args.session = to_z-of_z w64 c.args.session c.ranges.session in
    let was : finmap.get c.self.inside.owners c.args.session ≡ Some c.in-Some.connection =
    (λ i. finmap.get c.self.inside.owners (sym here i)) ∙ sym c.remove.ensures.was ∙ c.in-Some.is in
    rw (c.remove.ensures.removed ∙ ap (finmap.remove c.self.inside.owners) here, c.close.ensures)
    (closing_agrees _ c.args.session c.in-Some.connection c.self.invariant was)

pub returns : goal.returns
returns c =
    let here : to_z w64 (of_z w64 c.args.session) ≡ c.args.session = to_z-of_z w64 c.args.session c.ranges.session in
    let was : finmap.get c.self.inside.owners c.args.session ≡ Some c.in-Some.connection =
    (λ i. finmap.get c.self.inside.owners (sym here i)) ∙ sym c.remove.ensures.was ∙ c.in-Some.is in
    rw (c.remove.ensures.removed ∙ ap (finmap.remove c.self.inside.owners) here, c.close.ensures, ← c.self.view_is)
    (expires_closing _ c.args.session c.in-Some.connection c.self.invariant was)
