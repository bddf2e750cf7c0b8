use Rattle.std.proofs.Common.{◌≡◌, ℕ, Some, IsSome, refl, sym, ap, subst, ◌∙◌}
use Rattle.std.specs.Cmp.{nat_cmp_total}
use Rattle.std.specs.Ordering.{nat_cmp}
use Rattle.std.proofs.lemmas.Map.Lookups.{exact_unsigned, exact_bytes}
use Rattle.std.specs.FinSet as set
use Rattle.pairs.specs.Pairs.{TextKeys}
use Rattle.pairs.specs.Inner.Stored.{number_pairs_in, HaveValues}
use Rattle.pairs.proofs.Totals.{text_total}
use Rattle.pairs.proofs.Grouped.{insert_through, insert_first}
use Rattle.pairs.proofs.Keys.{have-insert, with-value}
use Rattle.pairs.proofs.Errors.{on_err}
use Rattle.std.specs.BTreeMap as tree
use Rattle.std.specs.BTreeMap.{BTreeMap, is_at}
use Rattle.std.specs.Map.{set_value}
use Rattle.std.proofs.lemmas.Map.Steps.{set_value_same}
use Rattle.values.proofs.Keyed.{map_of, get-map_of, map_of-insert}
use Rattle.pairs.proofs.by_number.ByNumber.insert.Goals as goal

-- The set of a connection, written back unchanged.
unchanged : (m n : BTreeMap ℕ TextKeys) (k : ℕ) (old new : TextKeys) → n.entries ≡ set_value (is_at (nat_cmp k)) m.entries new
    → Some old ≡ tree.get nat_cmp m k → new ≡ old → n.entries ≡ m.entries
unchanged m n k old new written found is =
    written ∙ set_value_same _ m.entries new (sym found ∙ (λ i. Some (sym is i)))

pub invariant_of-self : goal.invariant_of-self
invariant_of-self c =
    subst (λ es. HaveValues (map_of nat_cmp es))
    (sym (unchanged c.self.inside.map (c.get_mut.follows.lender c.insert.new.self) c.args.number c.in-Some.texts.now
    c.insert.new.self (c.get_mut.follows.holds c.insert.new.self).0 c.in-Some.ensures.value
    c.in_err-insert-in-Some.ensures.err))
    c.self.invariant

pub invariant_of-self-in-Some : goal.invariant_of-self-in-Some
invariant_of-self-in-Some c =
    let n = c.get_mut.follows.lender c.insert.new.self in
    let is = c.in_ok-insert-in-Some.ensures.ok ∙ ap (λ p. set.insert c.in-Some.texts.now p) c.in_ok-text.ensures in
    subst (λ m. HaveValues m)
    (sym (map_of-insert nat_cmp_total exact_unsigned c.args.number c.self.inside.map n c.insert.new.self
    ((c.get_mut.follows.holds c.insert.new.self).3 (subst IsSome c.in-Some.ensures.value refl))))
    (have-insert nat_cmp_total text_total exact_unsigned exact_bytes (map_of nat_cmp c.self.inside.map.entries) c.args.number
    c.insert.new.self c.self.invariant
    (λ e. with-value text_total c.in-Some.texts.now c.args.text.now (sym is ∙ e)))

pub invariant_of-self-in-None : goal.invariant_of-self-in-None
invariant_of-self-in-None c =
    let m = c.get_mut.follows.lender-at-none in
    let new = c.of-texts.result in
    let is = c.of-texts.ensures ∙ ap (λ t. set.insert set.empty t) c.in_ok-text.ensures in
    subst (λ m. HaveValues m)
    (sym (map_of-insert nat_cmp_total exact_unsigned c.args.number m c.insert-in-None.new.self new
    c.in_ok-insert-in-None.ensures.updates))
    (have-insert nat_cmp_total text_total exact_unsigned exact_bytes (map_of nat_cmp m.entries) c.args.number new
    (subst (λ x. HaveValues (map_of nat_cmp x.entries)) (sym c.get_mut.follows.holds-at-none) c.self.invariant)
    (λ e. with-value text_total set.empty c.args.text.now (sym is ∙ e)))

pub returns-in_err-insert-in-Some-clause-err : goal.returns-in_err-insert-in-Some-clause-err
returns-in_err-insert-in-Some-clause-err c =
    let holds = c.get_mut.follows.holds c.insert.new.self in
    on_err c.from_residual-in_err-insert-in-Some.result
    (ap (λ es. number_pairs_in es) (unchanged c.self.inside.map (c.get_mut.follows.lender c.insert.new.self)
    c.args.number c.in-Some.texts.now
    c.insert.new.self holds.0 c.in-Some.ensures.value c.in_err-insert-in-Some.ensures.err)
    ∙ c.self.view_is)

pub returns-in_ok-insert-in-Some-clause-ok : goal.returns-in_ok-insert-in-Some-clause-ok
returns-in_ok-insert-in-Some-clause-ok c =
    let n = c.get_mut.follows.lender c.insert.new.self in
    insert_through nat_cmp_total text_total exact_unsigned exact_bytes (map_of nat_cmp c.self.inside.map.entries) (map_of nat_cmp n.entries)
    c.args.number c.args.text.now c.in-Some.texts.now c.insert.new.self
    (map_of-insert nat_cmp_total exact_unsigned c.args.number c.self.inside.map n c.insert.new.self
    ((c.get_mut.follows.holds c.insert.new.self).3 (subst IsSome c.in-Some.ensures.value refl)))
    (get-map_of nat_cmp_total exact_unsigned c.self.inside.map c.args.number ∙ sym c.in-Some.ensures.value)
    (c.in_ok-insert-in-Some.ensures.ok ∙ ap (λ p. set.insert c.in-Some.texts.now p) c.in_ok-text.ensures)
    ∙ ap (λ s. set.insert s (c.args.number, c.args.text.now)) c.self.view_is

pub returns-in_ok-insert-in-None-clause-ok : goal.returns-in_ok-insert-in-None-clause-ok
returns-in_ok-insert-in-None-clause-ok c =
    let m = c.get_mut.follows.lender-at-none in
    let n = c.insert-in-None.new.self in
    let new = c.of-texts.result in
    insert_first nat_cmp_total text_total exact_unsigned exact_bytes (map_of nat_cmp m.entries) (map_of nat_cmp n.entries) c.args.number
    c.args.text.now set.empty new
    (map_of-insert nat_cmp_total exact_unsigned c.args.number m c.insert-in-None.new.self new
    c.in_ok-insert-in-None.ensures.updates)
    (get-map_of nat_cmp_total exact_unsigned m c.args.number ∙ ap (λ x. tree.get nat_cmp x c.args.number) c.get_mut.follows.holds-at-none
    ∙ sym c.in-None.ensures.value)
    refl
    (c.of-texts.ensures ∙ ap (λ t. set.insert set.empty t) c.in_ok-text.ensures)
    ∙ ap (λ x. set.insert (number_pairs_in x.entries) (c.args.number, c.args.text.now)) c.get_mut.follows.holds-at-none
    ∙ ap (λ s. set.insert s (c.args.number, c.args.text.now)) c.self.view_is
