use Rattle.std.proofs.Common.{◌≡◌, not, Some, None, IsSome, refl, sym, ap, subst, ◌∙◌}
use Rattle.std.specs.Cmp.{nat_cmp_total}
use Rattle.std.proofs.lemmas.Map.Lookups.{exact_unsigned, exact_bytes}
use Rattle.std.specs.FinMap as finmap
use Rattle.std.specs.FinSet as set
use Rattle.pairs.specs.Pairs.{Bytes, Numbers}
use Rattle.pairs.specs.Inner.Stored.{text_pairs_in, HaveValues}
use Rattle.pairs.proofs.Totals.{text_total}
use Rattle.pairs.proofs.Grouped.{insert_through, insert_first, contains-found}
use Rattle.pairs.proofs.Keys.{have-insert, with-value}
use Rattle.pairs.proofs.Errors.{on_err}
use Rattle.std.specs.Str.{bytes_eq}
use Rattle.std.specs.HashMap.{HashMap}
use Rattle.std.specs.Map.{set_value, lookup}
use Rattle.std.proofs.lemmas.Map.Steps.{set_value_same}
use Rattle.pairs.proofs.Hashed.{map_of, get-hashed, map_of-insert}
use Rattle.pairs.proofs.by_text.ByText.insert.Goals as goal

-- The set of a path, written back unchanged.
unchanged : {S : Type 0} (m n : HashMap Bytes Numbers S) (path : Bytes) (old new : Numbers)
    → n.entries ≡ set_value (bytes_eq path) m.entries new → Some old ≡ lookup (bytes_eq path) m.entries → new ≡ old
    → n.entries ≡ m.entries
unchanged m n path old new written found is =
    written ∙ set_value_same _ m.entries new (sym found ∙ (λ i. Some (sym is i)))

pub invariant_of-self : goal.invariant_of-self
invariant_of-self c =
    subst (λ es. HaveValues (map_of es))
    (sym (unchanged c.self.inside.map (c.get_mut.follows.lender c.insert.new.self) c.args.text.now c.in-Some.row.now
    c.insert.new.self (c.get_mut.follows.holds c.insert.new.self).0 c.in-Some.ensures.value
    c.in_err-insert-in-Some.ensures.err))
    c.self.invariant

pub invariant_of-self-in-Some : goal.invariant_of-self-in-Some
invariant_of-self-in-Some c =
    let n = c.get_mut.follows.lender c.insert.new.self in
    subst (λ m. HaveValues m)
    (sym (map_of-insert c.args.text.now c.self.inside.map n c.insert.new.self
    ((c.get_mut.follows.holds c.insert.new.self).3 (subst IsSome c.in-Some.ensures.value refl))))
    (have-insert text_total nat_cmp_total exact_bytes exact_unsigned (map_of c.self.inside.map.entries) c.args.text.now
    c.insert.new.self c.self.invariant
    (λ e. with-value nat_cmp_total c.in-Some.row.now c.args.number (sym c.in_ok-insert-in-Some.ensures.ok ∙ e)))

pub invariant_of-self-in-None : goal.invariant_of-self-in-None
invariant_of-self-in-None c =
    let m = c.get_mut.follows.lender-at-none in
    let n = c.insert-in-None.new.self in
    let new = c.of-row.result in
    subst (λ m. HaveValues m)
    (sym (map_of-insert c.in_ok-new-in-None.field-0 m n new c.in_ok-insert-in-None.ensures.updates
    ∙ ap (λ p. finmap.insert (map_of m.entries) p new) c.in_ok-new-in-None.ensures))
    (have-insert text_total nat_cmp_total exact_bytes exact_unsigned (map_of m.entries) c.args.text.now new
    (subst (λ x. HaveValues (map_of x.entries)) (sym c.get_mut.follows.holds-at-none) c.self.invariant)
    (λ e. with-value nat_cmp_total set.empty c.args.number (sym c.of-row.ensures ∙ e)))

pub returns-in_err-insert-in-Some-clause-err : goal.returns-in_err-insert-in-Some-clause-err
returns-in_err-insert-in-Some-clause-err c =
    let holds = c.get_mut.follows.holds c.insert.new.self in
    on_err c.from_residual.result
    (ap (λ es. text_pairs_in es) (unchanged c.self.inside.map (c.get_mut.follows.lender c.insert.new.self) c.args.text.now c.in-Some.row.now
    c.insert.new.self holds.0 c.in-Some.ensures.value c.in_err-insert-in-Some.ensures.err)
    ∙ c.self.view_is)

pub returns-in_ok-insert-in-Some-clause-ok : goal.returns-in_ok-insert-in-Some-clause-ok
returns-in_ok-insert-in-Some-clause-ok c =
    let n = c.get_mut.follows.lender c.insert.new.self in
    insert_through text_total nat_cmp_total exact_bytes exact_unsigned (map_of c.self.inside.map.entries) (map_of n.entries)
    c.args.text.now c.args.number c.in-Some.row.now c.insert.new.self
    (map_of-insert c.args.text.now c.self.inside.map n c.insert.new.self
    ((c.get_mut.follows.holds c.insert.new.self).3 (subst IsSome c.in-Some.ensures.value refl)))
    (get-hashed c.self.inside.map.entries c.args.text.now ∙ sym c.in-Some.ensures.value)
    c.in_ok-insert-in-Some.ensures.ok
    ∙ ap (λ s. set.insert s (c.args.text.now, c.args.number)) c.self.view_is

pub returns-in_ok-insert-in-Some-clause-added : goal.returns-in_ok-insert-in-Some-clause-added
returns-in_ok-insert-in-Some-clause-added c =
    c.in_ok-insert-in-Some.ensures.added
    ∙ ap not (sym (contains-found text_total nat_cmp_total exact_bytes exact_unsigned (map_of c.self.inside.map.entries)
    c.args.text.now (Some c.in-Some.row.now) (get-hashed c.self.inside.map.entries c.args.text.now
    ∙ sym c.in-Some.ensures.value) c.args.number)
    ∙ ap (λ s. set.contains s (c.args.text.now, c.args.number)) c.self.view_is)

pub returns-in_ok-insert-in-None-clause-ok : goal.returns-in_ok-insert-in-None-clause-ok
returns-in_ok-insert-in-None-clause-ok c =
    let m = c.get_mut.follows.lender-at-none in
    let n = c.insert-in-None.new.self in
    let new = c.of-row.result in
    insert_first text_total nat_cmp_total exact_bytes exact_unsigned (map_of m.entries) (map_of n.entries) c.args.text.now
    c.args.number set.empty new
    (map_of-insert c.in_ok-new-in-None.field-0 m n new c.in_ok-insert-in-None.ensures.updates
    ∙ ap (λ p. finmap.insert (map_of m.entries) p new) c.in_ok-new-in-None.ensures)
    (get-hashed m.entries c.args.text.now ∙ ap (λ x. lookup (bytes_eq c.args.text.now) x.entries)
    c.get_mut.follows.holds-at-none ∙ sym c.in-None.ensures.value)
    refl
    c.of-row.ensures
    ∙ ap (λ x. set.insert (text_pairs_in x.entries) (c.args.text.now, c.args.number))
    c.get_mut.follows.holds-at-none
    ∙ ap (λ s. set.insert s (c.args.text.now, c.args.number)) c.self.view_is

pub returns-in_ok-insert-in-None-clause-added : goal.returns-in_ok-insert-in-None-clause-added
returns-in_ok-insert-in-None-clause-added c =
    ap not (sym (contains-found text_total nat_cmp_total exact_bytes exact_unsigned (map_of c.self.inside.map.entries)
    c.args.text.now None (get-hashed c.self.inside.map.entries c.args.text.now ∙ sym c.in-None.ensures.value)
    c.args.number)
    ∙ ap (λ s. set.contains s (c.args.text.now, c.args.number)) c.self.view_is)
