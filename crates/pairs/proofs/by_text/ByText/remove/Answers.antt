use Rattle.std.proofs.Common.{IsSome, refl, sym, ap, subst, ◌∙◌}
use mathlib.Core.Bool.{true≢false}
use Rattle.std.specs.Cmp.{nat_cmp_total}
use Rattle.std.proofs.lemmas.Map.Lookups.{exact_unsigned, exact_bytes}
use Rattle.std.specs.FinMap as finmap
use Rattle.std.specs.FinSet as set
use Rattle.pairs.specs.Inner.Stored.{text_pairs_in, HaveValues}
use Rattle.pairs.proofs.Totals.{text_total}
use Rattle.pairs.proofs.Grouped.{remove_through, remove_none}
use Rattle.pairs.proofs.Keys.{have-insert, have-cut, remove_last}
use Rattle.pairs.proofs.Hashed.{map_of, get-hashed, map_of-insert, map_of-remove}
use Rattle.pairs.proofs.by_text.ByText.remove.Goals as goal

pub returns-in-None : goal.returns-in-None
returns-in-None c =
    ap (λ m. text_pairs_in m.entries) c.get_mut.follows.holds-at-none
    ∙ remove_none text_total nat_cmp_total exact_bytes exact_unsigned (map_of c.self.inside.map.entries) c.args.text.now
    c.args.number (get-hashed c.self.inside.map.entries c.args.text.now ∙ sym c.in-None.ensures.value)
    ∙ ap (λ s. set.remove s (c.args.text.now, c.args.number)) c.self.view_is

pub invariant_of-self-then-not-is_empty : goal.invariant_of-self-then-not-is_empty
invariant_of-self-then-not-is_empty c =
    let n = c.get_mut.follows.lender c.remove.new.self in
    subst (λ m. HaveValues m)
    (sym (map_of-insert c.args.text.now c.self.inside.map n c.remove.new.self
    ((c.get_mut.follows.holds c.remove.new.self).3 (subst IsSome c.in-Some.ensures.value refl))))
    (have-insert text_total nat_cmp_total exact_bytes exact_unsigned (map_of c.self.inside.map.entries) c.args.text.now
    c.remove.new.self c.self.invariant
    (λ e. true≢false (sym (c.is_empty.ensures.1 e) ∙ c.if-not-is_empty.true)))

pub returns-then-not-is_empty : goal.returns-then-not-is_empty
returns-then-not-is_empty c =
    let n = c.get_mut.follows.lender c.remove.new.self in
    remove_through text_total nat_cmp_total exact_bytes exact_unsigned (map_of c.self.inside.map.entries) (map_of n.entries)
    c.args.text.now c.args.number c.in-Some.row.now c.remove.new.self
    (map_of-insert c.args.text.now c.self.inside.map n c.remove.new.self
    ((c.get_mut.follows.holds c.remove.new.self).3 (subst IsSome c.in-Some.ensures.value refl)))
    (get-hashed c.self.inside.map.entries c.args.text.now ∙ sym c.in-Some.ensures.value)
    c.remove.ensures
    ∙ ap (λ s. set.remove s (c.args.text.now, c.args.number)) c.self.view_is

pub invariant_of-self-2 : goal.invariant_of-self-2
invariant_of-self-2 c =
    let n = c.get_mut.follows.lender c.remove.new.self in
    subst (λ m. HaveValues m)
    (sym (map_of-remove c.args.text.now n c.swap_remove.new.self c.swap_remove.ensures.updates
    ∙ ap (λ m. finmap.remove m c.args.text.now) (map_of-insert c.args.text.now c.self.inside.map n c.remove.new.self
    ((c.get_mut.follows.holds c.remove.new.self).3 (subst IsSome c.in-Some.ensures.value refl)))))
    (have-cut text_total nat_cmp_total exact_bytes exact_unsigned (map_of c.self.inside.map.entries) c.args.text.now
    c.remove.new.self c.self.invariant)

pub returns : goal.returns
returns c =
    let n = c.get_mut.follows.lender c.remove.new.self in
    remove_last text_total nat_cmp_total exact_bytes exact_unsigned (map_of c.self.inside.map.entries) (map_of n.entries)
    (map_of c.swap_remove.new.self.entries) c.args.text.now c.args.number c.in-Some.row.now c.remove.new.self
    (map_of-insert c.args.text.now c.self.inside.map n c.remove.new.self
    ((c.get_mut.follows.holds c.remove.new.self).3 (subst IsSome c.in-Some.ensures.value refl)))
    (get-hashed c.self.inside.map.entries c.args.text.now ∙ sym c.in-Some.ensures.value)
    c.remove.ensures
    (c.is_empty.ensures.0 c.if-not-is_empty.false)
    (map_of-remove c.args.text.now n c.swap_remove.new.self c.swap_remove.ensures.updates)
    ∙ ap (λ s. set.remove s (c.args.text.now, c.args.number)) c.self.view_is
