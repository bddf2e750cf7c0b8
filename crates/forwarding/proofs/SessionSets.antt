-- A set of sessions.
use Rattle.std.proofs.Common.{◌≡◌, ℤ, List, true, false, ◌||◌, ◌⊎◌, inl, inr, Option, Some, None, IfSome, true≢false, subst, sym, ap, ◌∙◌}
use Rattle.std.specs.List.Sorted.{IsStrictlySortedBy}
use Rattle.std.specs.Option.{option_eq}
use Rattle.std.specs.Ordering.{eq_by_cmp, int_cmp, int_eq}
use Rattle.std.specs.Cmp.{int_cmp_total, eq_by_cmp_equiv}
use Rattle.std.proofs.lemmas.Map.Lookups.{exact_signed}
use Rattle.std.specs.FinSet as set
use Rattle.values.proofs.Keyed.{same_or_other, set_of-in_order}
use Rattle.values.proofs.SetSteps.{insert-present}
use Rattle.forwarding.specs.State.{TouchedSessions}
use Rattle.forwarding.specs.Pending.{sorted_touched}
use Rattle.forwarding.specs.Inner.{IsTouched}

pub touched_by_insert : (s : TouchedSessions) (k : ℤ) → IsTouched (set.insert s k) k
touched_by_insert s k =
    set.contains-insert int_cmp_total s k k
    ∙ ap (λ b. b || set.contains s k) ((eq_by_cmp_equiv int_cmp_total).refl k)

-- A session that is in the set adds nothing.
pub insert_touched : (s : TouchedSessions) (k : ℤ) → IsTouched s k → set.insert s k ≡ s
insert_touched s k has = sym (insert-present int_cmp_total exact_signed s k has)

pub last_touched : (t : TouchedSessions) (last : Option ℤ) (k : ℤ) → option_eq int_eq last (Some k) ≡ true
    → IfSome last (IsTouched t) → IsTouched t k
last_touched t None k e h = absurd (true≢false (sym e))
last_touched t (Some s) k e h = by (same_or_other int_cmp_total exact_signed s k)
  where
    by : (s ≡ k) ⊎ (eq_by_cmp int_cmp s k ≡ false) → IsTouched t k
    by (inl is) = subst (IsTouched t) is h
    by (inr apart) = absurd (true≢false (sym e ∙ apart))

-- A sorted list of numbers is its set in order.
pub items-sorted : (ns : List ℤ) → IsStrictlySortedBy int_cmp ns → sorted_touched (set.from_list ns) ≡ ns
items-sorted ns s = set_of-in_order int_cmp_total exact_signed ns s
