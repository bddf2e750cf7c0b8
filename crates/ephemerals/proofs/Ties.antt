-- Equality of two pairs, and of two sessions, by their order.
use Rattle.std.proofs.Common.{◌≡◌, ℤ, Bool, true, false, refl}
use Rattle.std.specs.Ordering.{eq_by_cmp, int_cmp, int_eq}
use Rattle.std.specs.Cmp.{int_cmp_total, eq_by_cmp_equiv}
use Rattle.std.proofs.lemmas.Map.Views.{tells_apart}
use Rattle.std.proofs.lemmas.Map.Lookups.{exact_signed}
pub use Rattle.pairs.proofs.Ties.{tied_then}

-- Whether two sessions are equal, by their order.
pub same_session : (a b : ℤ) → int_eq a b ≡ eq_by_cmp int_cmp b a
same_session a b = (eq_by_cmp_equiv int_cmp_total).symm a b

pub apart_sessions : (a b : ℤ) → (a ≡ b → ⊥) → int_eq a b ≡ false
apart_sessions a b apart = by (int_eq a b) refl
  where
    by : (t : Bool) → int_eq a b ≡ t → int_eq a b ≡ false
    by true e = absurd (apart (tells_apart exact_signed a b e))
    by false e = e
