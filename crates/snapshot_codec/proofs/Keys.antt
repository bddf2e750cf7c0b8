-- The key of the open list, and the other keys.
use Rattle.std.proofs.Common.{◌≡◌, Bool, true, false, refl, ap, of_z, w64}
use Rattle.std.specs.Prelude.{ℤ, negsuc}
use Rattle.std.specs.FinMap as finmap
use Rattle.std.specs.Ordering.{int_eq}
use Rattle.std.proofs.lemmas.Bool.Decides.{Decides-int_eq}
use Rattle.snapshot_codec.specs.AclLists.{AclLists}
use Rattle.snapshot_codec.specs.Made.{list_at_key}

not_open : (key : ℤ) → (of_z w64 key ≡ 18446744073709551615 → ⊥) → int_eq key (negsuc 0) ≡ false
not_open key other = by (int_eq key (negsuc 0)) (Decides-int_eq key (negsuc 0)).0
  where
    by : (b : Bool) → (b ≡ true → key ≡ negsuc 0) → b ≡ false
    by true is = absurd (other (ap (of_z w64) (is refl)))
    by false is = refl

-- Any other key refers to its entry's list.
pub list_at : (lists : AclLists) (key : ℤ) → (of_z w64 key ≡ 18446744073709551615 → ⊥)
    → list_at_key lists key ≡ finmap.get lists key
list_at lists key other = rw (not_open key other) refl
