-- A setting that was made, and one that wasn't.
use Rattle.std.proofs.Common.{◌≡◌, Bool, true, false, Option, None, Some, cond, refl}

not_made : {A : Type 0} (x : A) (r : Option A) → r ≡ None → r ≡ Some x → ⊥
not_made x r none some = cc

same : {A : Type 0} (v x : A) (r : Option A) → r ≡ Some v → r ≡ Some x → x ≡ v
same v x r e some = cc

-- It is within its bounds, and the one asked for.
pub made : {A : Type 0} (is_within : Bool) (v x : A) (r : Option A)
    → r ≡ cond is_within (Some v) None → r ≡ Some x → (is_within ≡ true) × (x ≡ v)
made true v x r e some = (refl, same v x r e some)
made false v x r e some = absurd (not_made x r e some)
