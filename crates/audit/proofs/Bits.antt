-- Signed numbers that are compared by their bits.
use Rattle.std.proofs.Common.{◌≡◌, ℕ, ◌<◌, ◌%◌, ◌^◌, ℤ, negsuc, Bool, true, false, nat_eq, refl, sym, ap, ◌∙◌, to_z, of_z, w32, FitsSigned, arith}
use mathlib.Core.Bool.{true≢false}
use Rattle.std.specs.Ordering.{int_eq}
use Rattle.std.proofs.lemmas.Bool.{eqb-true}
use Rattle.std.proofs.lemmas.Cmp.{int_eq_equiv, nat_eq_equiv}
use Rattle.std.proofs.lemmas.Int.{to_z-of_z, of_z-to_z}
use Rattle.std.proofs.lemmas.Map.Lookups.{exact_signed}
use Rattle.std.proofs.lemmas.Map.Views.{tells_apart}

pub below_word : (n : ℕ) → n % 2 ^ 32 < 2 ^ 32
below_word n = omega arith

pub same_bits : (a : ℤ) (m : ℕ) (b : ℤ) → FitsSigned w32 a → m < 2 ^ 32 → to_z w32 m ≡ b
    → nat_eq (of_z w32 a) m ≡ int_eq a b
same_bits a m b fits below is = by (nat_eq (of_z w32 a) m) (int_eq a b) refl refl
  where
    by : (x y : Bool) → nat_eq (of_z w32 a) m ≡ x → int_eq a b ≡ y → x ≡ y
    by true true e f = refl
    by false false e f = refl
    by true false e f =
        let same : a ≡ b = sym (to_z-of_z w32 a fits) ∙ ap (to_z w32) (eqb-true (of_z w32 a) m e) ∙ is in
        absurd (true≢false (sym (int_eq_equiv.refl b) ∙ ap (λ (z : ℤ). int_eq z b) (sym same) ∙ f))
    by false true e f =
        let same : of_z w32 a ≡ m =
        ap (of_z w32) (tells_apart exact_signed a b f ∙ sym is) ∙ of_z-to_z w32 m below in
        absurd (true≢false (sym (nat_eq_equiv.refl m) ∙ ap (λ (k : ℕ). nat_eq k m) (sym same) ∙ e))

pub other_number : (a : ℤ) → (of_z w32 a ≡ 4294967295 → ⊥) → int_eq a (negsuc 0) ≡ false
other_number a other = by (int_eq a (negsuc 0)) refl
  where
    by : (b : Bool) → int_eq a (negsuc 0) ≡ b → b ≡ false
    by true e = absurd (other (ap (of_z w32) (tells_apart exact_signed a (negsuc 0) e)))
    by false e = refl
