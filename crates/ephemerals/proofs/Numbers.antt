-- Sessions and numbers, one to one.
use Rattle.std.proofs.Common.{◌≡◌, ℕ, ℤ, pos, negsuc, Bool, true, false, refl, sym, ap, ◌∙◌, arith}
use Rattle.std.specs.Ordering.{eq_by_cmp, is_eq, int_cmp, nat_cmp}
use Rattle.std.specs.Cmp.{int_cmp_total, nat_cmp_total, tied_itself}
use Rattle.std.proofs.lemmas.Map.Views.{tells_apart}
use Rattle.std.proofs.lemmas.Map.Lookups.{exact_signed, exact_unsigned}
use Rattle.ephemerals.specs.Inner.OwnersView.{number_of_session, session_of_number}

pub number-session : (n : ℕ) → number_of_session (session_of_number n) ≡ n
number-session n = grind arith

pub session-number : (v : ℤ) → session_of_number (number_of_session v) ≡ v
session-number (pos n) = grind arith
session-number (negsuc n) = grind arith

-- Whether a session has the number, by either order.
pub same-number : (v : ℤ) (n : ℕ)
    → eq_by_cmp int_cmp v (session_of_number n) ≡ eq_by_cmp nat_cmp (number_of_session v) n
same-number v n = by (eq_by_cmp int_cmp v (session_of_number n)) refl (eq_by_cmp nat_cmp (number_of_session v) n) refl
  where
    by : (a : Bool) → eq_by_cmp int_cmp v (session_of_number n) ≡ a → (b : Bool)
        → eq_by_cmp nat_cmp (number_of_session v) n ≡ b → a ≡ b
    by true e true f = refl
    by false e false f = refl
    by true e false f =
        sym (ap is_eq (tied_itself nat_cmp_total n))
        ∙ ap (λ m. eq_by_cmp nat_cmp m n)
        (sym (ap number_of_session (tells_apart exact_signed v (session_of_number n) e) ∙ number-session n))
        ∙ f
    by false e true f =
        sym e
        ∙ ap (eq_by_cmp int_cmp v)
        (ap session_of_number (sym (tells_apart exact_unsigned (number_of_session v) n f)) ∙ session-number v)
        ∙ ap is_eq (tied_itself int_cmp_total v)
