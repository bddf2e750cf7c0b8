-- A line without the backslash at its end.
use Rattle.std.proofs.Common.{◌≡◌, ◌≢◌, ℕ, Bool, true, false, List, [], ◌∷◌, ◌++◌, Option, Some, None, nat_eq, if◌then◌else◌, refl, ap, sym, ◌∙◌}
use Rattle.std.specs.Option.{option_map, MatchOption}
use Rattle.std.specs.Borrow.{Bor}
use Rattle.std.proofs.lemmas.Bool.{eqb-true}
use Rattle.zoo_config.specs.Form.{line_front}

of_backslash : (front : List ℕ) → line_front (front ++ 92 ∷ []) ≡ Some front
of_backslash [] = refl
of_backslash (byte ∷ []) = refl
of_backslash (byte ∷ next ∷ front) = ap (option_map (λ t. byte ∷ t)) (of_backslash (next ∷ front))

of_last : (byte : ℕ) (is_it : Bool) → nat_eq byte 92 ≡ is_it
    → ((front : List ℕ) → byte ∷ [] ≢ front ++ 92 ∷ [])
    → ◌≡◌ {A = Option (List ℕ)} (if is_it then Some [] else None) None
of_last byte true e none = absurd (none [] (ap (λ b. b ∷ []) (eqb-true byte 92 e)))
of_last byte false e none = refl

of_none : (text : List ℕ) → ((front : List ℕ) → text ≢ front ++ 92 ∷ []) → line_front text ≡ None
of_none [] none = refl
of_none (byte ∷ []) none = of_last byte (nat_eq byte 92) refl none
of_none (byte ∷ next ∷ text) none =
    ap (option_map (λ t. byte ∷ t)) (of_none (next ∷ text) (λ front e. none (byte ∷ front) (ap (λ t. byte ∷ t) e)))

pub front_is : (text : List ℕ) (found : Option (Bor (List ℕ)))
    → MatchOption found ((front : List ℕ) → text ≢ front ++ 92 ∷ []) (λ front. text ≡ front.now ++ 92 ∷ [])
    → option_map (λ front. front.now) found ≡ line_front text
front_is text None none = sym (of_none text none)
front_is text (Some front) e = sym (ap line_front e ∙ of_backslash front.now)
