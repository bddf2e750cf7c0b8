-- Decimal numbers, read digit by digit.
use Rattle.std.proofs.Common.{◌≡◌, ℕ, ◌+◌, ◌-◌, ◌*◌, ◌<◌, true, false, List, [], ◌∷◌, None, cond, refl, sym, ap, ◌∙◌, length, get_or, drop, arith}
use Rattle.std.proofs.lemmas.List.{at_drop_more}
use Rattle.std.specs.Char.{is_ascii_digit}
use Rattle.std.proofs.lemmas.Bool.Decides.{nat_tests}
use Rattle.texts.specs.Number.{number_after, number_up_to, if_at_most}

-- A number that is too large stays too large, whatever follows it.
pub up_to-too_large : (limit n : ℕ) (bs : List ℕ) → limit < n → if_at_most limit (number_after n bs) ≡ None
up_to-too_large limit n [] h = grind (arith, nat_tests)
up_to-too_large limit n (b ∷ bs) h =
    elim (is_ascii_digit b) as (λ d. if_at_most limit (cond d (number_after (n * 10 + (b - 48)) bs) None) ≡ None) [
      | true ↦ up_to-too_large limit (n * 10 + (b - 48)) bs (omega arith)
      | false ↦ refl
    ]

-- This is so at the digit that makes it too large.
too_large_at : (limit n i : ℕ) (text : List ℕ) → i < length text → is_ascii_digit (get_or text i 0) ≡ true
    → limit < n * 10 + (get_or text i 0 - 48) → if_at_most limit (number_after n (drop i text)) ≡ None
too_large_at limit n i text h digit large =
    at_drop_more (λ t. if_at_most limit (number_after n t)) text i 0 h
    ∙ ap (λ d. if_at_most limit (cond d (number_after (n * 10 + (get_or text i 0 - 48)) (drop (i + 1) text)) None))
    digit
    ∙ up_to-too_large limit (n * 10 + (get_or text i 0 - 48)) (drop (i + 1) text) large

-- A text that isn't empty spells what its digits spell.
none_spelled : (limit : ℕ) (text : List ℕ) → if_at_most limit (number_after 0 text) ≡ None
    → number_up_to limit text ≡ None
none_spelled limit [] h = refl
none_spelled limit (b ∷ bs) h = h

-- So the text spells no number up to the limit, where the digits before it spell n.
pub none_up_to : (limit n i : ℕ) (text : List ℕ)
    → if_at_most limit (number_after n (drop i text)) ≡ if_at_most limit (number_after 0 text) → i < length text
    → is_ascii_digit (get_or text i 0) ≡ true → limit < n * 10 + (get_or text i 0 - 48) → number_up_to limit text ≡ None
none_up_to limit n i text same h digit large =
    none_spelled limit text (sym same ∙ too_large_at limit n i text h digit large)
