-- Where a key ends, and that a text may be cut there.
use Rattle.std.proofs.Common.{rules, tests, ◌≡◌, ◌<◌, ◌≤◌, ℕ, Bool, true, false, List, [], ◌∷◌, Some, None, length, cond, refl, ltb-true, ltb-false, arith, subst}
use Rattle.std.specs.Prelude.{nat_lt, ◌==◌, ◌||◌}
use Rattle.std.specs.List.{position_or_len}
use Rattle.std.specs.Str.{IsUtf8, IsCharBoundary}
use Rattle.std.proofs.lemmas.List.Sums.{prefix_len-le-length, passes_at_first}
use Rattle.std.proofs.lemmas.Str.{IsCharBoundary-before_ascii, IsCharBoundary-after_ascii, IsCharBoundary-end}
use Rattle.zoo_config.specs.Form.{ends_key, begins_with_sign}

end_le : (text : List ℕ) → position_or_len ends_key text ≤ length text
end_le text = prefix_len-le-length _ text

pub some_end : (text : List ℕ) (is_there : Bool) (place : ℕ)
    → cond is_there (Some (position_or_len ends_key text)) None ≡ Some place → place ≡ position_or_len ends_key text
some_end text true place e = cc
some_end text false place e = cc

pub no_end : (text : List ℕ) (is_there : Bool) → nat_lt (position_or_len ends_key text) (length text) ≡ is_there
    → cond is_there (Some (position_or_len ends_key text)) None ≡ None → length text ≡ position_or_len ends_key text
no_end text true e none = cc
no_end text false e none = omega (arith, ltb-false _ _ e, end_le text)

key_byte : (byte : ℕ) → ends_key byte ≡ true → byte < 128
key_byte byte e = search (rules, tests, e)

cut_at : (text : List ℕ) (is_there : Bool) → nat_lt (position_or_len ends_key text) (length text) ≡ is_there
    → IsCharBoundary text (position_or_len ends_key text)
cut_at text true e =
    IsCharBoundary-before_ascii text (position_or_len ends_key text) (ltb-true _ _ e)
    (key_byte _ (passes_at_first ends_key text 0 (ltb-true _ _ e)))
cut_at text false e =
    let all : length text ≡ position_or_len ends_key text = omega (arith, ltb-false _ _ e, end_le text) in
    subst (λ n. IsCharBoundary text n) all (IsCharBoundary-end text)

pub key_boundary : (text : List ℕ) → IsCharBoundary text (position_or_len ends_key text)
key_boundary text = cut_at text (nat_lt (position_or_len ends_key text) (length text)) refl

sign_byte : (byte : ℕ) → (byte == 61 || byte == 58) ≡ true → byte < 128
sign_byte byte e = search (rules, tests, e)

pub sign_boundary : (text : List ℕ) → IsUtf8 text → begins_with_sign text ≡ true → IsCharBoundary text 1
sign_boundary [] utf8 e = cc
sign_boundary (byte ∷ text) utf8 e = IsCharBoundary-after_ascii (byte ∷ text) 0 utf8 (omega arith) (sign_byte byte e)
