-- Hexadecimal digits, read one by one.
use Rattle.std.proofs.Common.{◌≡◌, ℕ, ◌+◌, ◌*◌, ◌/◌, ◌%◌, List, [], ◌∷◌, ◌++◌, take, Result, Ok, Err, Option, None, Some, refl, ap, sym, ◌∙◌, append_assoc, arith}
use Rattle.std.specs.Option.{option_map}
use Rattle.std.proofs.Common.{◌<◌, true, false, cond, eqb, length, get_or, drop}
use Rattle.std.specs.Prelude.{not, ◌≢◌, IsErr}
use Rattle.std.proofs.lemmas.Bool.Decides.{nat_tests}
use Rattle.std.proofs.lemmas.List.{at_drop_more, take-append-drop}
use Rattle.std.proofs.lemmas.Grind.{flat_map-append}
use Rattle.values.specs.Maybe.{◌>>=◌}
use Rattle.values.specs.Hex.{digit_value, bytes_of_digits, without_blanks, hex_digit, hex_digits}
use Rattle.values.specs.Gains.{Puts}

-- The bytes that digits spell after the value of a digit that waits for its second.
abbrev pub bytes_behind : Option ℕ → List ℕ → Option (List ℕ)
bytes_behind None text = bytes_of_digits text
bytes_behind (Some h) [] = None
bytes_behind (Some h) (low ∷ text) = do
  l ← digit_value low
  bytes ← bytes_of_digits text
  Some ((h * 16 + l) ∷ bytes)

-- Bytes with others before them.
abbrev pub onto : List ℕ → Option (List ℕ) → Option (List ℕ)
onto front bytes = option_map (λ bs. front ++ bs) bytes

-- A first digit waits.
pub bytes_behind_first : (high h : ℕ) (text : List ℕ) → digit_value high ≡ Some h
    → bytes_behind None (high ∷ text) ≡ bytes_behind (Some h) text
bytes_behind_first high h [] e = refl
bytes_behind_first high h (low ∷ text) e =
    ap (λ d. d >>= (λ h. digit_value low >>= (λ l. bytes_of_digits text >>= (λ bytes. Some ((h * 16 + l) ∷ bytes))))) e

-- A second digit makes a byte.
pub bytes_behind_second : (front : List ℕ) (h low l : ℕ) (text : List ℕ) → digit_value low ≡ Some l
    → onto front (bytes_behind (Some h) (low ∷ text)) ≡ onto (front ++ (h * 16 + l) ∷ []) (bytes_behind None text)
bytes_behind_second front h low l text e =
    ap (λ d. onto front (d >>= (λ l. bytes_of_digits text >>= (λ bytes. Some ((h * 16 + l) ∷ bytes))))) e
    ∙ elim (bytes_of_digits text) as (λ bs. onto front (bs >>= (λ bytes. Some ((h * 16 + l) ∷ bytes))) ≡ onto
    (front ++ (h * 16 + l) ∷ []) bs) [
      | None ↦ refl
      | Some bs ↦ ap Some (sym (append_assoc front ((h * 16 + l) ∷ []) bs))
    ]

-- No bytes are spelled if one byte isn't a digit.
pub bytes_behind_none : (waiting : Option ℕ) (b : ℕ) (text : List ℕ) → digit_value b ≡ None
    → bytes_behind waiting (b ∷ text) ≡ None
bytes_behind_none None b [] e = refl
bytes_behind_none None b (low ∷ text) e =
    ap (λ d. d >>= (λ h. digit_value low >>= (λ l. bytes_of_digits text >>= (λ bytes. Some ((h * 16 + l) ∷ bytes))))) e
bytes_behind_none (Some h) b text e =
    ap (λ d. d >>= (λ l. bytes_of_digits text >>= (λ bytes. Some ((h * 16 + l) ∷ bytes)))) e

-- A byte that isn't a blank stays.
pub without_blanks_kept : (text : List ℕ) (i : ℕ) → i < length text → get_or text i 0 ≢ 32
    → without_blanks (drop i text) ≡ get_or text i 0 ∷ without_blanks (drop (i + 1) text)
without_blanks_kept text i h ne =
    let e : eqb (get_or text i 0) 32 ≡ false = grind (arith, nat_tests) in
    at_drop_more without_blanks text i 0 h
    ∙ ap (λ blank. cond (not blank) (get_or text i 0 ∷ without_blanks (drop (i + 1) text))
    (without_blanks (drop (i + 1) text))) e

-- A blank is skipped.
pub without_blanks_passed : (text : List ℕ) (i : ℕ) → i < length text → get_or text i 0 ≡ 32
    → without_blanks (drop i text) ≡ without_blanks (drop (i + 1) text)
without_blanks_passed text i h eq =
    let e : eqb (get_or text i 0) 32 ≡ true = grind (arith, nat_tests) in
    at_drop_more without_blanks text i 0 h
    ∙ ap (λ blank. cond (not blank) (get_or text i 0 ∷ without_blanks (drop (i + 1) text))
    (without_blanks (drop (i + 1) text))) e

-- The bytes spelled after `front` from place i on, where a first digit is there.
pub first_read : (text front items : List ℕ) (i d : ℕ) (waits waits' : Option ℕ) (whole : Option (List ℕ))
    → i < length text → get_or text i 0 ≢ 32 → digit_value (get_or text i 0) ≡ Some d → waits ≡ None → waits' ≡ Some d
    → items ≡ front → onto front (bytes_behind waits (without_blanks (drop i text))) ≡ whole
    → onto items (bytes_behind waits' (without_blanks (drop (i + 1) text))) ≡ whole
first_read text front items i d waits waits' whole h ne digit none some same e =
    let rest = without_blanks (drop (i + 1) text) in
    ap (λ xs. onto xs (bytes_behind waits' rest)) same
    ∙ ap (λ w. onto front (bytes_behind w rest)) some
    ∙ sym (ap (onto front) (bytes_behind_first (get_or text i 0) d rest digit))
    ∙ sym (ap (λ t. onto front (bytes_behind None t)) (without_blanks_kept text i h ne))
    ∙ sym (ap (λ w. onto front (bytes_behind w (without_blanks (drop i text)))) none)
    ∙ e

-- The same where a second digit is there.
pub second_read : (text front items : List ℕ) (i first d : ℕ) (waits waits' : Option ℕ) (whole : Option (List ℕ))
    → i < length text → get_or text i 0 ≢ 32 → digit_value (get_or text i 0) ≡ Some d → waits ≡ Some first
    → waits' ≡ None
    → items ≡ front ++ (first * 16 + d) ∷ [] → onto front (bytes_behind waits (without_blanks (drop i text))) ≡ whole
    → onto items (bytes_behind waits' (without_blanks (drop (i + 1) text))) ≡ whole
second_read text front items i first d waits waits' whole h ne digit some none more e =
    let rest = without_blanks (drop (i + 1) text) in
    ap (λ xs. onto xs (bytes_behind waits' rest)) more
    ∙ ap (λ w. onto (front ++ (first * 16 + d) ∷ []) (bytes_behind w rest)) none
    ∙ sym (bytes_behind_second front first (get_or text i 0) d rest digit)
    ∙ sym (ap (λ t. onto front (bytes_behind (Some first) t)) (without_blanks_kept text i h ne))
    ∙ sym (ap (λ w. onto front (bytes_behind w (without_blanks (drop i text)))) some)
    ∙ e

-- ---- written

-- After a refused allocation the digits of the bytes so far are there.
pub digits_so_far : {U E : Type 0} (r : Result U E) (old bytes new : List ℕ) (i : ℕ) → IsErr r
    → new ≡ old ++ hex_digits (take i bytes) → Puts r old (hex_digits bytes) new
digits_so_far (Ok u) old bytes new i err e = absurd cc
digits_so_far (Err d) old bytes new i err e = record {
  front = hex_digits (take i bytes);
  rest = hex_digits (drop i bytes);
  gained = e;
  of = ap hex_digits (sym (take-append-drop i bytes))
      ∙ flat_map-append (λ b. hex_digit (b / 16) ∷ hex_digit (b % 16) ∷ [])
      (take i bytes) (drop i bytes);
}
