-- Different texts are fed to a hasher as different words.
use Rattle.std.proofs.Common.{◌≡◌, ℕ, zero, suc, ◌+◌, ◌-◌, ◌*◌, ◌/◌, ◌^◌, ◌<◌, ◌≤◌, [], ◌∷◌, ◌++◌, All, length, take, drop, get_or, fold, refl, sym, ap, ap₂, subst, ◌∙◌, arith, w64}
use Rattle.std.proofs.Common.{length-drop, take-append-drop, lt_of_not-le}
use Rattle.std.specs.Hash.{le_bytes}
use Rattle.std.specs.Int.{from_le_bytes}
use Rattle.std.proofs.lemmas.Grind.{or_after_shift}
use Rattle.std.proofs.lemmas.List.Elements.{All-head, All-tail, All-drop}
use Rattle.std.proofs.lemmas.Nat.{from_le_bytes-to_le_bytes_8}
use Rattle.pairs.specs.Pairs.{Bytes}
use Rattle.pairs.specs.Fed.{with_byte, counted_word, whole_len}
use Rattle.pairs.specs.Laws.{IsByte, AreFedApart}

-- ---- words with bytes after them

-- A word below this has room for so many bytes after it.
abbrev room : ℕ → ℕ
room zero = 2 ^ 64
room (suc n) = room n / 256

room-le : (n : ℕ) → room n ≤ 2 ^ 64
room-le zero = omega arith
room-le (suc n) = omega (arith, room-le n)

with_byte-is : (word byte n : ℕ) → word < room (suc n) → byte < 256 → with_byte word byte ≡ word * 256 + byte
with_byte-is word byte n fits small =
    or_after_shift word 256 (2 ^ 64) byte refl small (omega (arith, room-le n))

with_byte-fits : (word byte n : ℕ) → word < room (suc n) → byte < 256 → with_byte word byte < room n
with_byte-fits word byte n fits small = omega (arith, with_byte-is word byte n fits small)

-- A word with bytes after it.
abbrev followed : ℕ → Bytes → ℕ
followed word bytes = fold with_byte word bytes

abbrev HasRoom : ℕ → Bytes → Type 0
HasRoom word bytes = (word < room (length bytes)) × All IsByte bytes

module _ (word byte : ℕ) (bytes : Bytes) (h : HasRoom word (byte ∷ bytes)) where
  next-is : with_byte word byte ≡ word * 256 + byte
  next-is = with_byte-is word byte (length bytes) h.0 (All-head IsByte byte bytes h.1)

  next-room : HasRoom (with_byte word byte) bytes
  next-room = (with_byte-fits word byte (length bytes) h.0 (All-head IsByte byte bytes h.1), All-tail IsByte byte bytes h.1)

followed-le : (word : ℕ) (bytes : Bytes) → HasRoom word bytes → word ≤ followed word bytes
followed-le word [] h = omega arith
followed-le word (b ∷ bytes) h =
    omega (arith, next-is word b bytes h, followed-le (with_byte word b) bytes (next-room word b bytes h))

followed-fits : (word : ℕ) (bytes : Bytes) → HasRoom word bytes → followed word bytes < 2 ^ 64
followed-fits word [] h = h.0
followed-fits word (b ∷ bytes) h = followed-fits (with_byte word b) bytes (next-room word b bytes h)

-- A greater word with at least as many bytes after it stays greater.
followed-lt : (v w : ℕ) (xs ys : Bytes) → v < w → length xs ≤ length ys → HasRoom v xs → HasRoom w ys
    → followed v xs < followed w ys
followed-lt v w [] ys lt le hx hy = omega (arith, followed-le w ys hy)
followed-lt v w (x ∷ xs) [] lt le hx hy = absurd (omega arith)
followed-lt v w (x ∷ xs) (y ∷ ys) lt le hx hy =
    followed-lt (with_byte v x) (with_byte w y) xs ys
    (omega (arith, next-is v x xs hx, next-is w y ys hy, All-head IsByte x xs hx.1)) (omega arith)
    (next-room v x xs hx) (next-room w y ys hy)

-- Words with equally many bytes after them tell the bytes apart.
followed-same : (v w : ℕ) (xs ys : Bytes) → length xs ≡ length ys → HasRoom v xs → HasRoom w ys
    → followed v xs ≡ followed w ys → (v ≡ w) × (xs ≡ ys)
followed-same v w [] [] len hx hy same = (same, refl)
followed-same v w [] (y ∷ ys) len hx hy same = absurd (omega arith)
followed-same v w (x ∷ xs) [] len hx hy same = absurd (omega arith)
followed-same v w (x ∷ xs) (y ∷ ys) len hx hy same =
    let later = followed-same (with_byte v x) (with_byte w y) xs ys (omega arith) (next-room v x xs hx)
    (next-room w y ys hy) same in
    let joined : v * 256 + x ≡ w * 256 + y = sym (next-is v x xs hx) ∙ later.0 ∙ next-is w y ys hy in
    let small-x = All-head IsByte x xs hx.1 in
    let small-y = All-head IsByte y ys hy.1 in
    let words : v ≡ w = omega arith in
    let bytes : x ≡ y = omega arith in
    (words, ap₂ (λ (b : ℕ) (bs : Bytes). b ∷ bs) bytes later.1)

-- ---- counted words

room-wide : (k n : ℕ) → n + k ≡ 7 → 256 ≤ room n
room-wide zero n e = let last : 7 ≡ n = omega arith in subst (λ m. 256 ≤ room m) last (omega arith)
room-wide (suc k) n e = omega (arith, room-wide k (suc n) (omega arith))

count-fits : (n : ℕ) → n < 8 → n < room n
count-fits n h = omega (arith, room-wide (7 - n) n (omega arith))

count-room : (bytes : Bytes) → All IsByte bytes → length bytes < 8 → HasRoom (length bytes) bytes
count-room bytes small short = (count-fits (length bytes) short, small)

counted-lt : (xs ys : Bytes) → All IsByte xs → All IsByte ys → length xs < 8 → length ys < 8 → length xs < length ys
    → counted_word xs < counted_word ys
counted-lt xs ys small-x small-y short-x short-y lt =
    followed-lt (length xs) (length ys) xs ys lt (omega arith) (count-room xs small-x short-x)
    (count-room ys small-y short-y)

counted-apart : (xs ys : Bytes) → All IsByte xs → All IsByte ys → length xs < 8 → length ys < 8
    → counted_word xs ≡ counted_word ys → xs ≡ ys
counted-apart xs ys small-x small-y short-x short-y same =
    let up : length ys < suc (length xs) =
    lt_of_not-le (λ (lt : suc (length xs) ≤ length ys).
    omega (arith, counted-lt xs ys small-x small-y short-x short-y lt)) in
    let down : length xs < suc (length ys) =
    lt_of_not-le (λ (lt : suc (length ys) ≤ length xs).
    omega (arith, counted-lt ys xs small-y small-x short-y short-x lt)) in
    (followed-same (length xs) (length ys) xs ys (omega arith) (count-room xs small-x short-x)
    (count-room ys small-y short-y) same).1

-- ---- texts

word-apart : (m n : ℕ) → m < 2 ^ 64 → n < 2 ^ 64 → le_bytes 8 m ≡ le_bytes 8 n → m ≡ n
unfolding le_bytes
word-apart m n m-fits n-fits same =
    sym (from_le_bytes-to_le_bytes_8 m m-fits) ∙ ap (from_le_bytes w64) same ∙ from_le_bytes-to_le_bytes_8 n n-fits

abbrev rest : Bytes → Bytes
rest text = drop (whole_len text) text

rest-short : (text : Bytes) → length (rest text) < 8
rest-short text = omega (arith, length-drop (whole_len text) text)

module _ (text : Bytes) (small : All IsByte text) where
  rest-small : All IsByte (rest text)
  rest-small = All-drop IsByte (whole_len text) text small

  rest-fits : counted_word (rest text) < 2 ^ 64
  rest-fits = followed-fits (length (rest text)) (rest text) (count-room (rest text) rest-small (rest-short text))

pub fed_apart : AreFedApart
fed_apart s t small-s small-t same =
    let words : take (whole_len s) s ≡ take (whole_len t) t = ap (λ fed. get_or fed 0 []) same in
    let counted : le_bytes 8 (counted_word (rest s)) ≡ le_bytes 8 (counted_word (rest t)) =
    ap (λ fed. get_or fed 1 []) same in
    let rests : rest s ≡ rest t =
    counted-apart (rest s) (rest t) (rest-small s small-s) (rest-small t small-t) (rest-short s) (rest-short t)
    (word-apart _ _ (rest-fits s small-s) (rest-fits t small-t) counted) in
    sym (take-append-drop (whole_len s) s) ∙ ap₂ (λ (a b : Bytes). a ++ b) words rests
    ∙ take-append-drop (whole_len t) t
