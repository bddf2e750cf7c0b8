-- The waiting bytes of a buffer, after a read behind them or a piece taken off the front.
use Rattle.std.proofs.Common.{◌≡◌, ℕ, ◌+◌, ◌-◌, ◌≤◌, List, ◌++◌, length, take, drop, slice_range, refl, sym, ap, ◌∙◌, arith}
use Rattle.std.proofs.lemmas.List.{append-nil, take_all, take_at, drop_at, take-append-le, drop-append-le, drop-take, drop-drop, length-take-le, length-drop, length-append}
use borrow.Rule.Slice.PartMut.{put_mid, post_of}
use lib.Seq.{take-add}

-- What is added to the start is dropped at the front.
pub slice_range-add : (xs : List ℕ) (start end count : ℕ) → start + count ≤ end
    → slice_range xs (start + count) end ≡ drop count (slice_range xs start end)
slice_range-add xs start end count inside =
    let parts : end - start ≡ count + (end - (start + count)) = omega arith in
    sym (ap (λ j. drop count (take j (drop start xs))) parts ∙ drop-take count _ (drop start xs)
    ∙ ap (take (end - (start + count))) (drop-drop count start xs))

-- What is written at the end stands there.
pub slice_range-put_mid : (xs ys : List ℕ) (start end k n : ℕ) → start ≤ end → end ≤ length xs → n ≤ length ys
    → slice_range (put_mid end k xs ys) start (end + n) ≡ slice_range xs start end ++ take n ys
slice_range-put_mid xs ys start end k n ordered within fits =
    let front = length-take-le end xs within in
    let held = drop start (take end xs) in
    let len : length held ≡ end - start = omega (arith, length-drop start (take end xs)) in
    let sum : end + n - start ≡ (end - start) + n = omega arith in
    let parts : end ≡ start + (end - start) = omega arith in
    let same : held ≡ take (end - start) (drop start xs) =
    ap (λ j. drop start (take j xs)) parts ∙ drop-take start (end - start) xs in
    let after = ys ++ post_of end k xs in
    ap (take (end + n - start)) (drop-append-le start (take end xs) after (omega arith))
    ∙ ap (λ j. take j (held ++ after)) sum ∙ take-add (end - start) n (held ++ after)
    ∙ (rw (take_at held after _ len, drop_at held after _ len, take-append-le n ys (post_of end k xs) fits, same) refl)

-- A buffer of which the part from `at` on was written.
abbrev pub written_from : ℕ → List ℕ → List ℕ → List ℕ
written_from at xs ys = put_mid at (length xs - at) xs ys

-- The vector of the buffer then, which had these items.
abbrev pub items_after : ℕ → ℕ → List ℕ → List ℕ → List ℕ → List ℕ
items_after size at vs xs ys = take size (written_from at xs ys ++ drop (length (written_from at xs ys)) vs)

-- The buffer is as long as it was, so it is all of the vector.
pub items_written : (vs xs ys : List ℕ) (at size : ℕ) → at ≤ length xs → length ys ≡ length xs - at → length xs ≡ size
    → items_after size at vs xs ys ≡ written_from at xs ys
items_written vs xs ys at size within part long =
    let front = length-take-le at xs within in
    let rest = post_of at (length xs - at) xs in
    let all : length (written_from at xs ys) ≡ size =
    omega (
      arith,
      length-append (take at xs) (ys ++ rest),
      length-append ys rest,
      length-drop (length xs - at) (drop at xs),
      length-drop at xs,
    ) in
    take_at (written_from at xs ys) _ size all

-- A buffer with waiting bytes was made longer. What is read behind them is added to them.
pub read_behind : (moved zeros vs xs ys waiting : List ℕ) (start count longer size n : ℕ)
    → take count (drop start moved) ≡ waiting → start + count ≤ length moved → length moved ≤ longer
    → vs ≡ take longer moved ++ zeros → xs ≡ vs → length xs ≡ size
    → length ys ≡ length xs - (start + count) → n ≤ length ys
    → slice_range (items_after size (start + count) vs xs ys) start (start + count + n) ≡ waiting ++ take n ys
read_behind moved zeros vs xs ys waiting start count longer size n held within more items value long part fits =
    let is : xs ≡ moved ++ zeros = value ∙ items ∙ ap (λ l. l ++ zeros) (take_all longer moved more) in
    let sum : length xs ≡ length moved + length zeros = ap length is ∙ length-append moved zeros in
    let place : start + count - start ≡ count = omega arith in
    let inside : start + count ≤ length xs = omega arith in
    ap (λ l. slice_range l start (start + count + n)) (items_written vs xs ys (start + count) size inside part long)
    ∙ slice_range-put_mid xs ys start (start + count) (length xs - (start + count)) n (omega arith) inside fits
    ∙ ap (λ l. l ++ take n ys)
    (ap (λ j. take j (drop start xs)) place ∙ ap (λ l. take count (drop start l)) is
    ∙ ap (take count) (drop-append-le start moved zeros (omega arith))
    ∙ take-append-le count (drop start moved) zeros (omega (arith, length-drop start moved)) ∙ held)

-- The waiting bytes stay, whatever is written behind them.
pub kept_before : (moved zeros vs xs ys waiting : List ℕ) (start count longer size : ℕ)
    → take count (drop start moved) ≡ waiting → start + count ≤ length moved → length moved ≤ longer
    → vs ≡ take longer moved ++ zeros → xs ≡ vs → length xs ≡ size → length ys ≡ length xs - (start + count)
    → slice_range (items_after size (start + count) vs xs ys) start (start + count) ≡ waiting
kept_before moved zeros vs xs ys waiting start count longer size held within more items value long part =
    let none : start + count ≡ start + count + 0 = omega arith in
    ap (slice_range (items_after size (start + count) vs xs ys) start) none
    ∙ read_behind moved zeros vs xs ys waiting start count longer size 0 held within more items value long part
    (omega arith)
    ∙ append-nil waiting
