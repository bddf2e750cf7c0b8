-- The first bytes of a connection, as they come and are given on.
use Rattle.std.proofs.Common.{◌≡◌, ℕ, ◌+◌, ◌-◌, ◌≤◌, List, [], ◌++◌, length, take, drop, slice_range, Option, Some, None, refl, sym, ap, ◌∙◌, arith}
use Rattle.std.proofs.lemmas.List.{append-nil, append_assoc, take_at, drop_at, take-append-le, drop-append-le, drop-take, drop-drop, length-take-le, length-drop}
use Rattle.std.specs.Io.KnownBytes.{Keeps, Consumes}
use borrow.Rule.Slice.PartMut.{put_mid, post_of}
use lib.Seq.{take-add}
use Rattle.serve_door.specs.Beginnings.{Beginning, HasRead}

-- What is left after some were given on.
pub left_after : (xs : List ℕ) (at end count : ℕ) → at + count ≤ end
    → slice_range xs (at + count) end ≡ drop count (slice_range xs at end)
left_after xs at end count inside =
    let parts : end - at ≡ count + (end - (at + count)) = omega arith in
    sym (ap (λ j. drop count (take j (drop at xs))) parts ∙ drop-take count _ (drop at xs)
    ∙ ap (take (end - (at + count))) (drop-drop count at xs))

-- What was read at the end comes after what was there.
pub read_at_end : (xs ys : List ℕ) (at end k n : ℕ) → at ≤ end → end ≤ length xs → n ≤ length ys
    → slice_range (put_mid end k xs ys) at (end + n) ≡ slice_range xs at end ++ take n ys
read_at_end xs ys at end k n ordered within fits =
    let front = length-take-le end xs within in
    let held = drop at (take end xs) in
    let len : length held ≡ end - at = omega (arith, length-drop at (take end xs)) in
    let sum : end + n - at ≡ (end - at) + n = omega arith in
    let parts : end ≡ at + (end - at) = omega arith in
    let same : held ≡ take (end - at) (drop at xs) =
    ap (λ j. drop at (take j xs)) parts ∙ drop-take at (end - at) xs in
    let after = ys ++ post_of end k xs in
    ap (take (end + n - at)) (drop-append-le at (take end xs) after (omega arith))
    ∙ ap (λ j. take j (held ++ after)) sum ∙ take-add (end - at) n (held ++ after)
    ∙ (rw (take_at held after _ len, drop_at held after _ len, take-append-le n ys (post_of end k xs) fits, same) refl)

-- What was there stays where a read gave nothing.
pub nothing_at_end : (xs ys : List ℕ) (at end k : ℕ) → at ≤ end → end ≤ length xs
    → slice_range (put_mid end k xs ys) at end ≡ slice_range xs at end
nothing_at_end xs ys at end k ordered within =
    let none : end ≡ end + 0 = omega arith in
    ap (slice_range (put_mid end k xs ys) at) none ∙ read_at_end xs ys at end k 0 ordered within (omega arith)
    ∙ append-nil (slice_range xs at end)

with_bytes : (b : Beginning) (bytes bytes' : List ℕ) → bytes ≡ bytes'
    → record b { bytes = bytes } ≡ record b { bytes = bytes' }
with_bytes b bytes bytes' same = λ i. record b { bytes = same i }

pub reads_none : (b : Beginning) (left_then left : Option (List ℕ)) → Keeps left_then left → HasRead b b left_then left
reads_none b None left kept = ([], with_bytes b b.bytes (b.bytes ++ []) (sym (append-nil b.bytes)), tt)
reads_none b (Some xs) None kept = absurd kept
reads_none b (Some xs) (Some ys) kept =
    ([], with_bytes b b.bytes (b.bytes ++ []) (sym (append-nil b.bytes)), sym kept)

consumes_both : (one two three : Option (List ℕ)) (bs cs : List ℕ) → Consumes one two bs → Consumes two three cs
    → Consumes one three (bs ++ cs)
consumes_both None two three bs cs first then = tt
consumes_both (Some xs) None three bs cs first then = absurd first
consumes_both (Some xs) (Some ys) None bs cs first then = then
consumes_both (Some xs) (Some ys) (Some zs) bs cs first then =
    first ∙ ap (λ l. bs ++ l) then ∙ sym (append_assoc bs cs zs)

pub reads_more : (a b c : Beginning) (one two three : Option (List ℕ)) → HasRead a b one two → HasRead b c two three
    → HasRead a c one three
reads_more a b c one two three (bs, is, first) (cs, is', then) = (
  bs ++ cs,
  is' ∙ ap (λ (m : Beginning). record m { bytes = m.bytes ++ cs }) is
      ∙ with_bytes a ((a.bytes ++ bs) ++ cs) (a.bytes ++ (bs ++ cs)) (append_assoc a.bytes bs cs),
  consumes_both one two three bs cs first then,
)
