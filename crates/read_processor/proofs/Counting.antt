-- The length of lists in bytes, counted up to what a frame holds.
use Rattle.std.proofs.Common.{◌≡◌, ℕ, ◌+◌, ◌≤◌, ◌<◌, List, [], ◌∷◌, length, Option, Some, None, sym, ap, subst, ◌∙◌, arith}
use Rattle.std.specs.List.{flat_map}
use Rattle.std.proofs.lemmas.List.{length-append}
use Rattle.std.proofs.lemmas.List.Concat.{flat_map-cons}
use Rattle.jute.specs.Format.{text_or_empty, with_count, number_bytes}
use Rattle.client_records.specs.Fields.{names_format}
use Rattle.read_processor.specs.Limits.{body_limit}
use Rattle.read_processor.specs.Inner.Counts.{CountsBytes}

-- A count is written before what it counts.
pub counted_length : (n : ℕ) (bytes : List ℕ) → length (with_count n bytes) ≡ 4 + length bytes
unfolding number_bytes
counted_length n bytes = simp length-append (omega arith)

-- There is no count of bytes that are too many.
pub passed : (result : Option ℕ) (n : ℕ) → result ≡ None → body_limit < n → CountsBytes result n
passed result n is h = subst (λ (r : Option ℕ). CountsBytes r n) (sym is) h

abbrev pub spelled : List ℕ → List ℕ
spelled t = text_or_empty.written t

-- The bytes of the texts of a set, with their count.
abbrev pub all_spelled : List (List ℕ) → List ℕ
all_spelled all = names_format.written all

one_more : (t : List ℕ) (left : List (List ℕ))
    → length (flat_map spelled (t ∷ left)) ≡ length (spelled t) + length (flat_map spelled left)
one_more t left =
    ap (λ (l : List ℕ). length l) (flat_map-cons spelled t left) ∙ length-append (spelled t) (flat_map spelled left)

-- The bytes counted so far and those of the texts left are the bytes of all.
pub record Left (count : ℕ) (left all : List (List ℕ)) : Type 0 where
  pub sums : count + length (flat_map spelled left) ≡ length (all_spelled all)
  pub within : count ≤ body_limit

pub all_left : (all : List (List ℕ)) → Left 4 all all
all_left all = record {
  sums = sym (counted_length (length all) (flat_map text_or_empty.written all));
  within = omega arith;
}

-- The next text is counted.
pub one_less : {count next : ℕ} {t : List ℕ} {left all : List (List ℕ)} → Left count (t ∷ left) all
    → CountsBytes (Some next) (count + length (spelled t)) → Left next left all
one_less {t = t} {left = left} l n = record {
  sums = omega (arith, l.sums, n.0, one_more t left);
  within = omega (arith, n.0, n.1);
}

-- The next text exceeds the limit.
pub too_many : {count : ℕ} {t : List ℕ} {left all : List (List ℕ)} → Left count (t ∷ left) all
    → CountsBytes None (count + length (spelled t)) → CountsBytes None (length (all_spelled all))
too_many {t = t} {left = left} l h = omega (arith, l.sums, h, one_more t left)

-- No text is left.
pub none_left : {count : ℕ} {all : List (List ℕ)} → Left count [] all
    → CountsBytes (Some count) (length (all_spelled all))
none_left l = (omega (arith, l.sums), omega (arith, l.sums, l.within))
