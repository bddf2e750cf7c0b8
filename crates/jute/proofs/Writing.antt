-- Loops that write items, or sum their lengths.
use Rattle.std.proofs.Common.{◌≡◌, ℕ, suc, ◌+◌, ◌<◌, ◌≤◌, List, ◌∷◌, ◌++◌, length, take, drop, get_or, Result, Ok, Err, sym, ap, subst, ◌∙◌}
use Rattle.std.specs.Prelude.{ℤ, FitsSigned}
use Rattle.std.specs.Int.{Width}
use Rattle.std.specs.List.{flat_map}
use Rattle.std.specs.Result.{IsErr}
use mir.Val.{to_z, of_z}
use Rattle.std.proofs.lemmas.Int.{to_z-of_z}
use Rattle.std.proofs.lemmas.Grind.{flat_map-append}
use Rattle.std.proofs.lemmas.List.Concat.{flat_map-cons}
use Rattle.std.proofs.lemmas.List.Folds.{length-flat_map-take}
use Rattle.std.proofs.Math.Seq.{split_at}
use Rattle.values.specs.Gains.{Gains, Puts}
use Rattle.jute.specs.Format.{number_bytes}
use Rattle.values.proofs.Gaining.{gains_first, gains_behind, gains_same}

-- The items before one were written, and a prefix of that one.
pub gains_item : {A : Type 0} (w : A → List ℕ) (old mid new : List ℕ) (items : List A) (i : ℕ) (item : A)
    → i < length items → item ≡ get_or items i item
    → mid ≡ old ++ flat_map w (take i items) → Gains mid (w item) new → Gains old (flat_map w items) new
gains_item w old mid new items i item lt is put gains =
    let behind = flat_map w (drop (suc i) items) in
    let parts : items ≡ take i items ++ item ∷ drop (suc i) items = split_at items i item lt
    ∙ ap (λ x. take i items ++ x ∷ drop (suc i) items) (sym is) in
    let whole : flat_map w items ≡ flat_map w (take i items) ++ (w item ++ behind) =
    ap (flat_map w) parts ∙ flat_map-append w (take i items) (item ∷ drop (suc i) items)
    ∙ ap (λ x. flat_map w (take i items) ++ x) (flat_map-cons w item (drop (suc i) items)) in
    gains_same (sym whole) (gains_behind old (flat_map w (take i items)) put (gains_first behind gains))

-- A call that failed has appended a prefix.
pub fails : {E : Type 0} {old items new : List ℕ} (r : Result (Unit {0}) E) → IsErr r → Gains old items new
    → Puts r old items new
fails (Ok u) h g = absurd cc
fails (Err e) h g = g

-- Numbers, which are passed as their bits.
pub puts_number : {E : Type 0} (r : Result (Unit {0}) E) (w : Width) (z : ℤ) (old new : List ℕ) → FitsSigned w z
    → Puts r old (number_bytes w (to_z w (of_z w z))) new → Puts r old (number_bytes w z) new
puts_number r w z old new fits h = subst (λ (y : ℤ). Puts r old (number_bytes w y) new) (to_z-of_z w z fits) h

-- Numbers that are passed by reference.
pub number_kept : (w : Width) (z : ℤ) → FitsSigned w z → to_z w (of_z w z) ≡ z
number_kept w z fits = to_z-of_z w z fits

-- The items up to and including one are no longer than all of them.
pub length_item : {A : Type 0} (w : A → List ℕ) (items : List A) (i : ℕ) (item : A) → i < length items
    → item ≡ get_or items i item
    → length (flat_map w (take i items)) + length (w item) ≤ length (flat_map w items)
length_item w items i item lt is = subst (λ x. length (flat_map w (take i items)) + length (w x) ≤ length
    (flat_map w items)) (sym is) (length-flat_map-take w items i item lt)

-- Fields that were set one after the other.
pub joined : (a b x y : List ℕ) → a ≡ b → x ≡ y → a ++ x ≡ b ++ y
joined a b x y first rest = ap (λ l. l ++ x) first ∙ ap (λ l. b ++ l) rest
