-- Texts in runs, one run after the other.
use Rattle.std.specs.Prelude.{◌≡◌, ◌<◌, ◌≤◌, ℕ, List, [], ◌∷◌, Bool, true, length, take, drop, slice_index_or}
use Rattle.std.specs.List.{flat_map, AllByRecursion}
use Rattle.std.specs.List.Sorted.{IsStrictlySortedBy}
use Rattle.std.specs.declared.cmp.Ordering.TheVariants.{Less}
use Rattle.std.specs.Ordering.{is_lt}
use Rattle.std.specs.FinSet as set
use Rattle.ephemerals.specs.Orders.{Bytes, Names, path_cmp}

-- The texts of all runs.
abbrev pub joined : List (List Bytes) → List Bytes
joined runs = flat_map (λ (run : List Bytes). run) runs

abbrev pub names_in : List (List Bytes) → Names
names_in runs = set.from_list (joined runs)

-- The number of texts before a run.
abbrev pub texts_before : List (List Bytes) → ℕ → ℕ
texts_before runs i = length (joined (take i runs))

abbrev pub AreFilled : List (List Bytes) → Type 0
AreFilled runs = AllByRecursion (λ (run : List Bytes). 0 < length run) runs

-- No run is empty, and the texts ascend, also from one run to the next.
pub record AreRuns (runs : List (List Bytes)) : Type 0 where
  pub filled : AreFilled runs
  pub ascending : IsStrictlySortedBy path_cmp (joined runs)

abbrev pub AreBelow : Bytes → List Bytes → Type 0
AreBelow text texts = AllByRecursion (λ (t : Bytes). path_cmp t text ≡ Less) texts

abbrev pub AreAbove : Bytes → List Bytes → Type 0
AreAbove text texts = AllByRecursion (λ (t : Bytes). path_cmp text t ≡ Less) texts

-- Whether the last of the texts is below this one.
abbrev pub ends_below : Bytes → List Bytes → Bool
ends_below text [] = true
ends_below text (t ∷ []) = is_lt (path_cmp t text)
ends_below text (t ∷ u ∷ texts) = ends_below text (u ∷ texts)

-- The text is at the place.
pub record IsAt (text : Bytes) (texts : List Bytes) (place : ℕ) : Type 0 where
  pub in_range : place < length texts
  pub is : slice_index_or texts place [] ≡ text

-- The text would go before the one at the place.
pub record IsGapFor (text : Bytes) (texts : List Bytes) (place : ℕ) : Type 0 where
  pub in_range : place ≤ length texts
  pub below : AreBelow text (take place texts)
  pub above : AreAbove text (drop place texts)
