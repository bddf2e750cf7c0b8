-- The nearest of the options so far.
use Rattle.std.proofs.Common.{◌≡◌, ◌<◌, ◌≤◌, ◌+◌, ℕ, List, ◌⊎◌, inl, inr, Option, Some, None, arith, sym, ap, subst, ◌∙◌}
use Rattle.std.specs.Prelude.{slice_index_or}
use Rattle.std.proofs.Math.Nat.{eq-or-lt_of_le}
use Rattle.std.proofs.lemmas.List.{get_or_default}
use Rattle.serve_options.specs.declared.row.Name.{Name}
use Rattle.serve_options.specs.declared.row.TheConstants.{NAMES}
use Rattle.serve_options.specs.Places.{name_place}
use Rattle.serve_options.specs.Near.{edits_to, IsNearest}
use Rattle.serve_options.proofs.Names.{name_at, place_at, place_below}

-- More edits lead to each name before this place.
abbrev pub IsLess : List ℕ → ℕ → ℕ → Type 0
IsLess word i fewest = (k : ℕ) (name : Name) → k < i → fewest < edits_to word (slice_index_or NAMES k name)

-- The fewest edits so far: three where no name is at most two away.
abbrev pub IsFewest : List ℕ → Option Name → ℕ → Type 0
IsFewest word None fewest = fewest ≡ 3
IsFewest word (Some near) fewest =
    (fewest ≡ edits_to word near) × (fewest ≤ 2) × IsLess word (name_place near) fewest

at_most : (word : List ℕ) (found : Option Name) (fewest : ℕ) → IsFewest word found fewest → fewest ≤ 3
at_most word None fewest is = omega arith
at_most word (Some near) fewest is = let few : fewest ≤ 2 = is.1 in omega arith

-- What holds of each name so far and of this one holds of one name more.
abbrev pub IsLeast : List ℕ → ℕ → ℕ → Type 0
IsLeast word i fewest = (k : ℕ) (name : Name) → k < i → fewest ≤ edits_to word (slice_index_or NAMES k name)

one_more : (word : List ℕ) (i fewest : ℕ) → IsLeast word i fewest
    → ((name : Name) → fewest ≤ edits_to word (slice_index_or NAMES i name)) → IsLeast word (i + 1) fewest
one_more word i fewest before here k name below = by (eq-or-lt_of_le (omega arith))
  where
    by : (k ≡ i) ⊎ (k < i) → fewest ≤ edits_to word (slice_index_or NAMES k name)
    by (inl same) = subst (λ (j : ℕ). fewest ≤ edits_to word (slice_index_or NAMES j name)) (sym same) (here name)
    by (inr less) = before k name less

-- The edits to the name at a place, however its default is named.
edits_at : (word : List ℕ) (i edits : ℕ) (d name : Name) → i < 32 → edits ≡ edits_to word (slice_index_or NAMES i d)
    → edits ≡ edits_to word (slice_index_or NAMES i name)
edits_at word i edits d name below is = is ∙ ap (edits_to word) (get_or_default NAMES i d name below)

pub least_then : (word : List ℕ) (i fewest edits new : ℕ) (d : Name) → i < 32
    → edits ≡ edits_to word (slice_index_or NAMES i d) → new ≡ edits → edits < fewest → IsLeast word i fewest
    → IsLeast word (i + 1) new
least_then word i fewest edits new d below is same less before =
    one_more word i new
    (λ k name b. let h : fewest ≤ edits_to word (slice_index_or NAMES k name) = before k name b in omega arith)
    (λ name.
    let h : edits ≡ edits_to word (slice_index_or NAMES i name) = edits_at word i edits d name below is in omega arith)

pub least_else : (word : List ℕ) (i fewest edits new : ℕ) (d : Name) → i < 32
    → edits ≡ edits_to word (slice_index_or NAMES i d) → new ≡ fewest → fewest ≤ edits → IsLeast word i fewest
    → IsLeast word (i + 1) new
least_else word i fewest edits new d below is same less before =
    one_more word i new
    (λ k name b. let h : fewest ≤ edits_to word (slice_index_or NAMES k name) = before k name b in omega arith)
    (λ name.
    let h : edits ≡ edits_to word (slice_index_or NAMES i name) = edits_at word i edits d name below is in omega arith)

-- Before the place of the name that is nearer than all so far no name is as near.
less_before : (word : List ℕ) (i fewest edits new : ℕ) (d : Name) → i < 32 → new ≡ edits → edits < fewest
    → IsLeast word i fewest → IsLess word (name_place (slice_index_or NAMES i d)) new
less_before word i fewest edits new d below same less before k name b =
    let at : name_place (slice_index_or NAMES i d) ≡ i = place_at i d below in
    let h : fewest ≤ edits_to word (slice_index_or NAMES k name) = before k name (omega arith) in omega arith

pub fewest_then : (word : List ℕ) (old found : Option Name) (i fewest edits new : ℕ) (d : Name) → i < 32
    → edits ≡ edits_to word (slice_index_or NAMES i d) → found ≡ Some (slice_index_or NAMES i d) → new ≡ edits
    → edits < fewest → IsLeast word i fewest → IsFewest word old fewest → IsFewest word found new
fewest_then word old found i fewest edits new d below is near_is same less least before =
    let le : fewest ≤ 3 = at_most word old fewest before in
    subst (λ (f : Option Name). IsFewest word f new) (sym near_is)
    (same ∙ is, omega arith, less_before word i fewest edits new d below same less least)

pub fewest_else : (word : List ℕ) (old found : Option Name) (fewest new : ℕ) → found ≡ old → new ≡ fewest
    → IsFewest word old fewest → IsFewest word found new
fewest_else word old found fewest new found_is same before =
    subst (λ (f : Option Name). IsFewest word f new) (sym found_is)
    (subst (λ (n : ℕ). IsFewest word old n) (sym same) before)

pub all_names : (word : List ℕ) (i fewest : ℕ) → 32 ≤ i
    → IsLeast word i fewest → (name : Name) → fewest ≤ edits_to word name
all_names word i fewest all before name =
    let below : name_place name < 32 = place_below name in
    subst (λ (n : Name). fewest ≤ edits_to word n) (name_at name) (before (name_place name) name (omega arith))

pub nearest_is : (word : List ℕ) (found : Option Name) (fewest : ℕ) → IsFewest word found fewest
    → ((name : Name) → fewest ≤ edits_to word name) → IsNearest word found
nearest_is word None fewest is all = λ name. let h : fewest ≤ edits_to word name = all name in omega arith
nearest_is word (Some near) fewest is all =
    let few : edits_to word near ≤ 2 = subst (λ (n : ℕ). n ≤ 2) is.0 is.1 in (
      few,
      λ name. subst (λ (n : ℕ). n ≤ edits_to word name) is.0 (all name),
      λ name before. subst (λ (n : Name). edits_to word near < edits_to word n) (name_at name)
          (subst (λ (n : ℕ). n < edits_to word (slice_index_or NAMES (name_place name) name)) is.0
          (is.2 (name_place name) name before)),
    )
