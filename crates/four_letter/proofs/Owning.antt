-- The sessions of a tree that own ephemeral nodes.
use Rattle.std.proofs.Common.{◌≡◌, ◌≢◌, ℕ, zero, suc, ◌+◌, ◌-◌, ◌≤◌, ℤ, Bool, true, false, IsTrue, ◌↔◌, List, [], ◌∷◌, ◌++◌, length, map, refl, sym, ap, ◌∙◌, arith}
use Rattle.std.specs.Prelude.{nat_lt, if◌then◌else◌}
use Rattle.std.specs.List.{filter, flat_map}
use Rattle.std.specs.FinSet as set
use Rattle.std.proofs.lemmas.Bool.{lt-ltb}
use mathlib.Core.Bool.{true≢false}
use Rattle.ephemerals.specs.Orders.{OwnerPairs, path_cmp}
use Rattle.ephemerals.specs.Pairs.{paths_of_session}
use Rattle.four_letter.specs.Dumped.{has_ephemerals}
use Rattle.four_letter.specs.Texts.{owner_block}
use Rattle.four_letter.specs.Inner.Owners.{owner_if_any}

pub owns_none : (pairs : OwnerPairs) (session : ℤ) → paths_of_session session pairs ≡ set.empty
    → has_ephemerals pairs session ≡ false
owns_none pairs session none = ap (λ n. nat_lt 0 n) (ap set.len none ∙ set.len-empty path_cmp)

pub owns_some : (pairs : OwnerPairs) (session : ℤ) → paths_of_session session pairs ≢ set.empty
    → has_ephemerals pairs session ≡ true
owns_some pairs session some = by (set.len (paths_of_session session pairs)) refl
  where
    by : (n : ℕ) → set.len (paths_of_session session pairs) ≡ n → nat_lt 0 n ≡ true
    by zero e = absurd (some (set.empty_of_len (paths_of_session session pairs) e))
    by (suc n) e = lt-ltb 0 (suc n) (omega arith)

-- What `owns_any` tells.
pub owns_if_any : (pairs : OwnerPairs) (session : ℤ) (owns : Bool)
    → IsTrue owns ↔ (paths_of_session session pairs ≢ set.empty) → has_ephemerals pairs session ≡ owns
owns_if_any pairs session true is = owns_some pairs session (is.0 refl)
owns_if_any pairs session false is = by (set.len (paths_of_session session pairs)) refl
  where
    by : (n : ℕ) → set.len (paths_of_session session pairs) ≡ n → nat_lt 0 n ≡ false
    by zero e = refl
    by (suc n) e =
        absurd (true≢false (sym (is.1 (λ none.
        absurd (omega (arith, sym e ∙ ap set.len none ∙ set.len-empty path_cmp))))))

-- The sessions of the entries.
abbrev pub sessions_in : List (ℤ × ℤ) → List ℤ
sessions_in es = map (λ (e : ℤ × ℤ). e.0) es

abbrev pub owners_in : OwnerPairs → List (ℤ × ℤ) → List ℤ
owners_in pairs es = filter (has_ephemerals pairs) (sessions_in es)

owners_few : (pairs : OwnerPairs) (es : List (ℤ × ℤ)) → length (owners_in pairs es) ≤ length es
owners_few pairs [] = omega arith
owners_few pairs (e ∷ es) = by (has_ephemerals pairs e.0) (owners_few pairs es)
  where
    by : (b : Bool) → length (owners_in pairs es) ≤ length es
        → length (if b then e.0 ∷ owners_in pairs es else owners_in pairs es) ≤ suc (length es)
    by true few = omega arith
    by false few = omega arith

-- As many as are counted, beside the entries that are left.
abbrev pub IsCounted : OwnerPairs → ℕ → List (ℤ × ℤ) → ℕ → Type 0
IsCounted pairs all rest count = count + length (owners_in pairs rest) ≡ length rest + all

pub counted-owner : (pairs : OwnerPairs) (all : ℕ) (e : ℤ × ℤ) (rest : List (ℤ × ℤ)) (count : ℕ)
    → has_ephemerals pairs e.0 ≡ true → IsCounted pairs all (e ∷ rest) count → IsCounted pairs all rest count
counted-owner pairs all e rest count owns is =
    let here : length (owners_in pairs (e ∷ rest)) ≡ suc (length (owners_in pairs rest)) =
    ap (λ b. length (if b then e.0 ∷ owners_in pairs rest else owners_in pairs rest)) owns in
    omega (arith, here, is)

pub counted-other : (pairs : OwnerPairs) (all : ℕ) (e : ℤ × ℤ) (rest : List (ℤ × ℤ)) (count : ℕ)
    → has_ephemerals pairs e.0 ≡ false → IsCounted pairs all (e ∷ rest) count
    → (1 ≤ count) × IsCounted pairs all rest (count - 1)
counted-other pairs all e rest count owns is =
    let here : length (owners_in pairs (e ∷ rest)) ≡ length (owners_in pairs rest) =
    ap (λ b. length (if b then e.0 ∷ owners_in pairs rest else owners_in pairs rest)) owns in
    (omega (arith, here, is, owners_few pairs rest), omega (arith, here, is, owners_few pairs rest))

-- The lines of each session, where those without ephemeral nodes have none.
abbrev pub owner_lines : OwnerPairs → List (ℤ × ℤ) → List ℕ
owner_lines pairs es = flat_map (owner_if_any pairs) (sessions_in es)

pub owner_lines-owners : (pairs : OwnerPairs) (es : List (ℤ × ℤ))
    → owner_lines pairs es ≡ flat_map (owner_block pairs) (owners_in pairs es)
owner_lines-owners pairs [] = refl
owner_lines-owners pairs (e ∷ es) = by (has_ephemerals pairs e.0) (owner_lines-owners pairs es)
  where
    by : (b : Bool) → owner_lines pairs es ≡ flat_map (owner_block pairs) (owners_in pairs es)
        → (if b then owner_block pairs e.0 else []) ++ owner_lines pairs es
        ≡ flat_map (owner_block pairs) (if b then e.0 ∷ owners_in pairs es else owners_in pairs es)
    by true later = ap (λ t. owner_block pairs e.0 ++ t) later
    by false later = later
