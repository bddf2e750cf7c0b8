-- Rows, gathered one by one: the sessions that watch each path, and the paths that each session watches.
use Rattle.std.specs.Prelude.{◌≡◌, ℕ, ℤ, List, [], ◌∷◌, ◌++◌, Option, Some, None, unwrap_or, map, codes, if◌then◌else◌}
use Rattle.std.specs.declared.cmp.Ordering.{Ordering}
use Rattle.std.specs.BTreeSet.{BTreeSet, insert_key}
use Rattle.std.specs.FinMap.{find}
use Rattle.std.specs.List.{filter, flat_map}
use Rattle.std.specs.Ordering.{eq_by_cmp, int_cmp}
use Rattle.ephemerals.specs.Orders.{Bytes, path_cmp}
use Rattle.watch_manager.specs.Ascending.{sorted_distinct}
use Rattle.four_letter.specs.Texts.{prefixed_hex, session_line, path_line}
use Rattle.four_letter.specs.declared.figures.WatchRow.{WatchRow}
use denote.Ref.{Bor}

-- Keys, each with its values.
abbrev pub Groups : Type 0 → Type 0 → Type 0
Groups K V = List (K × List V)

-- The key has one more value, and everything else stays.
abbrev pub AddsValue : {K V : Type 0} → (K → K → Ordering) → (V → V → Ordering) → K → V → Groups K V → Groups K V
    → Type 0
AddsValue {K} {V} R S key value old new =
    (q : K) → find R q new
    ≡ (if eq_by_cmp R q key then Some (insert_key S (unwrap_or (find R key old) []) value) else find R q old)

-- The value of each row with this key.
abbrev pub values_at : {X K V : Type 0} → (K → K → Ordering) → (X → K) → (X → V) → K → List X → List V
values_at {X} R key value q rows = map value (filter (λ (x : X). eq_by_cmp R q (key x)) rows)

-- The values in order, if there are any.
abbrev pub sorted_if_any : {V : Type 0} → (V → V → Ordering) → List V → Option (List V)
sorted_if_any S [] = None
sorted_if_any S (v ∷ vs) = Some (sorted_distinct S (v ∷ vs))

-- Each key has its values.
abbrev pub GathersValues : {X K V : Type 0} → (K → K → Ordering) → (V → V → Ordering) → (X → K) → (X → V) → List X
    → Groups K V → Type 0
GathersValues {X} {K} R S key value rows all = (q : K) → find R q all ≡ sorted_if_any S (values_at R key value q rows)

-- ---- paths with their sessions

-- The entries of a map.
abbrev pub sessions_by_path : List (Bor (List ℕ) × BTreeSet ℤ) → Groups Bytes ℤ
sessions_by_path entries = map (λ (e : Bor (List ℕ) × BTreeSet ℤ). (e.0.now, e.1.keys)) entries

abbrev pub AddsSession : WatchRow → Groups Bytes ℤ → Groups Bytes ℤ → Type 0
AddsSession row old new = AddsValue path_cmp int_cmp row.path row.session old new

abbrev pub GathersSessions : List WatchRow → Groups Bytes ℤ → Type 0
GathersSessions rows all =
    GathersValues path_cmp int_cmp (λ (r : WatchRow). r.path) (λ (r : WatchRow). r.session) rows all

abbrev pub path_blocks : Groups Bytes ℤ → List ℕ
path_blocks all = flat_map (λ (e : Bytes × List ℤ). e.0 ++ codes "\n" ++ flat_map session_line e.1) all

-- ---- sessions with their paths

abbrev pub texts_of : List (Bor (List ℕ)) → List Bytes
texts_of keys = map (λ (k : Bor (List ℕ)). k.now) keys

-- The entries of a map.
abbrev pub paths_by_session : List (ℤ × BTreeSet (Bor (List ℕ))) → Groups ℤ Bytes
paths_by_session entries = map (λ (e : ℤ × BTreeSet (Bor (List ℕ))). (e.0, texts_of e.1.keys)) entries

abbrev pub AddsPath : WatchRow → Groups ℤ Bytes → Groups ℤ Bytes → Type 0
AddsPath row old new = AddsValue int_cmp path_cmp row.session row.path old new

abbrev pub GathersPaths : List WatchRow → Groups ℤ Bytes → Type 0
GathersPaths rows all =
    GathersValues int_cmp path_cmp (λ (r : WatchRow). r.session) (λ (r : WatchRow). r.path) rows all

abbrev pub watched_lines : List (Bor (List ℕ)) → List ℕ
watched_lines keys = flat_map path_line (texts_of keys)

abbrev pub session_blocks : Groups ℤ Bytes → List ℕ
session_blocks all = flat_map (λ (e : ℤ × List Bytes). prefixed_hex e.0 ++ codes "\n" ++ flat_map path_line e.1) all
