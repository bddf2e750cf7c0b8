-- The sessions that watch each path, and the paths that each session watches, gathered row by row.
use Rattle.std.proofs.Common.{◌≡◌, ℕ, ℤ, List, [], ◌∷◌, ◌++◌, map, Some, None, refl, ap, ◌∙◌, append_assoc, codes}
use Rattle.std.specs.declared.cmp.Ordering.{Ordering}
use Rattle.std.specs.declared.cmp.Ordering.TheVariants.{Less, Equal, Greater}
use Rattle.std.specs.BTreeMap.{insert_entry, is_at}
use Rattle.std.specs.BTreeSet.{BTreeSet, insert_key}
use Rattle.std.specs.List.{flat_map}
use Rattle.std.specs.List.Sorted.{IsStrictlySortedBy}
use Rattle.std.specs.Map.{lookup, set_value, keys_of}
use Rattle.std.specs.Ordering.{match_ordering, int_cmp}
use Rattle.std.specs.Cmp.{int_cmp_total}
use Rattle.std.proofs.lemmas.Map.Lookups.{exact_bytes, exact_signed}
use Rattle.ephemerals.specs.Orders.{Bytes, path_cmp}
use Rattle.ephemerals.proofs.Totals.{path_total}
use Rattle.four_letter.specs.Watched.{watched_paths, watching_sessions, all_watching_sessions, paths_watched_by}
use Rattle.four_letter.specs.Texts.{prefixed_hex, wchp_text, session_line, wchc_text, path_line}
use Rattle.four_letter.specs.Inner.Gathered.{Groups, sessions_by_path, paths_by_session, texts_of, AddsSession, AddsPath, GathersSessions, GathersPaths, path_blocks, session_blocks}
use Rattle.four_letter.specs.declared.figures.WatchRow.{WatchRow}
use Rattle.four_letter.proofs.Groups as groups
use denote.Ref.{Bor}

-- ---- paths with their sessions

abbrev SessionEntries : Type 0
SessionEntries = List (Bor (List ℕ) × BTreeSet ℤ)

abbrev path_of : Bor (List ℕ) → Bytes
path_of b = b.now

abbrev sessions_of : BTreeSet ℤ → List ℤ
sessions_of s = s.keys

pub adds_session_through : (row : WatchRow) (path : Bytes) (es new : SessionEntries) (old sessions : BTreeSet ℤ)
    → path ≡ row.path → new ≡ set_value (is_at (λ (k : Bor (List ℕ)). path_cmp path k.now)) es sessions
    → Some old ≡ lookup (is_at (λ (k : Bor (List ℕ)). path_cmp path k.now)) es
    → sessions.keys ≡ insert_key int_cmp old.keys row.session
    → AddsSession row (sessions_by_path es) (sessions_by_path new)
adds_session_through row path es new old sessions same made found is =
    groups.adds_through path_cmp int_cmp path_of sessions_of path_total exact_bytes row.path row.session path es new old
    sessions same made found is

pub adds_first_session : (row : WatchRow) (path : Bor (List ℕ)) (es new : SessionEntries) (sessions : BTreeSet ℤ)
    → path.now ≡ row.path
    → new ≡ insert_entry (λ (a b : Bor (List ℕ)). path_cmp a.now b.now) es path sessions
    → None ≡ lookup (is_at (λ (k : Bor (List ℕ)). path_cmp path.now k.now)) es
    → sessions.keys ≡ insert_key int_cmp [] row.session
    → AddsSession row (sessions_by_path es) (sessions_by_path new)
adds_first_session row path es new sessions same made none is =
    groups.adds_first path_cmp int_cmp path_of sessions_of path_total exact_bytes row.path row.session path es new
    sessions same made none is

pub gathers_session : (rows : List WatchRow) (r : WatchRow) (old new : Groups Bytes ℤ) → GathersSessions rows old
    → AddsSession r old new → GathersSessions (rows ++ r ∷ []) new
gathers_session rows r old new h adds =
    groups.gathers_row exact_bytes int_cmp_total exact_signed (λ (x : WatchRow). x.path) (λ (x : WatchRow). x.session)
    rows r old new h adds

blocks-valued : {K : Type 0} {Y : Type 0} (f : K → Y) (g : K × Y → List ℕ) (ks : List K)
    → flat_map g (map (λ (k : K). (k, f k)) ks) ≡ flat_map (λ (k : K). g (k, f k)) ks
blocks-valued f g [] = refl
blocks-valued f g (k ∷ ks) = ap (λ t. g (k, f k) ++ t) (blocks-valued f g ks)

pub path_blocks-gathered : (rows : List WatchRow) (es : SessionEntries) → GathersSessions rows (sessions_by_path es)
    → IsStrictlySortedBy (λ (a b : Bor (List ℕ)). path_cmp a.now b.now) (keys_of es)
    → path_blocks (sessions_by_path es) ≡ wchp_text rows
path_blocks-gathered rows es h sorted =
    ap (λ all. path_blocks all)
    (groups.all_gathered int_cmp path_total exact_bytes (λ (x : WatchRow). x.path) (λ (x : WatchRow). x.session) rows
    (sessions_by_path es) h (groups.sorted_groups path_cmp int_cmp path_of sessions_of es sorted))
    ∙ blocks-valued (λ path. watching_sessions path rows)
    (λ (e : Bytes × List ℤ). e.0 ++ codes "\n" ++ flat_map session_line e.1) (watched_paths rows)

-- ---- sessions with their paths

abbrev PathEntries : Type 0
PathEntries = List (ℤ × BTreeSet (Bor (List ℕ)))

abbrev same_session : ℤ → ℤ
same_session session = session

abbrev paths_of : BTreeSet (Bor (List ℕ)) → List Bytes
paths_of s = texts_of s.keys

-- The paths after one more was inserted, by what they borrow.
texts-insert : (ks : List (Bor (List ℕ))) (k : Bor (List ℕ))
    → texts_of (insert_key (λ (a b : Bor (List ℕ)). path_cmp a.now b.now) ks k)
    ≡ insert_key path_cmp (texts_of ks) k.now
texts-insert [] k = refl
texts-insert (x ∷ xs) k = by (texts-insert xs k) (path_cmp k.now x.now)
  where
    by : texts_of (insert_key (λ (a b : Bor (List ℕ)). path_cmp a.now b.now) xs k)
        ≡ insert_key path_cmp (texts_of xs) k.now → (r : Ordering)
        → texts_of (match_ordering r (k ∷ x ∷ xs) (x ∷ xs)
        (x ∷ insert_key (λ (a b : Bor (List ℕ)). path_cmp a.now b.now) xs k))
        ≡ match_ordering r (k.now ∷ texts_of (x ∷ xs)) (texts_of (x ∷ xs))
        (x.now ∷ insert_key path_cmp (texts_of xs) k.now)
    by later Less = refl
    by later Equal = refl
    by later Greater = ap (λ (t : List Bytes). x.now ∷ t) later

pub adds_path_through : (row : WatchRow) (session : ℤ) (path : Bor (List ℕ)) (es new : PathEntries)
    (old paths : BTreeSet (Bor (List ℕ))) → session ≡ row.session → path.now ≡ row.path
    → new ≡ set_value (is_at (int_cmp session)) es paths → Some old ≡ lookup (is_at (int_cmp session)) es
    → paths.keys ≡ insert_key (λ (a b : Bor (List ℕ)). path_cmp a.now b.now) old.keys path
    → AddsPath row (paths_by_session es) (paths_by_session new)
adds_path_through row session path es new old paths same text made found is =
    groups.adds_through int_cmp path_cmp same_session paths_of int_cmp_total exact_signed row.session row.path session
    es new old paths same made found
    (ap texts_of is ∙ texts-insert old.keys path ∙ ap (insert_key path_cmp (texts_of old.keys)) text)

pub adds_first_path : (row : WatchRow) (session : ℤ) (path : Bor (List ℕ)) (es new : PathEntries)
    (paths : BTreeSet (Bor (List ℕ))) → session ≡ row.session → path.now ≡ row.path
    → new ≡ insert_entry int_cmp es session paths → None ≡ lookup (is_at (int_cmp session)) es
    → paths.keys ≡ insert_key (λ (a b : Bor (List ℕ)). path_cmp a.now b.now) [] path
    → AddsPath row (paths_by_session es) (paths_by_session new)
adds_first_path row session path es new paths same text made none is =
    groups.adds_first int_cmp path_cmp same_session paths_of int_cmp_total exact_signed row.session row.path session es
    new paths same made none (ap texts_of is ∙ ap (insert_key path_cmp []) text)

pub gathers_path : (rows : List WatchRow) (r : WatchRow) (old new : Groups ℤ Bytes) → GathersPaths rows old
    → AddsPath r old new → GathersPaths (rows ++ r ∷ []) new
gathers_path rows r old new h adds =
    groups.gathers_row exact_signed path_total exact_bytes (λ (x : WatchRow). x.session) (λ (x : WatchRow). x.path)
    rows r old new h adds

pub session_blocks-gathered : (rows : List WatchRow) (es : PathEntries) → GathersPaths rows (paths_by_session es)
    → IsStrictlySortedBy int_cmp (keys_of es) → session_blocks (paths_by_session es) ≡ wchc_text rows
session_blocks-gathered rows es h sorted =
    ap (λ all. session_blocks all)
    (groups.all_gathered path_cmp int_cmp_total exact_signed (λ (x : WatchRow). x.session) (λ (x : WatchRow). x.path) rows
    (paths_by_session es) h (groups.sorted_groups int_cmp path_cmp same_session paths_of es sorted))
    ∙ blocks-valued (λ session. paths_watched_by session rows)
    (λ (e : ℤ × List Bytes). prefixed_hex e.0 ++ codes "\n" ++ flat_map path_line e.1) (all_watching_sessions rows)

-- ---- blocks of a text

pub block : (out head line_end lines rest : List ℕ)
    → (((out ++ head) ++ line_end) ++ lines) ++ rest ≡ out ++ (((head ++ line_end) ++ lines) ++ rest)
block out head line_end lines rest = simp append_assoc refl
