-- Texts, evaluated on rows given as a list.
use Rattle.std.proofs.Common.{◌≡◌, ℕ, ℤ, Bool, true, false, cond, ◌||◌, ◌&&◌, List, [], ◌∷◌, ◌++◌, length, map, refl, sym, ap, ◌∙◌, arith}
use Rattle.std.specs.Prelude.{codes}
use Rattle.std.specs.Cmp.{int_cmp_total}
use Rattle.std.specs.FinMap as finmap
use Rattle.std.specs.FinSet as set
use Rattle.std.specs.List.{list_any, filter, flat_map}
use Rattle.std.specs.Ordering.{eq_by_cmp, int_cmp}
use Rattle.std.proofs.lemmas.Map.Lookups.{exact_bytes}
use Rattle.values.proofs.Keyed.{entries-empty, set_of-empty}
use Rattle.ephemerals.specs.Orders.{Bytes, path_cmp, pair_cmp, OwnerPairs, sorted_names}
use Rattle.ephemerals.specs.Pairs.{paths_of_session}
use Rattle.ephemerals.proofs.Totals.{path_total, pair_total}
use Rattle.ephemerals.proofs.Ties.{tied_then}
use Rattle.ephemerals.proofs.SessionPaths.{contains-owned}
use Rattle.data_tree.specs.Sessions.{SessionTimeouts}
use Rattle.watch_manager.proofs.Ascending.{placed, ascending-placed, same_ascending}
use Rattle.four_letter.specs.Dumped.{has_ephemerals, owning_sessions}
use Rattle.four_letter.specs.Texts.{prefixed_hex, wchp_text, session_line, wchc_text, path_line, counted_heading, timeout_line, owner_block, dump_text}
use Rattle.four_letter.specs.Inner.Gathered.{values_at}
use Rattle.four_letter.specs.declared.figures.WatchRow.{WatchRow}
use Rattle.four_letter.proofs.Owning.{owns_none, owns_some}

-- ---- watches

-- The sessions of a path's rows, and the paths of a session's.
abbrev sessions_on : List ℕ → List WatchRow → List ℤ
sessions_on path rows = values_at path_cmp (λ (r : WatchRow). r.path) (λ (r : WatchRow). r.session) path rows

abbrev paths_by : ℤ → List WatchRow → List (List ℕ)
paths_by session rows = values_at int_cmp (λ (r : WatchRow). r.session) (λ (r : WatchRow). r.path) session rows

-- The texts with each set computed as a list.
abbrev wchp_placed : List WatchRow → List ℕ
wchp_placed rows =
    flat_map (λ path. path ++ codes "\n" ++ flat_map session_line (placed int_cmp_total (sessions_on path rows)))
    (placed path_total (map (λ (r : WatchRow). r.path) rows))

pub wchp-placed : (rows : List WatchRow) → wchp_text rows ≡ wchp_placed rows
wchp-placed rows i =
    flat_map (λ path. path ++ codes "\n"
    ++ flat_map session_line (ascending-placed int_cmp_total (sessions_on path rows) i))
    (ascending-placed path_total (map (λ (r : WatchRow). r.path) rows) i)

abbrev wchc_placed : List WatchRow → List ℕ
wchc_placed rows =
    flat_map (λ session. prefixed_hex session ++ codes "\n"
    ++ flat_map path_line (placed path_total (paths_by session rows)))
    (placed int_cmp_total (map (λ (r : WatchRow). r.session) rows))

pub wchc-placed : (rows : List WatchRow) → wchc_text rows ≡ wchc_placed rows
wchc-placed rows i =
    flat_map (λ session. prefixed_hex session ++ codes "\n"
    ++ flat_map path_line (ascending-placed path_total (paths_by session rows) i))
    (ascending-placed int_cmp_total (map (λ (r : WatchRow). r.session) rows) i)

-- ---- sessions and their ephemeral nodes

-- The entries of a map, computed as a list.
abbrev entries_placed : List (ℤ × ℤ) → List (ℤ × ℤ)
entries_placed [] = []
entries_placed (e ∷ es) = finmap.put int_cmp e.0 e.1 (entries_placed es)

entries-placed : (es : List (ℤ × ℤ)) → finmap.entries (finmap.from_entries {R = int_cmp} es) ≡ entries_placed es
entries-placed [] = entries-empty int_cmp
entries-placed (e ∷ es) =
    finmap.entries-insert int_cmp_total (finmap.from_entries {R = int_cmp} es) e.0 e.1
    ∙ ap (finmap.put int_cmp e.0 e.1) (entries-placed es)

-- The paths of a session's pairs.
abbrev names_of : ℤ → List (ℤ × Bytes) → List Bytes
names_of session [] = []
names_of session (p ∷ ps) =
    cond (eq_by_cmp int_cmp session p.0) (p.1 ∷ names_of session ps) (names_of session ps)

any-name : (session : ℤ) (q : Bytes) (ps : List (ℤ × Bytes))
    → list_any (eq_by_cmp pair_cmp (session, q)) ps ≡ list_any (eq_by_cmp path_cmp q) (names_of session ps)
any-name session q [] = refl
any-name session q (p ∷ ps) =
    (λ i. tied_then (int_cmp session p.0) (path_cmp q p.1) i || any-name session q ps i)
    ∙ by (eq_by_cmp int_cmp session p.0)
  where
    by : (b : Bool)
        → ((b && eq_by_cmp path_cmp q p.1) || list_any (eq_by_cmp path_cmp q) (names_of session ps))
        ≡ list_any (eq_by_cmp path_cmp q) (cond b (p.1 ∷ names_of session ps) (names_of session ps))
    by true = refl
    by false = refl

paths-named : (session : ℤ) (ps : List (ℤ × Bytes))
    → paths_of_session session (set.from_list ps) ≡ set.from_list (names_of session ps)
paths-named session ps = set.same_set path_total exact_bytes _ _ (λ q.
    contains-owned session (set.from_list ps) q
    ∙ set.contains-from_list pair_total ps (session, q)
    ∙ any-name session q ps
    ∙ sym (set.contains-from_list path_total (names_of session ps) q))

names-placed : (session : ℤ) (ps : List (ℤ × Bytes))
    → sorted_names (paths_of_session session (set.from_list ps)) ≡ placed path_total (names_of session ps)
names-placed session ps =
    ap sorted_names (paths-named session ps)
    ∙ same_ascending path_total exact_bytes (set.items (set.from_list (names_of session ps))) (names_of session ps)
    (λ q. sym (set.contains-items (set.from_list (names_of session ps)) q)
    ∙ set.contains-from_list path_total (names_of session ps) q)
    ∙ ascending-placed path_total (names_of session ps)

abbrev is_named : List Bytes → Bool
is_named [] = false
is_named (name ∷ names) = true

owns-named : (session : ℤ) (ps : List (ℤ × Bytes))
    → has_ephemerals (set.from_list ps) session ≡ is_named (names_of session ps)
owns-named session ps = by (names_of session ps) (paths-named session ps)
  where
    by : (names : List Bytes) → paths_of_session session (set.from_list ps) ≡ set.from_list names
        → has_ephemerals (set.from_list ps) session ≡ is_named names
    by [] is = owns_none (set.from_list ps) session is
    by (name ∷ names) is = owns_some (set.from_list ps) session (λ e.
        let none = (set_of-empty path_total exact_bytes (name ∷ names)).1 (sym is ∙ e) in absurd (omega arith))

abbrev owners_placed : List (ℤ × ℤ) → List (ℤ × Bytes) → List ℤ
owners_placed es ps =
    filter (λ session. is_named (names_of session ps)) (map (λ (e : ℤ × ℤ). e.0) (entries_placed es))

abbrev dump_placed : List (ℤ × ℤ) → List (ℤ × Bytes) → List ℕ
dump_placed es ps =
    codes "SessionTracker dump:\n"
    ++ counted_heading (codes "Global Sessions") (length (entries_placed es))
    ++ flat_map timeout_line (entries_placed es)
    ++ codes "ephemeral nodes dump:\n"
    ++ counted_heading (codes "Sessions with Ephemerals ") (length (owners_placed es ps))
    ++ flat_map (λ session. prefixed_hex session ++ codes ":\n"
    ++ flat_map path_line (placed path_total (names_of session ps))) (owners_placed es ps)

pub dump-placed : (es : List (ℤ × ℤ)) (ps : List (ℤ × Bytes))
    → dump_text (finmap.from_entries es) (set.from_list ps) ≡ dump_placed es ps
dump-placed es ps =
    ap (λ n. codes "SessionTracker dump:\n"
    ++ counted_heading (codes "Global Sessions") n
    ++ flat_map timeout_line (finmap.entries timeouts)
    ++ codes "ephemeral nodes dump:\n"
    ++ counted_heading (codes "Sessions with Ephemerals ") (length (owning_sessions timeouts pairs))
    ++ flat_map (owner_block pairs) (owning_sessions timeouts pairs)) (finmap.len-entries timeouts)
    ∙ (λ i. codes "SessionTracker dump:\n"
    ++ counted_heading (codes "Global Sessions") (length (entries-placed es i))
    ++ flat_map timeout_line (entries-placed es i)
    ++ codes "ephemeral nodes dump:\n"
    ++ counted_heading (codes "Sessions with Ephemerals ") (length (owners i))
    ++ flat_map (λ session. prefixed_hex session ++ codes ":\n" ++ flat_map path_line (names-placed session ps i))
    (owners i))
  where
    timeouts : SessionTimeouts
    timeouts = finmap.from_entries es

    pairs : OwnerPairs
    pairs = set.from_list ps

    owners : owning_sessions timeouts pairs ≡ owners_placed es ps
    owners i = filter (λ session. owns-named session ps i) (map (λ (e : ℤ × ℤ). e.0) (entries-placed es i))
