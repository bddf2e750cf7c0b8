-- The bytes of an image, section by section.
use Rattle.std.proofs.Common.{◌≡◌, ℕ, suc, ℤ, true, false, cond, T, List, [], ◌∷◌, ◌++◌, map, length, Some, is_some, Result, Err, refl, sym, ap, subst, ◌∙◌, true≢false, append_assoc, append-nil}
use Rattle.std.specs.FinMap as finmap
use Rattle.std.specs.FinMap.{find, is_sorted}
use Rattle.std.specs.FinMap.Entries.{below_all}
use Rattle.settings.specs.declared.dialect.Dialect.{Dialect}
use Rattle.std.specs.List.{flat_map, AllByRecursion}
use Rattle.ephemerals.specs.Orders.{Bytes, path_cmp}
use Rattle.jute.specs.Format.{int, long, count_format, count_limit, text_format, pair_of}
use Rattle.jute.specs.declared.owned.Acl.{Acl}
use Rattle.paths_and_acls.specs.Paths.{is_root, is_path}
use Rattle.node_map.specs.declared.node.Node.{Node}
use Rattle.data_tree.specs.State.{State}
use Rattle.data_tree.specs.Whole.{IsWhole}
use Rattle.snapshot_codec.specs.Dialects.{stored_stat, KeepsOwner}
use Rattle.snapshot_codec.specs.Parts.{Value, Part, root_path, signature_text, node_body}
use Rattle.snapshot_codec.specs.Written.{walk_cmp, walk_of, Lists, lists_from, lists_of, key_of, session_part, list_part, counted_values, node_values, bytes_from, image_bytes, FitsImageIn}
use Rattle.snapshot_codec.specs.Writes.{sessions_bytes, FitSessions, keyed_bytes, table_bytes, FitLists, MakesTable, nodes_bytes, FitNodes, WritesBytes}
use Rattle.snapshot_codec.specs.declared.write_error.WriteError.{WriteError}
use Rattle.snapshot_codec.specs.declared.write_error.WriteError.TheVariants.{NotWhole, NoMemory}
use Rattle.snapshot_codec.specs.declared.part.PartPhase.TheVariants.{Sessions, AclCount, Acls, Root, Nodes}
use Rattle.snapshot_codec.specs.Parts.{sessions_from, acls_from}
use Rattle.snapshot_codec.proofs.Limits.{not_zero, one_less, ArePaths, behind_first, others, first_root}
use Rattle.snapshot_codec.proofs.WalkOrder.{first, walk_find, walk_sorted}

sessions_out : (xs : List (ℤ × ℤ)) (vs : List Value)
    → bytes_from (sessions_from (length xs)) (map (λ x. Part (session_part x)) xs ++ vs)
    ≡ flat_map (pair_of long int).written xs ++ bytes_from AclCount vs
sessions_out [] vs = refl
sessions_out (x ∷ xs) vs =
    let behind = map (λ (y : ℤ × ℤ). Part (session_part y)) xs ++ vs in
    let own = (pair_of long int).written x in
    ap (λ b. bytes_from (cond b AclCount (Sessions (suc (length xs)))) (Part (session_part x) ∷ behind))
    (not_zero (length xs))
    ∙ ap (λ n. own ++ bytes_from (sessions_from n) behind) (sym (one_less (length xs)))
    ∙ ap (λ (b : List ℕ). own ++ b) (sessions_out xs vs)
    ∙ sym (append_assoc own (flat_map (pair_of long int).written xs) (bytes_from AclCount vs))

lists_out : (xs : Lists) (vs : List Value)
    → bytes_from (acls_from (length xs)) (map (λ x. Part (list_part x)) xs ++ vs)
    ≡ flat_map keyed_bytes xs ++ bytes_from Root vs
lists_out [] vs = refl
lists_out (x ∷ xs) vs =
    let behind = map (λ (y : ℤ × List Acl). Part (list_part y)) xs ++ vs in
    ap (λ b. bytes_from (cond b Root (Acls (suc (length xs)))) (Part (list_part x) ∷ behind)) (not_zero (length xs))
    ∙ ap (λ n. keyed_bytes x ++ bytes_from (acls_from n) behind) (sym (one_less (length xs)))
    ∙ ap (λ (b : List ℕ). keyed_bytes x ++ b) (lists_out xs vs)
    ∙ sym (append_assoc (keyed_bytes x) (flat_map keyed_bytes xs) (bytes_from Root vs))

pub end_bytes : List ℕ
end_bytes = text_format.written (Some root_path) ++ text_format.written (Some signature_text)

module _ (lists : Lists) where
  abbrev body : Bytes × Node → List ℕ
  body e = node_body.written (e.1.bytes, (key_of lists e.1.acl, stored_stat e.1))

  abbrev NotRoots : List (Bytes × Node) → Type 0
  NotRoots es = AllByRecursion (λ (e : Bytes × Node). is_root e.0 ≡ false) es

  behind_path : (path : List ℕ) (e : Bytes × Node) (es : List (Bytes × Node))
      → path ++ (body e ++ (nodes_bytes lists es ++ end_bytes))
      ≡ ((path ++ body e) ++ nodes_bytes lists es) ++ end_bytes
  behind_path path e es =
      sym (append_assoc path (body e) (nodes_bytes lists es ++ end_bytes))
      ∙ sym (append_assoc (path ++ body e) (nodes_bytes lists es) end_bytes)

  nodes_out : (es : List (Bytes × Node)) → NotRoots es
      → bytes_from Nodes (node_values lists es) ≡ nodes_bytes lists es ++ end_bytes
  unfolding end_bytes
  nodes_out [] h = ap (λ (b : List ℕ). text_format.written (Some root_path) ++ b)
      (append-nil (text_format.written (Some signature_text)))
  nodes_out (e ∷ es) h =
      ap (λ (b : List ℕ). text_format.written (Some e.0) ++ (body e ++ b)) (nodes_out es h.1)
      ∙ ap (λ r. text_format.written (Some (cond r [] e.0)) ++ (body e ++ (nodes_bytes lists es ++ end_bytes)))
      (sym h.0)
      ∙ behind_path (text_format.written (Some (cond (is_root e.0) [] e.0))) e es

  root_out : (e : Bytes × Node) (es : List (Bytes × Node)) → NotRoots es
      → bytes_from Root (node_values lists (e ∷ es)) ≡ nodes_bytes lists (e ∷ es) ++ end_bytes
  root_out e es h =
      ap (λ (b : List ℕ). text_format.written (Some (cond (is_root e.0) [] e.0)) ++ (body e ++ b)) (nodes_out es h)
      ∙ behind_path (text_format.written (Some (cond (is_root e.0) [] e.0))) e es

  walk_out : (es : List (Bytes × Node)) → T (is_sorted walk_cmp es) → ArePaths es
      → is_some (find path_cmp root_path es) ≡ true
      → bytes_from Root (node_values lists es) ≡ nodes_bytes lists es ++ end_bytes
  walk_out [] h p some = absurd (true≢false (sym some))
  walk_out (e ∷ es) h p some =
      let root = first_root e es h p some in
      let below : T (below_all walk_cmp root_path es) = subst (λ (q : Bytes). T (below_all walk_cmp q es)) (sym root)
      (first (below_all walk_cmp e.0 es) (is_sorted walk_cmp es) h) in
      root_out e es (no_roots es (others es below (behind_first e es p)))
    where
      no_roots : (fs : List (Bytes × Node))
          → AllByRecursion (λ (f : Bytes × Node). (is_root f.0 ≡ false) × (is_path f.0 ≡ true)) fs
          → NotRoots fs
      no_roots [] k = tt
      no_roots (f ∷ fs) k = (k.0.0, no_roots fs k.1)

-- The sections of a whole state's image.
pub sections : (s : State) → IsWhole s
    → ((sessions_bytes (finmap.entries s.sessions) ++ table_bytes (lists_of s.nodes))
    ++ nodes_bytes (lists_of s.nodes) (walk_of s.nodes)) ++ end_bytes
    ≡ image_bytes s
sections s w = sym (
    ap (λ (b : List ℕ). counted (length ids) ++ b)
    (sessions_out ids (counted_values list_part table ++ node_values table es))
    ∙ ap (λ (b : List ℕ). counted (length ids)
    ++ (flat_map (pair_of long int).written ids ++ (counted (length table) ++ b)))
    (lists_out table (node_values table es))
    ∙ ap (λ (b : List ℕ). counted (length ids)
    ++ (flat_map (pair_of long int).written ids ++ (counted (length table) ++ (flat_map keyed_bytes table ++ b))))
    (walk_out table es (walk_sorted s.nodes)
    (λ q some. w.named.paths q (sym (ap is_some (walk_find s.nodes q)) ∙ some))
    (ap is_some (walk_find s.nodes root_path) ∙ w.root))
    ∙ joined (counted (length ids)) (flat_map (pair_of long int).written ids) (counted (length table))
    (flat_map keyed_bytes table)
    (nodes_bytes table es) end_bytes)
  where
    ids : List (ℤ × ℤ)
    ids = finmap.entries s.sessions

    table : Lists
    table = lists_of s.nodes

    es : List (Bytes × Node)
    es = walk_of s.nodes

    counted : ℕ → List ℕ
    counted n = (count_format count_limit).written (Some n)

    joined : (a b c d e f : List ℕ) → a ++ (b ++ (c ++ (d ++ (e ++ f)))) ≡ (((a ++ b) ++ (c ++ d)) ++ e) ++ f
    joined a b c d e f =
        sym (append_assoc a b (c ++ (d ++ (e ++ f))))
        ∙ ap (λ (t : List ℕ). (a ++ b) ++ t) (sym (append_assoc c d (e ++ f)))
        ∙ sym (append_assoc (a ++ b) (c ++ d) (e ++ f))
        ∙ sym (append_assoc ((a ++ b) ++ (c ++ d)) e f)

-- ---- the limits, section by section

module _ {A : Type 0} (P Q : A → Type 0) where
  pub all_both : (xs : List A) → AllByRecursion P xs → AllByRecursion Q xs → AllByRecursion (λ x. P x × Q x) xs
  all_both [] p q = tt
  all_both (x ∷ xs) p q = ((p.0, q.0), all_both xs p.1 q.1)

  pub all_first : (xs : List A) → AllByRecursion (λ x. P x × Q x) xs → AllByRecursion P xs
  all_first [] h = tt
  all_first (x ∷ xs) h = (h.0.0, all_first xs h.1)

  pub all_second : (xs : List A) → AllByRecursion (λ x. P x × Q x) xs → AllByRecursion Q xs
  all_second [] h = tt
  all_second (x ∷ xs) h = (h.0.1, all_second xs h.1)

module _ (dialect : Dialect) (s : State) where
  abbrev table : Lists
  table = lists_of s.nodes

  abbrev PathFits : Bytes × Node → Type 0
  PathFits e = text_format.Fits (Some e.0)

  abbrev BodyFits : Bytes × Node → Type 0
  BodyFits e = node_body.Fits (e.1.bytes, (key_of table e.1.acl, stored_stat e.1)) × KeepsOwner dialect e.1

  pub fits_image : IsWhole s → FitSessions (finmap.entries s.sessions) → FitLists dialect table
      → FitNodes dialect table (walk_of s.nodes) → FitsImageIn dialect s
  fits_image w a b c = (
    w,
    record {
      session_count = a.0;
      sessions = a.1;
      list_count = b.0;
      lists = b.1;
      paths = all_first PathFits BodyFits (walk_of s.nodes) c;
      nodes = all_second PathFits BodyFits (walk_of s.nodes) c;
    },
  )

  pub fit_sessions : FitsImageIn dialect s → FitSessions (finmap.entries s.sessions)
  fit_sessions h = (h.1.session_count, h.1.sessions)

  pub fit_lists : FitsImageIn dialect s → FitLists dialect table
  fit_lists h = (h.1.list_count, h.1.lists)

  pub fit_nodes : FitsImageIn dialect s → FitNodes dialect table (walk_of s.nodes)
  fit_nodes h = all_both PathFits BodyFits (walk_of s.nodes) h.1.paths h.1.nodes

-- ---- the bytes written by each call

module _ (s : State) (rows : List (Bytes × Node)) (is : rows ≡ walk_of s.nodes) where
  pub put_all : (ids : List (ℤ × ℤ)) (zero one two three four all : List ℕ) → IsWhole s
      → ids ≡ finmap.entries s.sessions → zero ≡ [] → one ≡ zero ++ sessions_bytes ids
      → two ≡ one ++ table_bytes (lists_from [] rows)
      → three ≡ two ++ nodes_bytes (lists_from [] rows) rows
      → four ≡ three ++ text_format.written (Some root_path) → all ≡ four ++ text_format.written (Some signature_text)
      → all ≡ image_bytes s
  unfolding end_bytes
  put_all ids zero one two three four all w same a b c d e f =
      f ∙ ap (λ (t : List ℕ). t ++ text_format.written (Some signature_text)) e
      ∙ append_assoc three (text_format.written (Some root_path)) (text_format.written (Some signature_text))
      ∙ ap (λ (t : List ℕ). t ++ end_bytes) (d ∙ (λ i. (c ∙ (λ j. (b ∙ (λ k. a k ++ sessions_bytes (same k))) j
      ++ table_bytes (lists_from [] (is j)))) i ++ nodes_bytes (lists_from [] (is i)) (is i)))
      ∙ sections s w

  pub all_fit : (dialect : Dialect) (ids : List (ℤ × ℤ)) → IsWhole s → ids ≡ finmap.entries s.sessions → FitSessions ids
      → FitLists dialect (lists_from [] rows) → FitNodes dialect (lists_from [] rows) rows → FitsImageIn dialect s
  all_fit dialect ids w same a b c =
      fits_image dialect s w (subst FitSessions same a)
      (subst (λ (es : List (Bytes × Node)). FitLists dialect (lists_from [] es)) is b)
      (subst (λ (es : List (Bytes × Node)). FitNodes dialect (lists_from [] es) es) is c)

  pub lists_refused : {A : Type 0} (dialect : Dialect) (e : WriteError)
      → MakesTable dialect (Err e) (lists_from [] rows)
      → ◌≡◌ {A = Result A WriteError} (Err e) (Err NotWhole) → FitsImageIn dialect s → ⊥
  lists_refused dialect NotWhole bad same h =
      bad (subst (λ (es : List (Bytes × Node)). FitLists dialect (lists_from [] es)) (sym is) (fit_lists dialect s h))
  lists_refused dialect NoMemory bad same h = absurd cc

  pub nodes_refused : {A : Type 0} (dialect : Dialect) (e : WriteError) (bytes old new : List ℕ)
      → WritesBytes (Err e) bytes old new (FitNodes dialect (lists_from [] rows) rows)
      → ◌≡◌ {A = Result A WriteError} (Err e) (Err NotWhole) → FitsImageIn dialect s → ⊥
  nodes_refused dialect NotWhole bytes old new bad same h =
      bad (subst (λ (es : List (Bytes × Node)). FitNodes dialect (lists_from [] es) es) (sym is)
      (fit_nodes dialect s h))
  nodes_refused dialect NoMemory bytes old new bad same h = absurd cc
