-- Values within the limits fit the formats of their phases, and their bytes spell them.
use Rattle.std.proofs.Common.{◌≡◌, ℕ, suc, ◌-◌, ◌≤◌, ℤ, Bool, true, false, cond, ◌==◌, T, List, [], ◌∷◌, ◌++◌, map, length, Some, is_some, Ok, Err, refl, sym, ap, subst, ◌∙◌, arith, true≢false}
use Rattle.std.specs.declared.cmp.Ordering.TheVariants.{Less}
use Rattle.std.specs.FinMap as finmap
use Rattle.std.specs.FinMap.{find, is_sorted}
use Rattle.std.specs.FinMap.Entries.{below_all}
use Rattle.settings.specs.declared.dialect.Dialect.{Dialect}
use Rattle.settings.specs.declared.dialect.Dialect.TheVariants.{Zk34}
use Rattle.std.specs.List.{AllByRecursion}
use Rattle.std.specs.Ordering.{is_lt, eq_by_cmp}
use Rattle.std.specs.Str.{IsUtf8, is_utf8}
use lib.Utf8.{encode}
use Rattle.std.proofs.lemmas.Bool.{eqb-true}
use Rattle.std.proofs.lemmas.Str.{is_utf8-from_IsUtf8}
use Rattle.std.proofs.lemmas.Map.Lookups.{exact_bytes}
use Rattle.std.proofs.lemmas.Map.Views.{tells_apart}
use Rattle.values.specs.declared.fault.Fault.TheVariants.{BadText, BadPath}
use Rattle.ephemerals.specs.Orders.{Bytes, path_cmp}
use Rattle.ephemerals.proofs.Totals.{path_total}
use Rattle.jute.specs.Format.{◌>>=◌, int, long, buffer_limit, text_of, text_format, pair_of}
use Rattle.jute.specs.Relation.{SpellsItems}
use Rattle.jute.specs.declared.owned.Acl.{Acl}
use Rattle.paths_and_acls.specs.Paths.{is_root, is_path}
use Rattle.node_map.specs.declared.node.Node.{Node}
use Rattle.data_tree.specs.State.{State}
use Rattle.data_tree.specs.Whole.{IsWhole}
use Rattle.snapshot_codec.specs.Dialects.{stored_stat, KeepsOwner}
use Rattle.snapshot_codec.specs.Parts.{Value, Path, Close, Part, root_path, signature_text, next_value, node_body, part_stream, list_format, part_format, part_after, sessions_from, acls_from}
use Rattle.snapshot_codec.specs.Written.{walk_cmp, walk_of, Lists, lists_of, key_of, session_part, list_part, node_values, values_of, bytes_from, IsWithinLimits}
use Rattle.snapshot_codec.specs.declared.part.PartPhase.{PartPhase}
use Rattle.snapshot_codec.specs.declared.part.PartPhase.TheVariants.{SessionCount, Sessions, AclCount, Acls, Root, Nodes}
use Rattle.snapshot_codec.proofs.Formats.{part_sound, part_written, root_is}
use Rattle.snapshot_codec.proofs.WalkOrder.{here_some, first, second, less, walk_find, walk_sorted, none_before_root}

-- ---- bytes

abbrev pub FitFrom : Dialect → PartPhase → List Value → Type 0
FitFrom dialect phase [] = Unit {0}
FitFrom dialect phase (v ∷ vs) = (part_format dialect phase).Fits v × FitFrom dialect (part_after phase v) vs

pub stand_written : (dialect : Dialect) (vs : List Value) (phase : PartPhase) → FitFrom dialect phase vs
    → (end : PartPhase) × SpellsItems (part_stream dialect) vs phase (bytes_from phase vs) end []
stand_written dialect [] phase h = (phase, (refl, refl))
stand_written dialect (v ∷ vs) phase h =
    let others = stand_written dialect vs (part_after phase v) h.1 in (
      others.0,
      (
        (part_format Zk34 phase).written v,
        bytes_from (part_after phase v) vs,
        refl,
        subst (λ (b : List ℕ). (part_format dialect phase).Spells v b) (part_written dialect phase v)
            ((part_sound dialect phase).lawful.writes v h.0),
        others.1,
      ),
    )

-- ---- sessions and lists, as many as counted

pub not_zero : (n : ℕ) → (suc n == 0) ≡ false
not_zero n = by (suc n == 0) refl
  where
    by : (b : Bool) → (suc n == 0) ≡ b → b ≡ false
    by true e = let none : suc n ≡ 0 = eqb-true (suc n) 0 e in absurd (omega arith)
    by false e = refl

pub one_less : (n : ℕ) → n ≡ suc n - 1
one_less n = omega arith

sessions_fit : (dialect : Dialect) (xs : List (ℤ × ℤ)) (vs : List Value) → AllByRecursion (pair_of long int).Fits xs
    → FitFrom dialect AclCount vs
    → FitFrom dialect (sessions_from (length xs)) (map (λ x. Part (session_part x)) xs ++ vs)
sessions_fit dialect [] vs h k = k
sessions_fit dialect (x ∷ xs) vs h k =
    let behind = map (λ (y : ℤ × ℤ). Part (session_part y)) xs ++ vs in
    subst (λ b. FitFrom dialect (cond b AclCount (Sessions (suc (length xs)))) (Part (session_part x) ∷ behind))
    (sym (not_zero (length xs))) (
      (refl, h.0),
      subst (λ n. FitFrom dialect (sessions_from n) behind) (one_less (length xs))
          (sessions_fit dialect xs vs h.1 k),
    )

lists_fit : (dialect : Dialect) (xs : Lists) (vs : List Value)
    → AllByRecursion (λ (l : ℤ × List Acl). (pair_of long (list_format dialect)).Fits (l.0, Some l.1)) xs
    → FitFrom dialect Root vs
    → FitFrom dialect (acls_from (length xs)) (map (λ x. Part (list_part x)) xs ++ vs)
lists_fit dialect [] vs h k = k
lists_fit dialect (x ∷ xs) vs h k =
    let behind = map (λ (y : ℤ × List Acl). Part (list_part y)) xs ++ vs in
    subst (λ b. FitFrom dialect (cond b Root (Acls (suc (length xs)))) (Part (list_part x) ∷ behind))
    (sym (not_zero (length xs))) (
      (refl, h.0),
      subst (λ n. FitFrom dialect (acls_from n) behind) (one_less (length xs))
          (lists_fit dialect xs vs h.1 k),
    )

-- ---- texts

text_fits : (t : List ℕ) → is_utf8 t ≡ true → length t ≤ buffer_limit → text_format.Fits (Some t)
text_fits t is short =
    let made : text_of (Some t) ≡ Ok (Some t) = ap (λ b. cond b (Ok (Some t)) (Err BadText)) is in (made, short)

none_is_text : IsUtf8 []
unfolding encode
none_is_text = ([], (refl, refl))

slash_is_text : IsUtf8 root_path
unfolding encode
slash_is_text = (root_path, (refl, refl))

signature_is_text : IsUtf8 signature_text
unfolding encode
signature_is_text = (signature_text, (refl, refl))

no_text : text_format.Fits (Some [])
no_text = text_fits [] (is_utf8-from_IsUtf8 [] none_is_text) (omega arith)

slash_text : text_format.Fits (Some root_path)
slash_text = text_fits root_path (is_utf8-from_IsUtf8 root_path slash_is_text) (omega arith)

end_text : text_format.Fits (Some signature_text)
end_text = text_fits signature_text (is_utf8-from_IsUtf8 signature_text signature_is_text) (omega arith)

-- ---- nodes

module _ (dialect : Dialect) (lists : Lists) where
  abbrev Paths : List (Bytes × Node) → Type 0
  Paths es = AllByRecursion (λ (e : Bytes × Node). text_format.Fits (Some e.0)) es

  abbrev Bodies : List (Bytes × Node) → Type 0
  Bodies es =
      AllByRecursion (λ (e : Bytes × Node).
      node_body.Fits (e.1.bytes, (key_of lists e.1.acl, stored_stat e.1)) × KeepsOwner dialect e.1) es

  abbrev Others : List (Bytes × Node) → Type 0
  Others es = AllByRecursion (λ (e : Bytes × Node). (is_root e.0 ≡ false) × (is_path e.0 ≡ true)) es

  next_path : (p : Bytes) → is_root p ≡ false → is_path p ≡ true → next_value (Some p) ≡ Ok (Path p)
  next_path p other is = λ i. cond (other i) (Ok Close) (cond (is i) (Ok p) (Err BadPath) >>= λ path. Ok (Path path))

  nodes_fit : (es : List (Bytes × Node)) → Others es → Paths es → Bodies es
      → FitFrom dialect Nodes (node_values lists es)
  nodes_fit [] o p b = ((refl, slash_text), ((refl, end_text), tt))
  nodes_fit (e ∷ es) o p b =
      ((next_path e.0 o.0.0 o.0.1, p.0), ((refl, b.0.0), nodes_fit es o.1 p.1 b.1))

  first_fits : (p : Bytes) → is_root p ≡ true → (part_format dialect Root).Fits (Path p)
  first_fits p root =
      subst (λ (q : Bytes). (part_format dialect Root).Fits (Path q)) (sym (root_is p root)) (refl, no_text)

-- ---- the root is the first node

less_found : (k q : Bytes) (es : List (Bytes × Node)) → T (below_all walk_cmp k es)
    → is_some (find path_cmp q es) ≡ true → walk_cmp k q ≡ Less
less_found k q [] h some = absurd (true≢false (sym some))
less_found k q (e ∷ es) h some =
    by (less_found k q es (second (is_lt (walk_cmp k e.0)) (below_all walk_cmp k es) h)) (eq_by_cmp path_cmp q e.0)
    refl some
  where
    by : (is_some (find path_cmp q es) ≡ true → walk_cmp k q ≡ Less) → (b : Bool) → eq_by_cmp path_cmp q e.0 ≡ b
        → is_some (cond b (Some e.1) (find path_cmp q es)) ≡ true → walk_cmp k q ≡ Less
    by later true is j =
        ap (walk_cmp k) (tells_apart exact_bytes q e.0 is)
        ∙ less (walk_cmp k e.0) (first (is_lt (walk_cmp k e.0)) (below_all walk_cmp k es) h)
    by later false is j = later j

abbrev pub ArePaths : List (Bytes × Node) → Type 0
ArePaths es = (q : Bytes) → is_some (find path_cmp q es) ≡ true → is_path q ≡ true

pub behind_first : (e : Bytes × Node) (es : List (Bytes × Node)) → ArePaths (e ∷ es) → ArePaths es
behind_first e es h q some = h q (by (eq_by_cmp path_cmp q e.0))
  where
    by : (b : Bool) → is_some (cond b (Some e.1) (find path_cmp q es)) ≡ true
    by true = refl
    by false = some

pub others : (es : List (Bytes × Node)) → T (below_all walk_cmp root_path es) → ArePaths es
    → AllByRecursion (λ (e : Bytes × Node). (is_root e.0 ≡ false) × (is_path e.0 ≡ true)) es
others [] h p = tt
others (e ∷ es) h p = (
  (by (is_root e.0) refl, p e.0 (here_some path_total e es)),
  others es (second (is_lt (walk_cmp root_path e.0)) (below_all walk_cmp root_path es) h) (behind_first e es p),
)
  where
    above : walk_cmp root_path e.0 ≡ Less
    above = less (walk_cmp root_path e.0) (first (is_lt (walk_cmp root_path e.0)) (below_all walk_cmp root_path es) h)

    by : (b : Bool) → is_root e.0 ≡ b → b ≡ false
    by true root = absurd (none_before_root root_path refl (ap (walk_cmp root_path) (sym (root_is e.0 root)) ∙ above))
    by false root = refl

pub first_root : (e : Bytes × Node) (es : List (Bytes × Node)) → T (is_sorted walk_cmp (e ∷ es)) → ArePaths (e ∷ es)
    → is_some (find path_cmp root_path (e ∷ es)) ≡ true → root_path ≡ e.0
first_root e es h p some = by (eq_by_cmp path_cmp root_path e.0) refl some
  where
    by : (b : Bool) → eq_by_cmp path_cmp root_path e.0 ≡ b
        → is_some (cond b (Some e.1) (find path_cmp root_path es)) ≡ true
        → root_path ≡ e.0
    by true is k = tells_apart exact_bytes root_path e.0 is
    by false is k =
        absurd (none_before_root e.0 (p e.0 (here_some path_total e es))
        (less_found e.0 root_path es (first (below_all walk_cmp e.0 es) (is_sorted walk_cmp es) h) k))

walk_fits : (dialect : Dialect) (lists : Lists) (es : List (Bytes × Node)) → T (is_sorted walk_cmp es) → ArePaths es
    → is_some (find path_cmp root_path es) ≡ true → Paths dialect lists es → Bodies dialect lists es
    → FitFrom dialect Root (node_values lists es)
walk_fits dialect lists [] h p some ps bs = absurd (true≢false (sym some))
walk_fits dialect lists (e ∷ es) h p some ps bs =
    let root = first_root e es h p some in
    let below : T (below_all walk_cmp root_path es) = subst (λ (q : Bytes). T (below_all walk_cmp q es)) (sym root)
    (first (below_all walk_cmp e.0 es) (is_sorted walk_cmp es) h) in (
      first_fits dialect lists e.0 (ap is_root (sym root)),
      ((refl, bs.0.0), nodes_fit dialect lists es (others es below (behind_first e es p)) ps.1 bs.1),
    )

pub values_fit : (dialect : Dialect) (s : State) → IsWhole s
    → IsWithinLimits dialect (finmap.entries s.sessions) (lists_of s.nodes) (walk_of s.nodes)
    → FitFrom dialect SessionCount (values_of s)
values_fit dialect s w l = (
  (refl, l.session_count),
  sessions_fit dialect (finmap.entries s.sessions) _ l.sessions (
    (refl, l.list_count),
    lists_fit dialect (lists_of s.nodes) _ l.lists
        (walk_fits dialect (lists_of s.nodes) (walk_of s.nodes) (walk_sorted s.nodes)
        (λ q some. w.named.paths q (sym (ap is_some (walk_find s.nodes q)) ∙ some))
        (ap is_some (walk_find s.nodes root_path) ∙ w.root) l.paths l.nodes),
  ),
)
