-- The state that an image makes is whole.
use Rattle.std.proofs.Common.{◌≡◌, ℕ, Bool, true, false, not, cond, eqb, ◌&&◌, ◌||◌, List, [], ◌∷◌, ◌++◌, Option, Some, None, is_some, Result, Ok, Err, refl, sym, ap, subst, ◌∙◌, append_assoc, ◌⊎◌, inl, inr}
use mathlib.Core.Bool.{true≢false}
use Rattle.std.specs.Cmp.{tied_itself}
use Rattle.std.specs.FinMap as finmap
use Rattle.std.specs.FinMap.{find}
use Rattle.std.specs.FinMap.Entries.{find-append}
use Rattle.std.specs.List.{flat_map, list_any, list_all}
use Rattle.std.specs.Ordering.{eq_by_cmp, is_eq}
use Rattle.std.specs.Str.{bytes_eq}
use Rattle.std.proofs.lemmas.Bool.{eqb-true}
use Rattle.std.proofs.lemmas.Grind.{flat_map-append}
use Rattle.std.proofs.lemmas.Map.Lookups.{exact_bytes}
use Rattle.std.proofs.lemmas.Map.Views.{tells_apart}
use Rattle.settings.specs.declared.dialect.Dialect.{Dialect}
use Rattle.values.specs.declared.fault.Fault.{Fault}
use Rattle.values.specs.declared.fault.Fault.TheVariants.{BadPath, BadImage}
use Rattle.ephemerals.specs.Orders.{Bytes, path_cmp}
use Rattle.ephemerals.proofs.Totals.{path_total}
use Rattle.jute.specs.Loading.{EndsAt, EndsOnce}
use Rattle.jute.specs.Relation.{SpellsItems}
use Rattle.jute.proofs.Public.{bind_ok, ok_is, guard_ended}
use Rattle.paths_and_acls.specs.Paths.{are_names, is_root, is_path, is_child_path, checked_path, has_slash, before_last_slash, after_last_slash, or_root, parent_of, name_of, child_of}
use Rattle.node_map.specs.Agreement.{has_node, is_listed_at, is_listed, has_parent, is_child_name, AreNamed}
use Rattle.node_map.specs.declared.node.Node.{Node}
use Rattle.data_tree.specs.State.{State}
use Rattle.data_tree.specs.Naming.{PathsEndInNames}
use Rattle.data_tree.specs.Whole.{IsWhole}
use Rattle.snapshot_codec.specs.Image.{SessionEntries, Lists, Rows, parts_in, rows_in, HasPlace, IsAllowedAfter, AreAllowedAfter, is_child, AreAt, IsMadeOf, SpellsImageIn}
use Rattle.snapshot_codec.specs.Made.{image_load}
use Rattle.snapshot_codec.specs.Parts.{Value, Count, Path, Close, Part, root_path, count_value, session_value, acl_value, root_value, next_value, node_value, path_value, signature_text, signature_value, sessions_from, acls_from, part_stream, part_format, part_after, is_end}
use Rattle.snapshot_codec.specs.declared.part.ImageNode.{ImageNode}
use Rattle.snapshot_codec.specs.declared.part.ImagePart.{ImagePart}
use Rattle.snapshot_codec.specs.declared.part.ImagePart.TheVariants as part
use Rattle.snapshot_codec.specs.declared.part.PartPhase.{PartPhase}
use Rattle.snapshot_codec.specs.declared.part.PartPhase.TheVariants.{SessionCount, Sessions as SessionsLeft, AclCount, Acls as AclsLeft, Root, Nodes, Body, Signature}
use Rattle.snapshot_codec.proofs.Formats.{path_is, root_is}
use Rattle.snapshot_codec.proofs.Images.{gained, kept}
use Rattle.snapshot_codec.proofs.Making.{no_rows}

-- ---- a path is made of its parent and its name

pub all_behind : (text : Bytes) → has_slash text ≡ false → after_last_slash text ≡ text
all_behind [] none = refl
all_behind (b ∷ text) none = rw none refl

pub or_true : (b : Bool) → (b || true) ≡ true
or_true true = refl
or_true false = refl

or_left : (a : Bool) → (a || false) ≡ true → a ≡ true
or_left true e = refl
or_left false e = e

cut_is : (text : Bytes) → has_slash text ≡ true → before_last_slash text ++ 47 ∷ after_last_slash text ≡ text
cut_is [] e = absurd (true≢false (sym e))
cut_is (b ∷ text) e = by (cut_is text) (has_slash text) refl e
  where
    by : (has_slash text ≡ true → before_last_slash text ++ 47 ∷ after_last_slash text ≡ text)
        → (more : Bool) → has_slash text ≡ more → (eqb b 47 || more) ≡ true
        → before_last_slash (b ∷ text) ++ 47 ∷ after_last_slash (b ∷ text) ≡ b ∷ text
    by later true h k = rw (h, or_true (eqb b 47)) (ap (λ (t : Bytes). b ∷ t) (later h))
    by later false h k =
        let is : eqb b 47 ≡ true = or_left (eqb b 47) k in
        rw (h, is) (ap (λ (t : Bytes). 47 ∷ t) (all_behind text h) ∙ ap (λ (n : ℕ). n ∷ text) (sym (eqb-true b 47 is)))

and_false : (b : Bool) → (b && false) ≡ false
and_false true = refl
and_false false = refl

-- No name is empty.
no_double : (text : Bytes) → is_path (47 ∷ 47 ∷ text) ≡ true → ⊥
no_double text e = true≢false (sym e ∙ and_false (list_all (λ b. not (eqb b 0)) (47 ∷ text)))

child_by : (before after : Bytes) → is_path (before ++ 47 ∷ after) ≡ true
    → child_of (or_root before) after ≡ before ++ 47 ∷ after
child_by [] after e = refl
child_by (b ∷ before) after e = by (is_root (b ∷ before)) refl
  where
    by : (r : Bool) → is_root (b ∷ before) ≡ r
        → cond r ((b ∷ before) ++ after) ((b ∷ before) ++ 47 ∷ after) ≡ (b ∷ before) ++ 47 ∷ after
    by false h = refl
    by true h = absurd (no_double after (subst (λ (t : Bytes). is_path (t ++ 47 ∷ after) ≡ true)
        (root_is (b ∷ before) h) e))

slash_first : (path : Bytes) → is_path path ≡ true → has_slash path ≡ true
slash_first [] e = absurd (true≢false (sym e))
slash_first (b ∷ path) e = by (eqb b 47) refl
  where
    not_root : (r : Bool) → eqb b 47 ≡ false → is_root (b ∷ path) ≡ r → r ≡ false
    not_root false h k = refl
    not_root true h k = absurd
        (true≢false (sym (ap (λ (t : Bytes). has_slash t) (root_is (b ∷ path) k)) ∙ plain path h k))
      where
        plain : (p : Bytes) → eqb b 47 ≡ false → is_root (b ∷ p) ≡ true → has_slash (b ∷ p) ≡ false
        plain [] n m = rw n refl
        plain (c ∷ p) n m = absurd (true≢false (sym m))

    by : (s : Bool) → eqb b 47 ≡ s → (s || has_slash path) ≡ true
    by true h = refl
    by false h = absurd (true≢false (sym e ∙ (λ i. not_root (is_root (b ∷ path)) h refl i || (h i && are_names path))))

pub child_is : (path : Bytes) → is_path path ≡ true → child_of (parent_of path) (name_of path) ≡ path
child_is path e =
    let cut = cut_is path (slash_first path e) in
    child_by (before_last_slash path) (after_last_slash path) (subst (λ (t : Bytes). is_path t ≡ true) (sym cut) e)
    ∙ cut

-- ---- the values of a phase

ArePaths : Rows → Type 0
ArePaths [] = Unit {0}
ArePaths (r ∷ rows) = (is_path r.0 ≡ true) × ArePaths rows

-- The path that a phase holds is valid.
abbrev Keeps : PartPhase → Type 0
Keeps (Body path) = is_path path ≡ true
Keeps phase = Unit {0}

-- A node has to come.
abbrev waits : PartPhase → Bool
waits Nodes = false
waits Signature = false
waits phase = true

abbrev rows_at : Value → Rows
rows_at v = flat_map rows_in (parts_in v)

abbrev Step : PartPhase → Value → Type 0
Step phase v =
    ArePaths (rows_at v) × Keeps (part_after phase v)
    × (waits phase ≡ true → (no_rows (rows_at v) ≡ false) ⊎ ((is_end v ≡ false) × (waits (part_after phase v) ≡ true)))

sessions_on : (n : ℕ) → Keeps (sessions_from n) × (waits (sessions_from n) ≡ true)
sessions_on n = by (eqb n 0)
  where
    by : (b : Bool) → Keeps (cond b AclCount (SessionsLeft n)) × (waits (cond b AclCount (SessionsLeft n)) ≡ true)
    by true = (tt, refl)
    by false = (tt, refl)

acls_on : (n : ℕ) → Keeps (acls_from n) × (waits (acls_from n) ≡ true)
acls_on n = by (eqb n 0)
  where
    by : (b : Bool) → Keeps (cond b Root (AclsLeft n)) × (waits (cond b Root (AclsLeft n)) ≡ true)
    by true = (tt, refl)
    by false = (tt, refl)

text_path : (t : Bytes) (v : Value) → path_value t ≡ Ok v → is_path t ≡ true
text_path t v e =
    let p = bind_ok (checked_path t) (λ path. (let r : Result Value Fault = Ok (Path path) in r)) v e in
    (guard_ended (is_path t) BadPath t p.0 p.1).0

count_step : (phase : PartPhase) (on : (n : ℕ) → Keeps (part_after phase (Count n))
    × (waits (part_after phase (Count n)) ≡ true))
    (a : Option ℕ) (v : Value) → count_value a ≡ Ok v → Step phase v
unfolding ArePaths no_rows
count_step phase on None v e = absurd cc
count_step phase on (Some n) v e = subst (Step phase) (ok_is (Count n) v e) (tt, (on n).0, λ w. inr (refl, (on n).1))

root_step : (a : Option (List ℕ)) (v : Value) → root_value a ≡ Ok v → Step Root v
unfolding ArePaths no_rows
root_step None v e = absurd cc
root_step (Some []) v e = subst (Step Root) (ok_is (Path root_path) v e) (tt, refl, λ w. inr (refl, refl))
root_step (Some (b ∷ t)) v e = by (is_root (b ∷ t)) e
  where
    by : (r : Bool) → cond r (Err BadImage) (path_value (b ∷ t)) ≡ Ok v → Step Root v
    by true k = absurd cc
    by false k = subst (Step Root) (sym (path_is (b ∷ t) v k)) (tt, text_path (b ∷ t) v k, λ w. inr (refl, refl))

next_step : (a : Option (List ℕ)) (v : Value) → next_value a ≡ Ok v → Step Nodes v
unfolding ArePaths no_rows
next_step None v e = absurd cc
next_step (Some t) v e = by (is_root t) e
  where
    good : Value → Result Value Fault
    good x = Ok x

    by : (r : Bool) → cond r (Ok Close) (path_value t) ≡ Ok v → Step Nodes v
    by true k = subst (Step Nodes) (ok_is Close v k) (tt, tt, λ w. absurd (true≢false (sym w)))
    by false k = subst (Step Nodes) (sym (path_is t v k)) (tt, text_path t v k, λ w. absurd (true≢false (sym w)))

end_step : (a : Option (List ℕ)) (v : Value) → signature_value a ≡ Ok v → Step Signature v
unfolding ArePaths no_rows
end_step None v e = absurd cc
end_step (Some t) v e =
    subst (Step Signature) (guard_ended (bytes_eq t signature_text) BadImage (Part part.End) v e).1
    (tt, tt, λ w. absurd (true≢false (sym w)))

step_of : (dialect : Dialect) (phase : PartPhase) (v : Value) (text : List ℕ)
    → (part_format dialect phase).Spells v text → Keeps phase
    → Step phase v
unfolding ArePaths no_rows
step_of dialect SessionCount v text s k = count_step SessionCount sessions_on s.0 v s.1
step_of dialect (SessionsLeft n) v text s k =
    subst (Step (SessionsLeft n)) (ok_is (session_value s.0) v s.1)
    (tt, (sessions_on _).0, λ w. inr (refl, (sessions_on _).1))
step_of dialect AclCount v text s k = count_step AclCount acls_on s.0 v s.1
step_of dialect (AclsLeft n) v text s k =
    subst (Step (AclsLeft n)) (ok_is (acl_value s.0) v s.1) (tt, (acls_on _).0, λ w. inr (refl, (acls_on _).1))
step_of dialect Root v text s k = root_step s.0 v s.1
step_of dialect Nodes v text s k = next_step s.0 v s.1
step_of dialect (Body path) v text s k =
    subst (Step (Body path)) (ok_is (node_value path s.0) v s.1) ((k, tt), tt, λ w. inl refl)
step_of dialect Signature v text s k = end_step s.0 v s.1

-- ---- the whole image

paths_more : (r s : Rows) → ArePaths r → ArePaths s → ArePaths (r ++ s)
unfolding ArePaths
paths_more [] s h k = k
paths_more (x ∷ r) s h k = (h.0, paths_more r s h.1 k)

some_more : (r s : Rows) → (no_rows r ≡ false) ⊎ (no_rows s ≡ false) → no_rows (r ++ s) ≡ false
unfolding no_rows
some_more [] s (inl h) = absurd (true≢false h)
some_more [] s (inr h) = h
some_more (x ∷ r) s h = refl

abbrev rows_of : List Value → Rows
rows_of vs = flat_map rows_in (flat_map parts_in vs)

rows_first : (v : Value) (vs : List Value) → rows_of (v ∷ vs) ≡ rows_at v ++ rows_of vs
rows_first v vs = flat_map-append rows_in (parts_in v) (flat_map parts_in vs)

stand_paths : (dialect : Dialect) (vs : List Value) (phase end : PartPhase) (bytes rest : List ℕ)
    → SpellsItems (part_stream dialect) vs phase bytes end rest
    → Keeps phase → ArePaths (rows_of vs)
unfolding ArePaths
stand_paths dialect [] phase end bytes rest h k = tt
stand_paths dialect (v ∷ vs) phase end bytes rest h k =
    let s = step_of dialect phase v h.0 h.3 k in
    subst ArePaths (sym (rows_first v vs))
    (paths_more (rows_at v) (rows_of vs) s.0 (stand_paths dialect vs (part_after phase v) end h.1 rest h.4 s.1))

going_on : (last : Bool) (vs : List Value) (others : Type 0) → EndsAt last vs others → last ≡ false → others
going_on true vs others h e = absurd (true≢false e)
going_on false vs others h e = h

node_comes : (dialect : Dialect) (vs : List Value) (phase end : PartPhase) (bytes rest : List ℕ)
    → SpellsItems (part_stream dialect) vs phase bytes end rest
    → Keeps phase
    → EndsOnce (image_load dialect) vs → waits phase ≡ true → no_rows (rows_of vs) ≡ false
node_comes dialect [] phase end bytes rest h k ends w = absurd ends
node_comes dialect (v ∷ vs) phase end bytes rest h k ends w =
    let s = step_of dialect phase v h.0 h.3 k in
    ap no_rows (rows_first v vs)
    ∙ some_more (rows_at v) (rows_of vs) (elim (s.2 w) [
      | inl node ↦ inl node
      | inr on ↦
          inr (node_comes dialect vs (part_after phase v) end h.1 rest h.4 s.1
          (going_on (is_end v) vs (EndsOnce (image_load dialect) vs) ends on.0) on.1)
    ])

-- ---- parents

pub record Linked (rows : Rows) : Type 0 where
  pub parents : (path : Bytes) → is_some (find path_cmp path rows) ≡ true → is_root path ≡ false
      → is_some (find path_cmp (parent_of path) rows) ≡ true
  pub root : no_rows rows ≡ false → is_some (find path_cmp root_path rows) ≡ true

no_links : Linked []
unfolding no_rows
no_links = record {
  parents = λ path some other. absurd (true≢false (sym some));
  root = λ some. absurd
      (true≢false some);
}

module _ (rows : Rows) (path : Bytes) (row : ImageNode) (l : Linked rows) where
  abbrev more : Rows
  more = rows ++ (path, row) ∷ []

  root_linked : is_root path ≡ true → rows ≡ [] → Linked more
  root_linked root first = record {
    parents = λ q some other. absurd (true≢false (sym root ∙ ap is_root (sym (same q some)) ∙ other));
    root = λ some. ap (λ (r : Rows). is_some (find path_cmp root_path (r ++ (path, row) ∷ []))) first
        ∙ ap (λ (p : Bytes). is_some (find path_cmp root_path ((p, row) ∷ []))) (root_is path root)
        ∙ ap (λ t. is_some (cond (is_eq t) (Some row) None)) (tied_itself path_total root_path);
  }
    where
      found : (q : Bytes) (b : Bool) → eq_by_cmp path_cmp q path ≡ b → is_some (cond b (Some row) None) ≡ true
          → q ≡ path
      found q true e some = tells_apart exact_bytes q path e
      found q false e some = absurd (true≢false (sym some))

      same : (q : Bytes) → is_some (find path_cmp q more) ≡ true → q ≡ path
      same q some =
          found q (eq_by_cmp path_cmp q path) refl
          (sym (ap (λ (r : Rows). is_some (find path_cmp q (r ++ (path, row) ∷ []))) first) ∙ some)

  module _ (new : find path_cmp path rows ≡ None) (parent : is_some (find path_cmp (parent_of path) rows) ≡ true) where
    more_find : (q : Bytes) → is_some (find path_cmp q more)
        ≡ is_some (cond (eq_by_cmp path_cmp q path) (Some row) (find path_cmp q rows))
    more_find q = ap is_some (find-append path_cmp path_total rows path row q new)

    still : (q : Bytes) → is_some (find path_cmp q rows) ≡ true → is_some (find path_cmp q more) ≡ true
    still q some = more_find q ∙ by (eq_by_cmp path_cmp q path)
      where
        by : (b : Bool) → is_some (cond b (Some row) (find path_cmp q rows)) ≡ true
        by true = refl
        by false = some

    some_rows : (r : Rows) → is_some (find path_cmp (parent_of path) r) ≡ true → no_rows r ≡ false
    unfolding no_rows
    some_rows [] some = absurd (true≢false (sym some))
    some_rows (x ∷ r) some = refl

    child_linked : Linked more
    child_linked = record {
      parents = λ q some other. by q (eq_by_cmp path_cmp q path) refl (sym (more_find q) ∙ some) other;
      root = λ some. still root_path (l.root (some_rows rows parent));
    }
      where
        by : (q : Bytes) (b : Bool) → eq_by_cmp path_cmp q path ≡ b
            → is_some (cond b (Some row) (find path_cmp q rows)) ≡ true
            → is_root q ≡ false → is_some (find path_cmp (parent_of q) more) ≡ true
        by q true e some other =
            ap (λ (p : Bytes). is_some (find path_cmp (parent_of p) more)) (tells_apart exact_bytes q path e)
            ∙ still (parent_of path) parent
        by q false e some other = still (parent_of q) (l.parents q some other)

  pub node_linked : (b : Bool) → is_root path ≡ b → HasPlace b rows path → Linked more
  node_linked true e h = root_linked e h
  node_linked false e h = child_linked h.0 h.1

linked_part : (dialect : Dialect) (front : List ImagePart) (p : ImagePart) → Linked (flat_map rows_in front)
    → IsAllowedAfter dialect front p
    → Linked (flat_map rows_in (front ++ p ∷ []))
linked_part dialect front (part.Session s) l h = subst Linked (kept rows_in front (part.Session s) refl) l
linked_part dialect front (part.Acl a) l h = subst Linked (kept rows_in front (part.Acl a) refl) l
linked_part dialect front part.End l h = subst Linked (kept rows_in front part.End refl) l
linked_part dialect front (part.Node n) l h =
    subst Linked (gained rows_in front (part.Node n) ((n.path, n) ∷ []) refl)
    (node_linked (flat_map rows_in front) n.path n l (is_root n.path) refl h.0)

linked_all : (dialect : Dialect) (ps front : List ImagePart) → Linked (flat_map rows_in front)
    → AreAllowedAfter dialect front ps
    → Linked (flat_map rows_in (front ++ ps))
linked_all dialect [] front l h = subst Linked (kept rows_in front part.End refl
    ∙ flat_map-append rows_in front (part.End ∷ []) ∙ sym (flat_map-append rows_in front [])) l
linked_all dialect (p ∷ ps) front l h =
    subst (λ (xs : List ImagePart). Linked (flat_map rows_in xs)) (append_assoc front (p ∷ []) ps)
    (linked_all dialect ps (front ++ p ∷ []) (linked_part dialect front p l h.0) h.1)

-- ---- whole

and_both : (a b : Bool) → (a && b) ≡ true → (a ≡ true) × (b ≡ true)
and_both true b k = (refl, k)
and_both false b k = absurd (true≢false (sym k))

module _ (dialect : Dialect) (s : State) (ids : SessionEntries) (named : Lists) (rows : Rows)
    (made : IsMadeOf dialect s ids named rows)
    (l : Linked rows) (paths : ArePaths rows) (ends : PathsEndInNames) where
  there : (path : Bytes) → has_node s.nodes path ≡ is_some (find path_cmp path rows)
  there path = by (find path_cmp path rows) (finmap.get s.nodes path) (made.nodes path)
    where
      by : (row : Option ImageNode) (node : Option Node) → AreAt dialect named rows path row node
          → is_some node ≡ is_some row
      by None None h = refl
      by (Some r) (Some n) h = refl
      by None (Some n) h = absurd h
      by (Some r) None h = absurd h

  listed : (path name : Bytes) → has_node s.nodes path ≡ true
      → is_listed_at s.nodes path name ≡ list_any (is_child path name) rows
  listed path name some = by (find path_cmp path rows) (finmap.get s.nodes path) (made.nodes path) some
    where
      by : (row : Option ImageNode) (node : Option Node) → AreAt dialect named rows path row node → is_some node ≡ true
          → is_listed name node ≡ list_any (is_child path name) rows
      by (Some r) (Some n) h e = h.children name
      by row None h e = absurd (true≢false (sym e))
      by None (Some n) h e = absurd h

  listed_some : (name : Bytes) (node : Option Node) → is_listed name node ≡ true → is_some node ≡ true
  listed_some name None e = absurd (true≢false (sym e))
  listed_some name (Some n) e = refl

  same_path : (path : Bytes) → eq_by_cmp path_cmp path path ≡ true
  same_path path = ap is_eq (tied_itself path_total path)

  child_row : (path : Bytes) (row : ImageNode) → is_root path ≡ false
      → is_child (parent_of path) (name_of path) (path, row) ≡ true
  child_row path row other = λ i. not (other i) && (same_path (parent_of path) i && same_path (name_of path) i)

  any_at : (r : Rows) (path : Bytes) → is_root path ≡ false → is_some (find path_cmp path r) ≡ true
      → list_any (is_child (parent_of path) (name_of path)) r ≡ true
  any_at [] path other some = absurd (true≢false (sym some))
  any_at (x ∷ r) path other some = by (any_at r path other) (eq_by_cmp path_cmp path x.0) refl some
    where
      by : (is_some (find path_cmp path r) ≡ true → list_any (is_child (parent_of path) (name_of path)) r ≡ true)
          → (b : Bool) → eq_by_cmp path_cmp path x.0 ≡ b → is_some (cond b (Some x.1) (find path_cmp path r)) ≡ true
          → (is_child (parent_of path) (name_of path) x || list_any (is_child (parent_of path) (name_of path)) r) ≡ true
      by later true e k =
          ap (λ (p : Bytes). is_child (parent_of path) (name_of path) (p, x.1)
          || list_any (is_child (parent_of path) (name_of path)) r)
          (sym (tells_apart exact_bytes path x.0 e))
          ∙ ap (λ b. b || list_any (is_child (parent_of path) (name_of path)) r) (child_row path x.1 other)
      by later false e k =
          ap (λ b. is_child (parent_of path) (name_of path) x || b) (later k)
          ∙ or_true (is_child (parent_of path) (name_of path) x)

  -- A child that is listed is among the rows.
  child_found : (path name : Bytes) (x : Bytes × ImageNode) → is_path x.0 ≡ true → is_child path name x ≡ true
      → child_of path name ≡ x.0
  child_found path name x is e =
      let p = and_both (not (is_root x.0)) _ e in
      let q = and_both (eq_by_cmp path_cmp path (parent_of x.0)) (eq_by_cmp path_cmp name (name_of x.0)) p.1 in
      (λ i. child_of (tells_apart exact_bytes path (parent_of x.0) q.0 i)
      (tells_apart exact_bytes name (name_of x.0) q.1 i))
      ∙ child_is x.0 is

  any_found : (r : Rows) (path name : Bytes) → ArePaths r → list_any (is_child path name) r ≡ true
      → is_some (find path_cmp (child_of path name) r) ≡ true
  unfolding ArePaths
  any_found [] path name h e = absurd (true≢false (sym e))
  any_found (x ∷ r) path name h e = by (any_found r path name h.1) (is_child path name x) refl e
    where
      later : (b : Bool) → is_some (find path_cmp (child_of path name) r) ≡ true
          → is_some (cond b (Some x.1) (find path_cmp (child_of path name) r)) ≡ true
      later true k = refl
      later false k = k

      by : (list_any (is_child path name) r ≡ true → is_some (find path_cmp (child_of path name) r) ≡ true)
          → (b : Bool) → is_child path name x ≡ b → (b || list_any (is_child path name) r) ≡ true
          → is_some (cond (eq_by_cmp path_cmp (child_of path name) x.0) (Some x.1)
          (find path_cmp (child_of path name) r)) ≡ true
      by others true c k =
          ap (λ (p : Bytes). is_some (cond (eq_by_cmp path_cmp p x.0) (Some x.1)
          (find path_cmp (child_of path name) r))) (child_found path name x h.0 c)
          ∙ ap (λ b. is_some (cond b (Some x.1) (find path_cmp (child_of path name) r))) (same_path x.0)
      by others false c k = later (eq_by_cmp path_cmp (child_of path name) x.0) (others k)

  parent_lists : (path : Bytes) → has_node s.nodes path ≡ true → has_parent s.nodes path ≡ true
  parent_lists path some = by (is_root path) refl
    where
      by : (b : Bool) → is_root path ≡ b → cond b true (is_listed_at s.nodes (parent_of path) (name_of path)) ≡ true
      by true e = refl
      by false e =
          let row = sym (there path) ∙ some in
          listed (parent_of path) (name_of path) (there (parent_of path) ∙ l.parents path row e)
          ∙ any_at rows path e row

  child_stands : (path name : Bytes) → is_listed_at s.nodes path name ≡ true
      → has_node s.nodes (child_of path name) ≡ true
  child_stands path name e =
      there (child_of path name)
      ∙ any_found rows path name paths (sym (listed path name (listed_some name (finmap.get s.nodes path) e)) ∙ e)

  -- Each path is a row's, and each name is that of a row's path.
  path_found : (r : Rows) (path : Bytes) → ArePaths r → is_some (find path_cmp path r) ≡ true → is_path path ≡ true
  unfolding ArePaths
  path_found [] path all e = absurd (true≢false (sym e))
  path_found (x ∷ r) path all e = by (path_found r path all.1) (eq_by_cmp path_cmp path x.0) refl e
    where
      by : (is_some (find path_cmp path r) ≡ true → is_path path ≡ true) → (b : Bool) → eq_by_cmp path_cmp path x.0 ≡ b
          → is_some (cond b (Some x.1) (find path_cmp path r)) ≡ true → is_path path ≡ true
      by later true same k = ap is_path (tells_apart exact_bytes path x.0 same) ∙ all.0
      by later false other k = later k

  name_of_row : (x : Bytes × ImageNode) (path name : Bytes) → is_path x.0 ≡ true → is_child path name x ≡ true
      → is_child_name name ≡ true
  name_of_row x path name is e = by (is_root x.0) refl is e
    where
      by : (b : Bool) → is_root x.0 ≡ b → (b || is_child_path x.0) ≡ true
          → (not b && (eq_by_cmp path_cmp path (parent_of x.0) && eq_by_cmp path_cmp name (name_of x.0))) ≡ true
          → is_child_name name ≡ true
      by true root p k = absurd (true≢false (sym k))
      by false child p k =
          ap is_child_name (tells_apart exact_bytes name (name_of x.0)
          (and_both (eq_by_cmp path_cmp path (parent_of x.0)) (eq_by_cmp path_cmp name (name_of x.0)) k).1)
          ∙ ends x.0 p

  name_found : (r : Rows) (path name : Bytes) → ArePaths r → list_any (is_child path name) r ≡ true
      → is_child_name name ≡ true
  unfolding ArePaths
  name_found [] path name all e = absurd (true≢false (sym e))
  name_found (x ∷ r) path name all e = by (name_found r path name all.1) (is_child path name x) refl e
    where
      by : (list_any (is_child path name) r ≡ true → is_child_name name ≡ true) → (b : Bool) → is_child path name x ≡ b
          → (b || list_any (is_child path name) r) ≡ true → is_child_name name ≡ true
      by later true c k = name_of_row x path name all.0 c
      by later false c k = later k

  made_named : AreNamed s.nodes
  made_named = record {
    paths = λ path some. path_found rows path paths (sym (there path) ∙ some);
    names = λ path name e.
        name_found rows path name paths (sym (listed path name (listed_some name (finmap.get s.nodes path) e)) ∙ e);
  }

  made_whole : no_rows rows ≡ false → IsWhole s
  made_whole some = record {
    root = there root_path ∙ l.root some;
    named = made_named;
    links = record { parents = parent_lists; children = child_stands };
    owners = made.owners;
  }

pub image_whole : (dialect : Dialect) → PathsEndInNames → (s : State) (text : List ℕ) → SpellsImageIn dialect s text
    → IsWhole s
image_whole dialect ends s text sp =
    made_whole dialect s _ _ (rows_of sp.found) sp.made
    (linked_all dialect (flat_map parts_in sp.found) [] no_links sp.order)
    (stand_paths dialect sp.found SessionCount sp.end text [] sp.stand tt) ends
    (node_comes dialect sp.found SessionCount sp.end text [] sp.stand tt sp.ends refl)
