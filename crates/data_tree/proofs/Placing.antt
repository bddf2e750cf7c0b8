-- A node that was inserted where it has a place, and one that wasn't.
use Rattle.std.proofs.Common.{◌≡◌, Bool, true, false, not, ◌&&◌, ◌==◌, cond, Option, Some, None, Result, Ok, Err, IfOk, OnOk, OnErr, is_some, refl, sym, ap, ◌∙◌, if◌then◌else◌, codes}
use Rattle.std.proofs.lemmas.Bool.{eq-eqb, not-true}
use Rattle.std.specs.Ordering.{eq_by_cmp}
use Rattle.std.proofs.lemmas.Map.Lookups.{exact_bytes}
use Rattle.std.proofs.lemmas.Map.Views.{tells_apart}
use Rattle.std.specs.FinMap as finmap
use Rattle.ephemerals.specs.Orders.{Bytes, path_cmp}
use Rattle.ephemerals.proofs.Totals.{path_total}
use Rattle.paths_and_acls.specs.Paths.{is_root, parent_of, name_of}
use Rattle.jute.specs.declared.stat.StatPersisted.{StatPersisted}
use Rattle.node_map.specs.Agreement.{has_node}
use Rattle.node_map.specs.Updates.{update_node, update_found, with_name}
use Rattle.node_map.specs.Children.{added_child, with_new_node}
use Rattle.node_map.specs.declared.node.Node.{Node}
use Rattle.node_map.specs.declared.added_child.AddedChild.TheVariants.{Taken, Added}
use Rattle.node_map.proofs.NodeUpdates.{kept_name}
use Rattle.data_tree.specs.State.{State, Nodes}
use Rattle.data_tree.specs.Making.{with_placed_node, with_node, with_node_in_place, has_place}
use Rattle.data_tree.specs.Inner.Placing.{with_new_node_placed}

-- A new node that is removed again.
pub new_node_removed : (m : Nodes) (path : Bytes) (node : Node) → not (has_node m path) ≡ true
    → finmap.remove (with_new_node m path node) path ≡ m
new_node_removed m path node new =
    ap (λ (b : Bool). finmap.remove (if b then m else finmap.insert m path node) path)
    (not-true (has_node m path) new)
    ∙ finmap.same_map path_total exact_bytes _ _
    (λ q. finmap.get-remove path_total (finmap.insert m path node) path q ∙ by q (eq_by_cmp path_cmp q path) refl)
  where
    nothing : (o : Option Node) → not (is_some o) ≡ true → None ≡ o
    nothing None n = refl
    nothing (Some x) n = cc

    by : (q : Bytes) (b : Bool) → eq_by_cmp path_cmp q path ≡ b
        → cond b None (finmap.get (finmap.insert m path node) q) ≡ finmap.get m q
    by q true t = nothing (finmap.get m path) new ∙ ap (finmap.get m) (sym (tells_apart exact_bytes q path t))
    by q false t =
        finmap.get-insert path_total m path node q ∙ ap (λ b. cond b (Some node) (finmap.get m q)) t

nowhere : (m : Nodes) (path : Bytes) (f : Node → Node) → finmap.len m ≡ 0 → update_node m path f ≡ m
nowhere m path f none =
    ap (λ n. update_node n path f) (finmap.empty_of_len m none)
    ∙ ap (update_found finmap.empty path f) (finmap.get-empty path_cmp path)
    ∙ sym (finmap.empty_of_len m none)

-- The root is inserted where there is no node at all.
pub root_placed : (s : State) (node : Node) → finmap.len s.nodes ≡ 0
    → with_placed_node s (codes "/") node ≡ with_node_in_place s (codes "/") node
root_placed s node none =
    ap (λ n. with_placed_node (record s { nodes = n }) (codes "/") node)
    (sym (nowhere s.nodes (parent_of (codes "/")) (with_name (name_of (codes "/"))) none))
    ∙ ap (λ b. if b then with_node s (codes "/") node else s) (sym (eq-eqb _ _ none))

-- ---- the answers

pub each_ok : {A E : Type 0} {P Q : A → Type 0} (r : Result A E) → ((x : A) → P x → Q x) → IfOk r P → IfOk r Q
each_ok (Ok x) f h = f x h
each_ok (Err e) f h = tt

pub where_ok : {A E : Type 0} {P Q : Type 0} (r : Result A E) → (P → Q) → OnOk r P → OnOk r Q
where_ok (Ok x) f h = f h
where_ok (Err e) f h = tt

pub where_err : {A E : Type 0} {P Q : Type 0} (r : Result A E) → (P → Q) → OnErr r P → OnErr r Q
where_err (Ok x) f h = tt
where_err (Err e) f h = f h

-- ---- a path other than "/"

and-true : (b : Bool) → (b && true) ≡ b
and-true true = refl
and-true false = refl

-- The state in which the parent, if there is one, lists the name.
abbrev pub listing : State → Bytes → State
listing s path = record s { nodes = update_node s.nodes (parent_of path) (with_name (name_of path)) }

module _ (s : State) (path : Bytes) (node : Node) (other : is_root path ≡ false) where
  place_is : has_place s.nodes path ≡ (not (has_node s.nodes path) && has_node s.nodes (parent_of path))
  place_is =
      ap (λ b. if b then finmap.len s.nodes == 0
      else (not (has_node s.nodes path) && has_node s.nodes (parent_of path))) other

  placed_by : (b : Bool) → has_place s.nodes path ≡ b
      → with_node_in_place s path node ≡ (if b then with_node s path node else s)
  placed_by b is = ap (λ (v : Bool). if v then with_node s path node else s) is

  -- There is a parent.
  pub with_parent : has_node s.nodes (parent_of path) ≡ true → has_place s.nodes path ≡ not (has_node s.nodes path)
  with_parent there =
      place_is ∙ ap (λ (b : Bool). not (has_node s.nodes path) && b) there ∙ and-true (not (has_node s.nodes path))

  -- This doesn't change whether there is a node at the path.
  pub same_node : has_node (listing s path).nodes path ≡ has_node s.nodes path
  same_node = by (finmap.get s.nodes (parent_of path)) refl
    where
      at : (parent : Node) (b : Bool) → finmap.get s.nodes (parent_of path) ≡ Some parent
          → eq_by_cmp path_cmp path (parent_of path) ≡ b
          → is_some (cond b (Some (with_name (name_of path) parent)) (finmap.get s.nodes path))
          ≡ is_some (finmap.get s.nodes path)
      at parent true is t =
          sym (ap is_some
          (ap (finmap.get s.nodes) (tells_apart exact_bytes path (parent_of path) t) ∙ is))
      at parent false is t = refl

      by : (o : Option Node) → finmap.get s.nodes (parent_of path) ≡ o
          → has_node (update_found s.nodes (parent_of path) (with_name (name_of path)) o) path ≡ has_node s.nodes path
      by None is = refl
      by (Some parent) is =
          ap is_some (finmap.get-insert path_total s.nodes (parent_of path) (with_name (name_of path) parent) path)
          ∙ at parent (eq_by_cmp path_cmp path (parent_of path)) is refl

  there_taken : (o : Option Node) → Taken ≡ added_child o (name_of path) → is_some o ≡ true
  there_taken None t = cc
  there_taken (Some parent) t = refl

  there_added : (o : Option Node) (stat : StatPersisted) → Added stat ≡ added_child o (name_of path)
      → is_some o ≡ true
  there_added None stat a = cc
  there_added (Some parent) stat a = refl

  -- The path has a place exactly if it has no node in that state.
  pub taken_place : Taken ≡ added_child (finmap.get s.nodes (parent_of path)) (name_of path)
      → not (has_node (listing s path).nodes path) ≡ has_place s.nodes path
  taken_place t = ap not same_node ∙ sym (with_parent (there_taken (finmap.get s.nodes (parent_of path)) t))

  pub added_place : (stat : StatPersisted)
      → Added stat ≡ added_child (finmap.get s.nodes (parent_of path)) (name_of path)
      → not (has_node (listing s path).nodes path) ≡ has_place s.nodes path
  added_place stat a = ap not same_node ∙ sym (with_parent (there_added (finmap.get s.nodes (parent_of path)) stat a))

  new_placed : (b : Bool) → has_node (listing s path).nodes path ≡ b → not b ≡ has_place s.nodes path
      → (b ≡ true → listing s path ≡ s)
      → with_new_node_placed (listing s path) path node ≡ with_node_in_place s path node
  new_placed true here is kept =
      ap (λ (b : Bool). if b then listing s path else with_placed_node (listing s path) path node) here
      ∙ kept refl
      ∙ sym (placed_by false (sym is))
  new_placed false here is kept =
      ap (λ (b : Bool). if b then listing s path else with_placed_node (listing s path) path node) here
      ∙ sym (placed_by true (sym is))

  -- The parent lists the name already.
  pub taken_placed : Taken ≡ added_child (finmap.get s.nodes (parent_of path)) (name_of path)
      → with_new_node_placed (listing s path) path node ≡ with_node_in_place s path node
  taken_placed t =
      new_placed (has_node (listing s path).nodes path) refl (taken_place t)
      (λ _. ap (λ (m : Nodes). let u : State = record s { nodes = m } in u)
      (kept_name s.nodes (parent_of path) (name_of path) t))

  -- The node is new.
  pub added_placed : not (has_node (listing s path).nodes path) ≡ true → true ≡ has_place s.nodes path
      → with_new_node_placed (listing s path) path node ≡ with_node_in_place s path node
  added_placed new is =
      ap (λ (b : Bool). if b then listing s path else with_placed_node (listing s path) path node)
      (not-true (has_node (listing s path).nodes path) new)
      ∙ sym (placed_by true (sym is))

  -- There is no place.
  pub refused : false ≡ has_place s.nodes path → s ≡ with_node_in_place s path node
  refused is = sym (placed_by false (sym is))

-- Where there was a node, everything is as it was.
pub old_node_kept : (s : State) (path : Bytes) (node : Node) → false ≡ not (has_node s.nodes path)
    → with_new_node_placed s path node ≡ s
old_node_kept s path node old = by (has_node s.nodes path) old
  where
    by : (b : Bool) → false ≡ not b → (if b then s else with_placed_node s path node) ≡ s
    by true o = refl
    by false o = cc
