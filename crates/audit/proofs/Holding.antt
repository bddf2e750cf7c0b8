-- The invariant of nodes and counts in a clean log, for one operation.
use Rattle.std.proofs.Common.{◌≡◌, ℕ, ◌+◌, ◌-◌, ◌≤◌, zero, suc, ℤ, pos, ◌+ℤ◌, Bool, true, false, not, ◌&&◌, ◌||◌, cond, Option, Some, None, is_some, refl, sym, ap, subst, ◌∙◌, if◌then◌else◌, arith, w32, FitsSigned, rules}
use mathlib.Core.Bool.{true≢false}
use Rattle.std.proofs.lemmas.Bool.{eqb-true}
use Rattle.std.proofs.lemmas.Cmp.{eq_by_cmp_equiv}
use Rattle.std.proofs.lemmas.Int.{SFits-int_wrap, int_wrap_fits}
use Rattle.std.proofs.lemmas.Map.Lookups.{exact_bytes}
use Rattle.std.proofs.lemmas.Map.Views.{tells_apart}
use Rattle.std.specs.Cmp.Lexicographic.{texts_ties}
use Rattle.std.specs.FinMap as finmap
use Rattle.std.specs.FinSet as set
use Rattle.std.specs.Int.{int_wrap}
use Rattle.std.specs.Ordering.{eq_by_cmp}
use Rattle.ephemerals.specs.Orders.{Bytes, Names, path_cmp}
use Rattle.ephemerals.proofs.Totals.{path_total}
use Rattle.paths_and_acls.specs.Paths.{is_root, is_child_path, parent_of, name_of}
use Rattle.txn_codec.specs.declared.txn.TxnHeader.{TxnHeader}
use Rattle.txn_codec.specs.declared.txn.Create.{Create}
use Rattle.node_map.specs.Updates.{next_cversion, new_node}
use Rattle.node_map.specs.Agreement.{is_listed, is_listed_at}
use Rattle.node_map.specs.declared.node.Node.{Node}
use Rattle.data_tree.specs.State.{Nodes}
use Rattle.data_tree.specs.Meaning.{with_children}
use Rattle.data_tree.specs.declared.outcome.Trigger.TheVariants.{Created, Deleted}
use Rattle.audit.specs.declared.count.Count.{Count}
use Rattle.audit.specs.Clean.{is_childless}
use Rattle.audit.specs.Count.{is_same_path, new_node_count, one_more, count_after_trigger}
use Rattle.audit.proofs.Names.{or_true, child_no_root, same_child}
use Rattle.audit.proofs.Numbers.{net, created_net, deleted_net}

-- The count of a node agrees with its stat.
pub record Agrees (count : Count) (node : Node) : Type 0 where
  pub fits : FitsSigned w32 node.stat.cversion
  pub cversion : count.cversion ≡ net node.stat.cversion (set.len node.children)
  pub pzxid : count.pzxid ≡ node.stat.pzxid

-- A node but the root is at a path, and its parent lists its name.
pub record HasPlace (nodes : Nodes) (path : Bytes) : Type 0 where
  pub child : is_child_path path ≡ true
  pub listed : is_listed_at nodes (parent_of path) (name_of path) ≡ true

pub record AreCounted (nodes : Nodes) (counts : Bytes → Count) : Type 0 where
  pub agree : (path : Bytes) (node : Node) → finmap.get nodes path ≡ Some node → Agrees (counts path) node
  pub placed : (path : Bytes) (node : Node) → finmap.get nodes path ≡ Some node → is_root path ≡ false
      → HasPlace nodes path

-- ---- paths

abbrev same : Bytes → Bytes → Bool
same a b = eq_by_cmp path_cmp a b

same_is : (a b : Bytes) → same a b ≡ true → a ≡ b
same_is a b e = tells_apart exact_bytes a b e

same_itself : (a : Bytes) → same a a ≡ true
same_itself a = (eq_by_cmp_equiv path_total).refl a

turned : (a b : Bytes) → is_same_path a b ≡ same b a
turned a b = texts_ties a b ∙ (eq_by_cmp_equiv path_total).symm a b

-- ---- the names that nodes list

not_empty : (names : Names) (name : Bytes) → set.contains names name ≡ true → set.len names ≡ 0 → ⊥
not_empty names name one none =
    true≢false (sym one ∙ ap (λ (t : Names). set.contains t name) (set.empty_of_len names none)
    ∙ set.contains-empty path_cmp name)

some_in : (names : Names) (name : Bytes) → set.contains names name ≡ true → 1 ≤ set.len names
some_in names name one = by (set.len names) refl
  where
    by : (n : ℕ) → set.len names ≡ n → 1 ≤ n
    by zero none = absurd (not_empty names name one none)
    by (suc n) some = omega arith

-- A node that lists a name exists.
lister : (nodes : Nodes) (path name : Bytes) → (o : Option Node) → finmap.get nodes path ≡ o
    → is_listed_at nodes path name ≡ true → is_some o ≡ true
lister nodes path name None at listed = absurd (true≢false (sym listed ∙ ap (is_listed name) at))
lister nodes path name (Some node) at listed = refl

childless_lists : (nodes : Nodes) (path name : Bytes) (node : Node) → finmap.get nodes path ≡ Some node
    → is_childless (Some node) ≡ true → is_listed_at nodes path name ≡ true → ⊥
childless_lists nodes path name node at none listed =
    not_empty node.children name (ap (is_listed name) (sym at) ∙ listed)
    (eqb-true (set.len node.children) 0 none)

-- ---- a create

module _ (nodes : Nodes) (counts : Bytes → Count) (h : TxnHeader) (c : Create) (parent : Node)
    (child : is_child_path c.path ≡ true) (at_parent : finmap.get nodes (parent_of c.path) ≡ Some parent)
    (new_name : set.contains parent.children (name_of c.path) ≡ false)
    (wanted : next_cversion parent.stat.cversion c.parent_cversion ≡ int_wrap w32 (parent.stat.cversion +ℤ pos 1))
    (are : AreCounted nodes counts) where
  abbrev up : Bytes
  up = parent_of c.path

  abbrev grown : Node
  grown =
      with_children parent (set.insert parent.children (name_of c.path))
      (next_cversion parent.stat.cversion c.parent_cversion) h.zxid

  abbrev nodes_with : Nodes
  nodes_with = finmap.insert (finmap.insert nodes up grown) c.path (new_node h c)

  -- There was no node.
  was_new : finmap.get nodes c.path ≡ None
  was_new = by (finmap.get nodes c.path) refl
    where
      by : (o : Option Node) → finmap.get nodes c.path ≡ o → o ≡ None
      by None at = refl
      by (Some node) at =
          absurd (true≢false
          (sym (ap (is_listed (name_of c.path)) (sym at_parent)
          ∙ (are.placed c.path node at (child_no_root c.path child)).listed)
          ∙ new_name))

  got : (r : Bytes) → finmap.get nodes_with r
      ≡ cond (same r c.path) (Some (new_node h c)) (cond (same r up) (Some grown) (finmap.get nodes r))
  got r =
      finmap.get-insert path_total (finmap.insert nodes up grown) c.path (new_node h c) r
      ∙ ap (λ (o : Option Node). cond (same r c.path) (Some (new_node h c)) o)
      (finmap.get-insert path_total nodes up grown r)

  told : (r : Bytes) → count_after_trigger r (counts r) h.zxid (Created c.path)
      ≡ (if same r c.path then new_node_count h.zxid else if same r up then one_more (counts r) h.zxid else counts r)
  told r =
      (λ i. if turned c.path r i then new_node_count h.zxid else if turned up r i then one_more (counts r) h.zxid
      else counts r)

  newborn_agrees : Agrees (new_node_count h.zxid) (new_node h c)
  newborn_agrees = record { fits = zero_fits; cversion = born; pzxid = refl }
    where
      zero_fits : FitsSigned w32 (pos 0)
      zero_fits = search rules

      born : pos 0 ≡ net (pos 0) (set.len (set.empty {R = path_cmp}))
      born = sym (int_wrap_fits w32 (pos 0) zero_fits) ∙ ap (net (pos 0)) (sym (set.len-empty path_cmp))

  grown_agrees : Agrees (one_more (counts up) h.zxid) grown
  grown_agrees =
      let before : Agrees (counts up) parent = are.agree up parent at_parent in
      let len : set.len (set.insert parent.children (name_of c.path)) ≡ set.len parent.children + 1 =
      set.len-insert path_total parent.children (name_of c.path)
      ∙ ap (λ (b : Bool). cond b (set.len parent.children) (set.len parent.children + 1)) new_name in
      record {
        fits = subst (FitsSigned w32) (sym wanted) (SFits-int_wrap w32 (parent.stat.cversion +ℤ pos 1));
        cversion = ap (λ (z : ℤ). int_wrap w32 (z +ℤ pos 1)) before.cversion
            ∙ sym (created_net parent.stat.cversion (set.len parent.children))
            ∙ (λ i. net (sym wanted i) (sym len i));
        pzxid = refl;
      }

  create_agree : (r : Bytes) (node : Node) → finmap.get nodes_with r ≡ Some node
      → Agrees (count_after_trigger r (counts r) h.zxid (Created c.path)) node
  create_agree r node at =
      subst (λ (k : Count). Agrees k node) (sym (told r)) (by (same r c.path) (same r up) refl refl (sym (got r) ∙ at))
    where
      by : (a b : Bool) → same r c.path ≡ a → same r up ≡ b
          → cond a (Some (new_node h c)) (cond b (Some grown) (finmap.get nodes r)) ≡ Some node
          → Agrees (if a then new_node_count h.zxid else if b then one_more (counts r) h.zxid else counts r) node
      by true b e f is = let here : new_node h c ≡ node = cc in
          subst (Agrees (new_node_count h.zxid)) here newborn_agrees
      by false true e f is =
          let here : grown ≡ node = cc in
          let at_up : r ≡ up = same_is r up f in
          subst (λ (p : Bytes). Agrees (one_more (counts p) h.zxid) node) (sym at_up)
          (subst (Agrees (one_more (counts up) h.zxid)) here grown_agrees)
      by false false e f is = are.agree r node is

  still_listed : (path name : Bytes) → is_listed_at nodes path name ≡ true → is_listed_at nodes_with path name ≡ true
  still_listed path name listed =
      ap (is_listed name) (got path) ∙ by (same path c.path) (same path up) refl refl
    where
      by : (a b : Bool) → same path c.path ≡ a → same path up ≡ b
          → is_listed name (cond a (Some (new_node h c)) (cond b (Some grown) (finmap.get nodes path))) ≡ true
      by true b e f =
          absurd (true≢false
          (sym listed ∙ ap (λ (p : Bytes). is_listed_at nodes p name) (same_is path c.path e)
          ∙ ap (is_listed name) was_new))
      by false true e f =
          set.contains-insert path_total parent.children (name_of c.path) name
          ∙ ap (λ (b : Bool). same name (name_of c.path) || b)
          (ap (is_listed name) (sym at_parent) ∙ ap (λ (p : Bytes). is_listed_at nodes p name) (sym (same_is path up f))
          ∙ listed)
          ∙ or_true (same name (name_of c.path))
      by false false e f = listed

  up_is_other : same up c.path ≡ false
  up_is_other = by (same up c.path) refl
    where
      by : (b : Bool) → same up c.path ≡ b → b ≡ false
      by true e =
          let here : finmap.get nodes up ≡ None = ap (finmap.get nodes) (same_is up c.path e) ∙ was_new in
          absurd (true≢false (ap is_some (sym at_parent) ∙ ap is_some here))
      by false e = refl

  new_listed : is_listed_at nodes_with up (name_of c.path) ≡ true
  new_listed =
      ap (is_listed (name_of c.path)) (got up)
      ∙ (λ i. is_listed (name_of c.path)
      (cond (up_is_other i) (Some (new_node h c)) (cond (same_itself up i) (Some grown) (finmap.get nodes up))))
      ∙ set.contains-insert path_total parent.children (name_of c.path) (name_of c.path)
      ∙ ap (λ (b : Bool). b || set.contains parent.children (name_of c.path)) (same_itself (name_of c.path))

  old_placed : (r : Bytes) (node : Node) → finmap.get nodes r ≡ Some node → is_root r ≡ false → HasPlace nodes_with r
  old_placed r node at other =
      let place : HasPlace nodes r = are.placed r node at other in
      record { child = place.child; listed = still_listed (parent_of r) (name_of r) place.listed }

  create_placed : (r : Bytes) (node : Node) → finmap.get nodes_with r ≡ Some node → is_root r ≡ false
      → HasPlace nodes_with r
  create_placed r node at other = by (same r c.path) (same r up) refl refl (sym (got r) ∙ at)
    where
      by : (a b : Bool) → same r c.path ≡ a → same r up ≡ b
          → cond a (Some (new_node h c)) (cond b (Some grown) (finmap.get nodes r)) ≡ Some node → HasPlace nodes_with r
      by true b e f is =
          subst (HasPlace nodes_with) (sym (same_is r c.path e)) (record { child = child; listed = new_listed })
      by false true e f is = old_placed r parent (ap (finmap.get nodes) (same_is r up f) ∙ at_parent) other
      by false false e f is = old_placed r node is other

  pub create_counted : AreCounted nodes_with (λ (r : Bytes). count_after_trigger r (counts r) h.zxid (Created c.path))
  create_counted = record { agree = create_agree; placed = create_placed }

-- ---- a delete

module _ (nodes : Nodes) (counts : Bytes → Count) (h : TxnHeader) (path : Bytes) (node parent : Node)
    (other : is_root path ≡ false) (at_path : finmap.get nodes path ≡ Some node)
    (at_parent : finmap.get (finmap.remove nodes path) (parent_of path) ≡ Some parent)
    (none : is_childless (Some node) ≡ true) (are : AreCounted nodes counts) where
  abbrev above : Bytes
  above = parent_of path

  abbrev shrunk : Node
  shrunk = with_children parent (set.remove parent.children (name_of path)) parent.stat.cversion h.zxid

  abbrev nodes_left : Nodes
  nodes_left = finmap.insert (finmap.remove nodes path) above shrunk

  place : HasPlace nodes path
  place = are.placed path node at_path other

  -- The parent is another node, and existed.
  above_other : (same above path ≡ false) × (finmap.get nodes above ≡ Some parent)
  above_other = by (same above path) refl (sym (finmap.get-remove path_total nodes path above) ∙ at_parent)
    where
      by : (b : Bool) → same above path ≡ b → cond b None (finmap.get nodes above) ≡ Some parent
          → (b ≡ false) × (finmap.get nodes above ≡ Some parent)
      by true e is = cc
      by false e is = (refl, is)

  in_parent : set.contains parent.children (name_of path) ≡ true
  in_parent = ap (is_listed (name_of path)) (sym above_other.1) ∙ place.listed

  remains : (r : Bytes) → finmap.get nodes_left r
      ≡ cond (same r above) (Some shrunk) (cond (same r path) None (finmap.get nodes r))
  remains r =
      finmap.get-insert path_total (finmap.remove nodes path) above shrunk r
      ∙ ap (λ (o : Option Node). cond (same r above) (Some shrunk) o) (finmap.get-remove path_total nodes path r)

  shrunk_agrees : Agrees (one_more (counts above) h.zxid) shrunk
  shrunk_agrees =
      let before : Agrees (counts above) parent = are.agree above parent above_other.1 in
      let len : set.len (set.remove parent.children (name_of path)) ≡ set.len parent.children - 1 =
      set.len-remove path_total parent.children (name_of path)
      ∙ ap (λ (b : Bool). cond b (set.len parent.children - 1) (set.len parent.children)) in_parent in
      record {
        fits = before.fits;
        cversion = ap (λ (z : ℤ). int_wrap w32 (z +ℤ pos 1)) before.cversion
            ∙ sym (deleted_net parent.stat.cversion (set.len parent.children)
            (some_in parent.children (name_of path) in_parent))
            ∙ ap (net parent.stat.cversion) (sym len);
        pzxid = refl;
      }

  delete_agree : (r : Bytes) (n : Node) → finmap.get nodes_left r ≡ Some n
      → Agrees (count_after_trigger r (counts r) h.zxid (Deleted path)) n
  delete_agree r n at =
      subst (λ (k : Count). Agrees k n)
      (λ i. if sym (turned above r) i then one_more (counts r) h.zxid else counts r)
      (by (same r above) (same r path) refl refl (sym (remains r) ∙ at))
    where
      by : (a b : Bool) → same r above ≡ a → same r path ≡ b
          → cond a (Some shrunk) (cond b None (finmap.get nodes r)) ≡ Some n
          → Agrees (if a then one_more (counts r) h.zxid else counts r) n
      by true b e f is =
          let here : shrunk ≡ n = cc in
          subst (λ (p : Bytes). Agrees (one_more (counts p) h.zxid) n) (sym (same_is r above e))
          (subst (Agrees (one_more (counts above) h.zxid)) here shrunk_agrees)
      by false true e f is = cc
      by false false e f is = are.agree r n is

  -- Another node keeps its place.
  kept : (r : Bytes) (n : Node) → finmap.get nodes r ≡ Some n → same r path ≡ false → is_root r ≡ false
      → HasPlace nodes_left r
  kept r n at apart inner =
      let old : HasPlace nodes r = are.placed r n at inner in
      record {
        child = old.child;
        listed = ap (is_listed (name_of r)) (remains (parent_of r))
            ∙ by old (same (parent_of r) above) (same (parent_of r) path) refl refl;
      }
    where
      names_differ : HasPlace nodes r → parent_of r ≡ above → same (name_of r) (name_of path) ≡ false
      names_differ old up = name_by (same (name_of r) (name_of path)) refl
        where
          name_by : (b : Bool) → same (name_of r) (name_of path) ≡ b → b ≡ false
          name_by true e =
              let is : r ≡ path = same_child r path old.child place.child up (same_is (name_of r) (name_of path) e) in
              absurd (true≢false (sym (ap (λ (p : Bytes). same p path) is ∙ same_itself path) ∙ apart))
          name_by false e = refl

      by : HasPlace nodes r → (a b : Bool) → same (parent_of r) above ≡ a → same (parent_of r) path ≡ b
          → is_listed (name_of r) (cond a (Some shrunk) (cond b None (finmap.get nodes (parent_of r)))) ≡ true
      by old true b e f =
          let up : parent_of r ≡ above = same_is (parent_of r) above e in
          set.contains-remove path_total parent.children (name_of path) (name_of r)
          ∙ (λ i. not (names_differ old up i) && set.contains parent.children (name_of r))
          ∙ ap (is_listed (name_of r)) (sym above_other.1)
          ∙ ap (λ (p : Bytes). is_listed_at nodes p (name_of r)) (sym up)
          ∙ old.listed
      by old false true e f =
          absurd (childless_lists nodes path (name_of r) node at_path none
          (ap (λ (p : Bytes). is_listed_at nodes p (name_of r)) (sym (same_is (parent_of r) path f)) ∙ old.listed))
      by old false false e f = old.listed

  delete_placed : (r : Bytes) (n : Node) → finmap.get nodes_left r ≡ Some n → is_root r ≡ false → HasPlace nodes_left r
  delete_placed r n at inner = by (same r above) (same r path) refl refl (sym (remains r) ∙ at)
    where
      by : (a b : Bool) → same r above ≡ a → same r path ≡ b
          → cond a (Some shrunk) (cond b None (finmap.get nodes r)) ≡ Some n → HasPlace nodes_left r
      by true b e f is =
          let up : r ≡ above = same_is r above e in
          kept r parent (ap (finmap.get nodes) up ∙ above_other.1) (ap (λ (p : Bytes). same p path) up ∙ above_other.0)
          inner
      by false true e f is = cc
      by false false e f is = kept r n is f inner

  pub delete_counted : AreCounted nodes_left (λ (r : Bytes). count_after_trigger r (counts r) h.zxid (Deleted path))
  delete_counted = record { agree = delete_agree; placed = delete_placed }

-- A delete finds the parent.
pub parent_is : (nodes : Nodes) (counts : Bytes → Count) (path : Bytes) (node : Node) → is_root path ≡ false
    → finmap.get nodes path ≡ Some node → is_childless (Some node) ≡ true → AreCounted nodes counts
    → finmap.get (finmap.remove nodes path) (parent_of path) ≡ None → ⊥
parent_is nodes counts path node other at none are missing =
    by (same (parent_of path) path) refl (sym (finmap.get-remove path_total nodes path (parent_of path)) ∙ missing)
  where
    listed : is_listed_at nodes (parent_of path) (name_of path) ≡ true
    listed = (are.placed path node at other).listed

    by : (b : Bool) → same (parent_of path) path ≡ b → cond b None (finmap.get nodes (parent_of path)) ≡ None → ⊥
    by true e is =
        childless_lists nodes path (name_of path) node at none
        (ap (λ (p : Bytes). is_listed_at nodes p (name_of path)) (sym (same_is (parent_of path) path e)) ∙ listed)
    by false e is = true≢false (sym listed ∙ ap (is_listed (name_of path)) is)

-- ---- a node that keeps its children and their count

pub same_counted : (nodes : Nodes) (counts : Bytes → Count) (path : Bytes) (old new : Node)
    → finmap.get nodes path ≡ Some old → new.children ≡ old.children → new.stat.cversion ≡ old.stat.cversion
    → new.stat.pzxid ≡ old.stat.pzxid → AreCounted nodes counts → AreCounted (finmap.insert nodes path new) counts
same_counted nodes counts path old new at children cversion pzxid are = record { agree = agree; placed = placed }
  where
    now : (r : Bytes) → finmap.get (finmap.insert nodes path new) r ≡ cond (same r path) (Some new) (finmap.get nodes r)
    now r = finmap.get-insert path_total nodes path new r

    lists_same : (r name : Bytes) → is_listed_at (finmap.insert nodes path new) r name ≡ is_listed_at nodes r name
    lists_same r name = ap (is_listed name) (now r) ∙ by (same r path) refl
      where
        by : (b : Bool) → same r path ≡ b
            → is_listed name (cond b (Some new) (finmap.get nodes r)) ≡ is_listed_at nodes r name
        by true e =
            ap (λ (names : Names). set.contains names name) children ∙ ap (is_listed name) (sym at)
            ∙ ap (λ (p : Bytes). is_listed_at nodes p name) (sym (same_is r path e))
        by false e = refl

    new_agrees : Agrees (counts path) new
    new_agrees =
        let before : Agrees (counts path) old = are.agree path old at in
        record {
          fits = subst (FitsSigned w32) (sym cversion) before.fits;
          cversion = before.cversion ∙ (λ i. net (sym cversion i) (set.len (sym children i)));
          pzxid = before.pzxid ∙ sym pzxid;
        }

    agree : (r : Bytes) (node : Node) → finmap.get (finmap.insert nodes path new) r ≡ Some node
        → Agrees (counts r) node
    agree r node is = by (same r path) refl (sym (now r) ∙ is)
      where
        by : (b : Bool) → same r path ≡ b → cond b (Some new) (finmap.get nodes r) ≡ Some node → Agrees (counts r) node
        by true e f =
            let here : new ≡ node = cc in
            subst (λ (p : Bytes). Agrees (counts p) node) (sym (same_is r path e))
            (subst (Agrees (counts path)) here new_agrees)
        by false e f = are.agree r node f

    placed : (r : Bytes) (node : Node) → finmap.get (finmap.insert nodes path new) r ≡ Some node → is_root r ≡ false
        → HasPlace (finmap.insert nodes path new) r
    placed r node is inner = by (same r path) refl (sym (now r) ∙ is)
      where
        still : (n : Node) → finmap.get nodes r ≡ Some n → HasPlace (finmap.insert nodes path new) r
        still n here =
            let place : HasPlace nodes r = are.placed r n here inner in
            record { child = place.child; listed = lists_same (parent_of r) (name_of r) ∙ place.listed }

        by : (b : Bool) → same r path ≡ b → cond b (Some new) (finmap.get nodes r) ≡ Some node
            → HasPlace (finmap.insert nodes path new) r
        by true e f = still old (ap (finmap.get nodes) (same_is r path e) ∙ at)
        by false e f = still node f
