-- A clean log leaves nodes whose numbers are their counts.
use Rattle.std.proofs.Common.{◌≡◌, ℕ, ◌-◌, ℤ, pos, negsuc, ◌+ℤ◌, Bool, true, false, not, ◌==◌, ◌&&◌, ◌||◌, cond, List, [], ◌∷◌, Option, Some, None, is_none, refl, sym, ap, subst, ◌∙◌, if◌then◌else◌, arith, codes, w32}
use mathlib.Core.Bool.{true≢false}
use Rattle.std.proofs.lemmas.Bool.{eqb-true}
use Rattle.std.proofs.lemmas.Map.Lookups.{exact_bytes, exact_signed}
use Rattle.std.proofs.lemmas.Map.Views.{tells_apart}
use Rattle.std.specs.FinMap as finmap
use Rattle.std.specs.FinSet as set
use Rattle.std.specs.Int.{int_wrap}
use Rattle.std.specs.List.{list_any, list_all}
use Rattle.std.specs.Ordering.{eq_by_cmp, int_eq}
use Rattle.ephemerals.specs.Orders.{Bytes, Names, path_cmp, pair_cmp, sorted_names}
use Rattle.ephemerals.specs.Pairs.{paths_of_session}
use Rattle.ephemerals.proofs.Ascending.{any-in_order}
use Rattle.ephemerals.proofs.SessionPaths.{contains-owned, contains-without}
use Rattle.ephemerals.proofs.Totals.{path_total, pair_total, pair_exact}
use Rattle.settings.specs.declared.dialect.Dialect.{Dialect}
use Rattle.settings.specs.declared.dialect.Dialect.TheVariants.{Zk34, Zk38}
use Rattle.paths_and_acls.specs.Paths.{is_root, is_child_path, parent_of, name_of}
use Rattle.txn_codec.specs.declared.txn.TxnHeader.{TxnHeader}
use Rattle.txn_codec.specs.declared.txn.Txn.{Txn}
use Rattle.txn_codec.specs.declared.txn.Create.{Create}
use Rattle.txn_codec.specs.declared.txn.SetData.{SetData}
use Rattle.txn_codec.specs.declared.txn.Operation.{Operation}
use Rattle.txn_codec.specs.declared.txn.Operation.TheVariants as op
use Rattle.txn_codec.specs.declared.txn.Body.{Body}
use Rattle.txn_codec.specs.declared.txn.Body.TheVariants as body
use Rattle.node_map.specs.Updates.{next_cversion, owner_of, with_data, with_acl}
use Rattle.node_map.specs.Children.{without_child, without_missing_child}
use Rattle.node_map.specs.declared.node.Node.{Node}
use Rattle.data_tree.specs.State.{State, Nodes}
use Rattle.txn_codec.specs.Row.{error_of}
use Rattle.data_tree.specs.Meaning.{TxnEffect, after_changes, gained_pair, create_under, create_taken, create_new, lost_pair, delete_missing, delete_at, delete_of, set_data_at, set_acl_at, of_operation, of_parts, delete_operations, state_without_session, effect_of_body, effect_of_txn, state_after}
use Rattle.data_tree.specs.Meaning.Change.{Own, Disown}
use Rattle.data_tree.specs.declared.outcome.Trigger.{Trigger}
use Rattle.audit.specs.declared.count.Count.{Count}
use Rattle.audit.specs.Clean.{is_childless, counts_up, is_clean_operation, are_clean_parts, is_clean_body, counts_all, is_clean, are_clean}
use Rattle.audit.specs.Count.{count_after_triggers, count_after_log}
use Rattle.audit.proofs.Names.{and_false, root_is, child_no_root}
use Rattle.audit.proofs.Parts.{both, counted_all-append, multi_is}
use Rattle.audit.proofs.Holding.{AreCounted, create_counted, delete_counted, parent_is, same_counted}

-- Every node agrees with its count, and no session owns the root.
pub record Holds (s : State) (counts : Bytes → Count) : Type 0 where
  pub nodes : AreCounted s.nodes counts
  pub root : (session : ℤ) → set.contains s.pairs (session, codes "/") ≡ false

abbrev counts_after : (Bytes → Count) → ℤ → List Trigger → Bytes → Count
counts_after counts zxid triggers path = count_after_triggers path (counts path) zxid triggers

-- ---- pairs

gained_holds : (s : State) (counts : Bytes → Count) (owner : ℤ) (path : Bytes) → is_root path ≡ false
    → Holds s counts → Holds (after_changes s (gained_pair owner path)) counts
gained_holds s counts owner path other holds = by (int_eq owner (pos 0))
  where
    apart : (session : ℤ) → eq_by_cmp pair_cmp (session, codes "/") (owner, path) ≡ false
    apart session = pair_by (eq_by_cmp pair_cmp (session, codes "/") (owner, path)) refl
      where
        pair_by : (b : Bool) → eq_by_cmp pair_cmp (session, codes "/") (owner, path) ≡ b → b ≡ false
        pair_by true e =
            absurd (true≢false
            (ap (λ (p : ℤ × Bytes). is_root p.1)
            (tells_apart pair_exact (session, codes "/") (owner, path) e)
            ∙ other))
        pair_by false e = refl

    by : (b : Bool) → Holds (after_changes s (if b then [] else Own owner path ∷ [])) counts
    by true = holds
    by false = record {
      nodes = holds.nodes;
      root = λ session. set.contains-insert pair_total s.pairs (owner, path) (session, codes "/")
          ∙ (λ i. apart session i || holds.root session i);
    }

lost_holds : (s : State) (counts : Bytes → Count) (owner : ℤ) (path : Bytes) → Holds s counts
    → Holds (after_changes s (lost_pair owner path)) counts
lost_holds s counts owner path holds = by (int_eq owner (pos 0))
  where
    by : (b : Bool) → Holds (after_changes s (if b then [] else Disown owner path ∷ [])) counts
    by true = holds
    by false = record {
      nodes = holds.nodes;
      root = λ session. set.contains-remove pair_total s.pairs (owner, path) (session, codes "/")
          ∙ (λ i. not (eq_by_cmp pair_cmp (session, codes "/") (owner, path)) && holds.root session i)
          ∙ and_false (not (eq_by_cmp pair_cmp (session, codes "/") (owner, path)));
    }

-- ---- operations

next_is : (parent : Node) (wanted : ℤ) → counts_up wanted (Some parent) ≡ true
    → next_cversion parent.stat.cversion wanted ≡ int_wrap w32 (parent.stat.cversion +ℤ pos 1)
next_is parent wanted up = by (int_eq wanted (negsuc 0)) up
  where
    by : (b : Bool) → (b || int_eq wanted (int_wrap w32 (parent.stat.cversion +ℤ pos 1))) ≡ true
        → (if b then int_wrap w32 (parent.stat.cversion +ℤ pos 1) else wanted)
        ≡ int_wrap w32 (parent.stat.cversion +ℤ pos 1)
    by true e = refl
    by false e = tells_apart exact_signed wanted (int_wrap w32 (parent.stat.cversion +ℤ pos 1)) e

-- The header, with the rules of ZooKeeper 3.4.
abbrev earlier : TxnHeader → TxnHeader
earlier h = record h { rules = Zk34 }

is_earlier : (h : TxnHeader) → h.rules ≡ Zk34 → earlier h ≡ h
is_earlier h e = λ i. record h { rules = sym e i }

-- The create counts its parent's cversion up by one, and doesn't fail.
abbrev CountsUp : TxnHeader → Create → State → Type 0
CountsUp h c s =
    (counts_up c.parent_cversion (finmap.get s.nodes (parent_of c.path))
    && int_eq (of_operation h (op.Create c) s).err (pos 0)) ≡ true

create_counts : (k : TxnHeader) (c : Create) (s : State) (counts : Bytes → Count) → is_child_path c.path ≡ true
    → CountsUp (earlier k) c s → Holds s counts
    → Holds (of_operation (earlier k) (op.Create c) s).state
    (counts_after counts k.zxid (of_operation (earlier k) (op.Create c) s).triggers)
create_counts k c s counts child clean holds = by (finmap.get s.nodes (parent_of c.path)) refl clean
  where
    h : TxnHeader
    h = earlier k

    with_parent : (parent : Node) → finmap.get s.nodes (parent_of c.path) ≡ Some parent → (taken : Bool)
        → set.contains parent.children (name_of c.path) ≡ taken
        → (counts_up c.parent_cversion (Some parent)
        && int_eq (if taken then create_taken h c parent else create_new h c parent).err (pos 0)) ≡ true
        → Holds (after_changes s (if taken then create_taken h c parent else create_new h c parent).changes)
        (counts_after counts h.zxid (if taken then create_taken h c parent else create_new h c parent).triggers)
    with_parent parent at true has e =
        absurd (true≢false (sym e ∙ and_false (counts_up c.parent_cversion (Some parent))))
    with_parent parent at false has e =
        let up : counts_up c.parent_cversion (Some parent) ≡ true =
        (both (counts_up c.parent_cversion (Some parent)) true e).0 in
        let made : AreCounted _ _ =
        create_counted s.nodes counts h c parent child at has (next_is parent c.parent_cversion up) holds.nodes in
        gained_holds _ _ (owner_of h c.owner) c.path (child_no_root c.path child)
        (record { nodes = made; root = holds.root })

    by : (o : Option Node) → finmap.get s.nodes (parent_of c.path) ≡ o
        → (counts_up c.parent_cversion o && int_eq (create_under h c o).err (pos 0)) ≡ true
        → Holds (after_changes s (create_under h c o).changes)
        (counts_after counts h.zxid (create_under h c o).triggers)
    by None at e = absurd (true≢false (sym e))
    by (Some parent) at e =
        with_parent parent at (set.contains parent.children (name_of c.path)) refl e

create_holds : (h : TxnHeader) → h.rules ≡ Zk34 → (c : Create) (s : State) (counts : Bytes → Count)
    → is_child_path c.path ≡ true → CountsUp h c s → Holds s counts
    → Holds (of_operation h (op.Create c) s).state
    (counts_after counts h.zxid (of_operation h (op.Create c) s).triggers)
create_holds h e c s counts child clean holds =
    subst (λ (g : TxnHeader). Holds (of_operation g (op.Create c) s).state
    (counts_after counts g.zxid (of_operation g (op.Create c) s).triggers)) (is_earlier h e)
    (create_counts h c s counts child
    (subst (λ (g : TxnHeader). CountsUp g c s) (sym (is_earlier h e)) clean) holds)

delete_counts : (h : TxnHeader) (path : Bytes) (s : State) (counts : Bytes → Count) → is_root path ≡ false
    → is_childless (finmap.get s.nodes path) ≡ true → Holds s counts
    → Holds (of_operation (earlier h) (delete_of path) s).state
    (counts_after counts h.zxid (of_operation (earlier h) (delete_of path) s).triggers)
delete_counts h path s counts other none holds =
    by (finmap.get s.nodes path) (finmap.get (finmap.remove s.nodes path) (parent_of path)) refl refl none
  where
    by : (o p : Option Node) → finmap.get s.nodes path ≡ o
        → finmap.get (finmap.remove s.nodes path) (parent_of path) ≡ p → is_childless o ≡ true
        → Holds (after_changes s (delete_at (earlier h) path o p).changes)
        (counts_after counts h.zxid (delete_at (earlier h) path o p).triggers)
    by None p at up e = holds
    by (Some node) None at up e = absurd (parent_is s.nodes counts path node other at e holds.nodes up)
    by (Some node) (Some parent) at up e =
        let left : AreCounted _ _ = delete_counted s.nodes counts h path node parent other at up e holds.nodes in
        lost_holds _ _ node.stat.ephemeral_owner path (record { nodes = left; root = holds.root })

delete_holds : (h : TxnHeader) → h.rules ≡ Zk34 → (path : Bytes) (s : State) (counts : Bytes → Count)
    → is_root path ≡ false
    → is_childless (finmap.get s.nodes path) ≡ true → Holds s counts
    → Holds (of_operation h (delete_of path) s).state
    (counts_after counts h.zxid (of_operation h (delete_of path) s).triggers)
delete_holds h e path s counts other none holds =
    subst (λ (g : TxnHeader). Holds (of_operation g (delete_of path) s).state
    (counts_after counts g.zxid (of_operation g (delete_of path) s).triggers)) (is_earlier h e)
    (delete_counts h path s counts other none holds)

set_data_holds : (h : TxnHeader) (b : SetData) (s : State) (counts : Bytes → Count) (o : Option Node)
    → finmap.get s.nodes b.path ≡ o → int_eq (set_data_at h b o).err (pos 0) ≡ true → Holds s counts
    → Holds (after_changes s (set_data_at h b o).changes)
    (counts_after counts h.zxid (set_data_at h b o).triggers)
set_data_holds h b s counts None at e holds = absurd (true≢false (sym e))
set_data_holds h b s counts (Some node) at e holds = record {
  nodes = same_counted s.nodes counts b.path node (with_data h b node) at refl refl refl holds.nodes;
  root = holds.root;
}

operation_holds : (h : TxnHeader) → h.rules ≡ Zk34 → (o : Operation) (s : State) (counts : Bytes → Count)
    → is_clean_operation h o s ≡ true → Holds s counts
    → Holds (of_operation h o s).state (counts_after counts h.zxid (of_operation h o s).triggers)
operation_holds h e (op.Create c) s counts clean holds =
    let up : Bool = counts_up c.parent_cversion (finmap.get s.nodes (parent_of c.path)) in
    let all = both (is_child_path c.path && up) (int_eq (of_operation h (op.Create c) s).err (pos 0)) clean in
    let orderly = both (is_child_path c.path) up all.0 in
    create_holds h e c s counts orderly.0 (λ i. orderly.1 i && all.1 i) holds
operation_holds h e (op.Delete d) s counts clean holds =
    let none : Bool = is_childless (finmap.get s.nodes d.path) in
    let all = both (is_child_path d.path && none) (int_eq (of_operation h (delete_of d.path) s).err (pos 0)) clean in
    let orderly = both (is_child_path d.path) none all.0 in
    delete_holds h e d.path s counts (child_no_root d.path orderly.0) orderly.1 holds
operation_holds h e (op.SetData b) s counts clean holds =
    set_data_holds h b s counts (finmap.get s.nodes b.path) refl clean holds
operation_holds h e (op.Check b) s counts clean holds = holds
operation_holds h e (op.Error error) s counts clean holds = holds

-- ---- transactions

parts_hold : (h : TxnHeader) → h.rules ≡ Zk34 → (os : List Operation) (s : State) (counts : Bytes → Count)
    → are_clean_parts h os s ≡ true → Holds s counts
    → Holds (of_parts h os s).state (counts_after counts h.zxid (of_parts h os s).triggers)
parts_hold h e [] s counts clean holds = holds
parts_hold h e (o ∷ os) s counts clean holds =
    let here = both (is_none (error_of o)) (is_clean_operation h o s && are_clean_parts h os (of_operation h o s).state)
    clean in
    let rest = both (is_clean_operation h o s) (are_clean_parts h os (of_operation h o s).state) here.1 in
    let one = operation_holds h e o s counts rest.0 holds in
    let all = parts_hold h e os (of_operation h o s).state
    (counts_after counts h.zxid (of_operation h o s).triggers) rest.1 one in
    subst (Holds (of_parts h os (of_operation h o s).state).state)
    (λ i (path : Bytes). sym (counted_all-append path (counts path) h.zxid (of_operation h o s).triggers
    (of_parts h os (of_operation h o s).state).triggers) i)
    all

-- A delete can only remove children.
still_childless : (h : TxnHeader) (path : Bytes) (s : State) (r : Bytes)
    → is_childless (finmap.get s.nodes r) ≡ true
    → is_childless (finmap.get (of_operation h (delete_of path) s).state.nodes r) ≡ true
still_childless h path s r none =
    by (finmap.get s.nodes path) (finmap.get (finmap.remove s.nodes path) (parent_of path)) refl
  where
    removed : is_childless (finmap.get (finmap.remove s.nodes path) r) ≡ true
    removed = ap is_childless (finmap.get-remove path_total s.nodes path r) ∙ at (eq_by_cmp path_cmp r path)
      where
        at : (b : Bool) → is_childless (cond b None (finmap.get s.nodes r)) ≡ true
        at true = refl
        at false = none

    fewer : (names : Names) (name : Bytes) → (set.len names == 0) ≡ true → (set.len (set.remove names name) == 0) ≡ true
    fewer names name e = ap (λ (n : ℕ). n == 0) (set.len-remove path_total names name ∙ at (set.contains names name))
      where
        zero : set.len names ≡ 0
        zero = eqb-true (set.len names) 0 e

        at : (b : Bool) → cond b (set.len names - 1) (set.len names) ≡ 0
        at true = omega (arith, zero)
        at false = zero

    shrunk : (parent : Node) → finmap.get (finmap.remove s.nodes path) (parent_of path) ≡ Some parent
        → (nodes : Nodes) → (new : Node) → new.children ≡ set.remove parent.children (name_of path)
        → nodes ≡ finmap.insert (finmap.remove s.nodes path) (parent_of path) new
        → is_childless (finmap.get nodes r) ≡ true
    shrunk parent up nodes new names is =
        ap (λ (m : Nodes). is_childless (finmap.get m r)) is
        ∙ ap is_childless (finmap.get-insert path_total (finmap.remove s.nodes path) (parent_of path) new r)
        ∙ at (eq_by_cmp path_cmp r (parent_of path)) refl
      where
        at : (b : Bool) → eq_by_cmp path_cmp r (parent_of path) ≡ b
            → is_childless (cond b (Some new) (finmap.get (finmap.remove s.nodes path) r)) ≡ true
        at true e =
            ap (λ (ns : Names). set.len ns == 0) names
            ∙ fewer parent.children (name_of path)
            (ap is_childless (sym up)
            ∙ ap (λ (p : Bytes). is_childless (finmap.get (finmap.remove s.nodes path) p))
            (sym (tells_apart exact_bytes r (parent_of path) e))
            ∙ removed)
        at false e = removed

    by : (o p : Option Node) → finmap.get (finmap.remove s.nodes path) (parent_of path) ≡ p
        → is_childless (finmap.get (after_changes s (delete_at h path o p).changes).nodes r) ≡ true
    by None p up = missing h.rules p up
      where
        touched : (parent new : Node) → finmap.get (finmap.remove s.nodes path) (parent_of path) ≡ Some parent
            → new.children ≡ parent.children
            → is_childless (finmap.get (finmap.insert s.nodes (parent_of path) new) r) ≡ true
        touched parent new up names =
            ap is_childless (finmap.get-insert path_total s.nodes (parent_of path) new r)
            ∙ at (eq_by_cmp path_cmp r (parent_of path)) refl
          where
            at : (b : Bool) → eq_by_cmp path_cmp r (parent_of path) ≡ b
                → is_childless (cond b (Some new) (finmap.get s.nodes r)) ≡ true
            at true e =
                ap (λ (ns : Names). set.len ns == 0) names
                ∙ ap is_childless (sym up)
                ∙ ap (λ (p : Bytes). is_childless (finmap.get (finmap.remove s.nodes path) p))
                (sym (tells_apart exact_bytes r (parent_of path) e))
                ∙ removed
            at false e = none

        missing : (rules : Dialect) (p : Option Node)
            → finmap.get (finmap.remove s.nodes path) (parent_of path) ≡ p
            → is_childless (finmap.get (after_changes s (delete_missing rules h path p).changes).nodes r) ≡ true
        missing Zk34 p up = none
        missing Zk38 None up = none
        missing Zk38 (Some parent) up = touched parent (without_missing_child h parent) up refl
    by (Some node) None up = removed
    by (Some node) (Some parent) up = at (int_eq node.stat.ephemeral_owner (pos 0))
      where
        at : (b : Bool)
            → is_childless (finmap.get (after_changes
            (record s {
              nodes = finmap.insert (finmap.remove s.nodes path) (parent_of path)
                  (without_child (name_of path) h parent);
            })
            (if b then [] else Disown node.stat.ephemeral_owner path ∷ [])).nodes r) ≡ true
        at true = shrunk parent up _ _ refl refl
        at false = shrunk parent up _ _ refl refl

list_all_map : {A : Type 0} (f g : A → Bool) → ((x : A) → f x ≡ true → g x ≡ true) → (xs : List A)
    → list_all f xs ≡ true → list_all g xs ≡ true
list_all_map f g leads [] all = refl
list_all_map f g leads (x ∷ xs) all =
    let split = both (f x) (list_all f xs) all in
    (λ i. leads x split.0 i && list_all g xs) ∙ list_all_map f g leads xs split.1

closing_holds : (h : TxnHeader) → h.rules ≡ Zk34 → (ps : List Bytes) (s : State) (counts : Bytes → Count)
    → list_any (eq_by_cmp path_cmp (codes "/")) ps ≡ false
    → list_all (λ (path : Bytes). is_childless (finmap.get s.nodes path)) ps ≡ true → Holds s counts
    → Holds (of_parts h (delete_operations ps) s).state
    (counts_after counts h.zxid (of_parts h (delete_operations ps) s).triggers)
closing_holds h e [] s counts no_root none holds = holds
closing_holds h e (p ∷ ps) s counts no_root none holds =
    let split = both (is_childless (finmap.get s.nodes p))
    (list_all (λ (path : Bytes). is_childless (finmap.get s.nodes path)) ps) none in
    let apart = neither (eq_by_cmp path_cmp (codes "/") p) (list_any (eq_by_cmp path_cmp (codes "/")) ps) no_root in
    let one = delete_holds h e p s counts (inner apart.0 (is_root p) refl) split.0 holds in
    let next : State = (of_operation h (delete_of p) s).state in
    let all = closing_holds h e ps next (counts_after counts h.zxid (of_operation h (delete_of p) s).triggers) apart.1
    (list_all_map (λ (path : Bytes). is_childless (finmap.get s.nodes path))
    (λ (path : Bytes). is_childless (finmap.get (of_operation h (delete_of p) s).state.nodes path))
    (still_childless h p s) ps split.1) one in
    subst (Holds (of_parts h (delete_operations ps) (of_operation h (delete_of p) s).state).state)
    (λ i (path : Bytes). sym (counted_all-append path (counts path) h.zxid (of_operation h (delete_of p) s).triggers
    (of_parts h (delete_operations ps) (of_operation h (delete_of p) s).state).triggers) i)
    all
  where
    neither : (a b : Bool) → (a || b) ≡ false → (a ≡ false) × (b ≡ false)
    neither true b e = absurd (true≢false e)
    neither false b e = (refl, e)

    inner : eq_by_cmp path_cmp (codes "/") p ≡ false → (b : Bool) → is_root p ≡ b → b ≡ false
    inner apart true is = absurd (true≢false (ap (eq_by_cmp path_cmp (codes "/")) (sym (root_is p is)) ∙ apart))
    inner apart false is = refl

body_holds : (h : TxnHeader) → h.rules ≡ Zk34 → (b : Body) (s : State) (counts : Bytes → Count)
    → is_clean_body h b s ≡ true → Holds s counts
    → Holds (effect_of_body h b s).state (counts_after counts h.zxid (effect_of_body h b s).triggers)
body_holds h e (body.Single o) s counts clean holds = operation_holds h e o s counts clean holds
body_holds h e (body.SetAcl b) s counts clean holds = by (finmap.get s.nodes b.path) refl clean
  where
    by : (o : Option Node) → finmap.get s.nodes b.path ≡ o → int_eq (set_acl_at b o).err (pos 0) ≡ true
        → Holds (after_changes s (set_acl_at b o).changes) (counts_after counts h.zxid (set_acl_at b o).triggers)
    by None at e = absurd (true≢false (sym e))
    by (Some node) at e = record {
      nodes = same_counted s.nodes counts b.path node (with_acl b node) at refl refl refl holds.nodes;
      root = holds.root;
    }
body_holds h e (body.Multi os) s counts clean holds =
    subst (λ (m : TxnEffect). Holds m.state (counts_after counts h.zxid m.triggers)) (sym (multi_is h os s clean))
    (parts_hold h e os s counts clean holds)
body_holds h e (body.CreateSession timeout) s counts clean holds =
    record { nodes = holds.nodes; root = holds.root }
body_holds h e (body.CloseSession (p ∷ ps)) s counts clean holds = absurd (true≢false (sym clean))
body_holds h e (body.CloseSession []) s counts clean holds =
    closing_holds h e (sorted_names (paths_of_session h.client_id s.pairs)) (state_without_session h.client_id s) counts
    (any-in_order (paths_of_session h.client_id s.pairs) (codes "/")
    ∙ contains-owned h.client_id s.pairs (codes "/")
    ∙ holds.root h.client_id)
    clean
    (record {
      nodes = holds.nodes;
      root = λ session. contains-without h.client_id s.pairs (session, codes "/")
          ∙ (λ i. holds.root session i && not (int_eq session h.client_id));
    })

counted_rules : (rules : Dialect) → counts_all rules ≡ true → rules ≡ Zk34
counted_rules Zk34 e = refl
counted_rules Zk38 e = absurd (true≢false (sym e))

pub log_holds : (log : List Txn) (s : State) (counts : Bytes → Count) → are_clean s log ≡ true → Holds s counts
    → Holds (state_after s log) (λ (path : Bytes). count_after_log path (counts path) s log)
log_holds [] s counts clean holds = holds
log_holds (t ∷ ts) s counts clean holds =
    let split = both (is_clean s t) (are_clean (effect_of_txn s t).state ts) clean in
    let here = both (counts_all t.header.rules) (is_clean_body t.header t.body s) split.0 in
    log_holds ts (effect_of_txn s t).state (counts_after counts t.header.zxid (effect_of_txn s t).triggers) split.1
    (body_holds t.header (counted_rules t.header.rules here.0) t.body s counts here.1 holds)
