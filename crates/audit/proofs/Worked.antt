-- Counts that were worked out by hand.
use Rattle.std.proofs.Common.{◌≡◌, pos, negsuc, ◌+ℤ◌, Bool, true, false, cond, ◌&&◌, [], ◌∷◌, Option, Some, None, is_some, refl, sym, ap, ◌∙◌, if◌then◌else◌, codes, w32, FitsSigned, rules}
use Rattle.std.proofs.lemmas.Int.{int_wrap_fits}
use Rattle.std.specs.FinMap as finmap
use Rattle.std.specs.FinSet as set
use Rattle.std.specs.Int.{int_wrap}
use Rattle.std.specs.Ordering.{eq_by_cmp, int_eq}
use Rattle.ephemerals.specs.Orders.{Bytes, path_cmp}
use Rattle.ephemerals.proofs.Totals.{path_total}
use Rattle.settings.specs.declared.dialect.Dialect.TheVariants.{Zk34}
use Rattle.txn_codec.specs.declared.txn.TxnHeader.{TxnHeader}
use Rattle.node_map.specs.Updates.{new_node, preset_node}
use Rattle.node_map.specs.declared.node.Node.{Node}
use Rattle.data_tree.specs.State.{Nodes}
use Rattle.data_tree.specs.Meaning.{Effect, TxnEffect, with_children, create_under, create_taken, create_new, of_effect, effect_of_txn, state_after, fresh_state}
use Rattle.audit.specs.declared.count.Count.{Count}
use Rattle.audit.specs.Clean.{counts_up, is_clean, are_clean}
use Rattle.audit.specs.Count.{count_after_triggers, first_count, count_from_log, numbers_of}
use Rattle.audit.specs.Audit.{IsCounted}
use Rattle.audit.specs.Rows.{path_a, create_of_a, txn_creating_a, WorkedCounts, CountsAreWorked}
use Rattle.audit.proofs.Fresh.{fresh_get, got, named}

abbrev top : Node
top = preset_node (named (codes "zookeeper"))

at_top : finmap.get fresh_state.nodes (codes "/") ≡ Some top
at_top = got (codes "/")

abbrev grown : TxnHeader → Node
grown h = with_children top (set.insert top.children (codes "a")) (int_wrap w32 (pos 0 +ℤ pos 1)) h.zxid

-- The header, with the rules of ZooKeeper 3.4.
abbrev earlier : TxnHeader → TxnHeader
earlier h = record h { rules = Zk34 }

abbrev nodes_with : TxnHeader → Nodes
nodes_with h = finmap.insert (finmap.insert fresh_state.nodes (codes "/") (grown h)) path_a (new_node h create_of_a)

new_name : set.contains top.children (codes "a") ≡ false
new_name =
    set.contains-insert path_total set.empty (codes "zookeeper") (codes "a")
    ∙ set.contains-empty path_cmp (codes "a")

effect_is : (h : TxnHeader) → create_under (earlier h) create_of_a (finmap.get fresh_state.nodes (codes "/"))
    ≡ create_new (earlier h) create_of_a top
effect_is h =
    ap (create_under (earlier h) create_of_a) at_top
    ∙ ap (λ (b : Bool). if b then create_taken (earlier h) create_of_a top else create_new (earlier h) create_of_a top) new_name

meant_is : (h : TxnHeader) → effect_of_txn fresh_state (txn_creating_a h)
    ≡ of_effect (create_new (earlier h) create_of_a top) fresh_state
meant_is h = ap (λ (e : Effect). of_effect e fresh_state) (effect_is h)

clean_once : (h : TxnHeader) → is_clean fresh_state (txn_creating_a h) ≡ true
clean_once h = λ i. counts_up (negsuc 0) (at_top i) && int_eq (effect_is h i).err (pos 0)

once : (h : TxnHeader) → are_clean fresh_state (txn_creating_a h ∷ []) ≡ true
once h = λ i. clean_once h i && true

nodes_are : (h : TxnHeader) → (state_after fresh_state (txn_creating_a h ∷ [])).nodes ≡ nodes_with h
nodes_are h = ap (λ (m : TxnEffect). m.state.nodes) (meant_is h)

got_with : (h : TxnHeader) (r : Bytes) → finmap.get (nodes_with h) r
    ≡ cond (eq_by_cmp path_cmp r path_a) (Some (new_node h create_of_a))
    (cond (eq_by_cmp path_cmp r (codes "/")) (Some (grown h))
    (fresh_get r (eq_by_cmp path_cmp r (codes "/zookeeper/quota")) (eq_by_cmp path_cmp r (codes "/zookeeper"))
    (eq_by_cmp path_cmp r (codes "/"))))
got_with h r =
    finmap.get-insert path_total (finmap.insert fresh_state.nodes (codes "/") (grown h)) path_a
    (new_node h create_of_a) r
    ∙ ap (λ (o : Option Node). cond (eq_by_cmp path_cmp r path_a) (Some (new_node h create_of_a)) o)
    (finmap.get-insert path_total fresh_state.nodes (codes "/") (grown h) r
    ∙ ap (λ (o : Option Node). cond (eq_by_cmp path_cmp r (codes "/")) (Some (grown h)) o) (got r))

counted_is : (h : TxnHeader) (path : Bytes) → count_from_log (txn_creating_a h ∷ []) path
    ≡ count_after_triggers path (first_count path) h.zxid (create_new (earlier h) create_of_a top).triggers
counted_is h path = ap (λ (m : TxnEffect). count_after_triggers path (first_count path) h.zxid m.triggers) (meant_is h)

at_path : (h : TxnHeader) (path : Bytes) (o : Option Node) → finmap.get (nodes_with h) path ≡ o → (counted : Count)
    → counted ≡ count_after_triggers path (first_count path) h.zxid (create_new (earlier h) create_of_a top).triggers
    → IsCounted (txn_creating_a h ∷ []) path (if is_some o then Some (numbers_of counted) else None)
at_path h path o at counted is = record {
  clean = once h;
  found_is =
      (λ i. if is_some (sym at i) then Some (numbers_of ((is ∙ sym (counted_is h path)) i)) else None)
      ∙ ap (λ (ns : Nodes). if is_some (finmap.get ns path)
      then Some (numbers_of (count_from_log (txn_creating_a h ∷ []) path)) else None)
      (sym (nodes_are h));
}

wrapped : pos 0 ≡ int_wrap w32 (negsuc 0 +ℤ pos 1)
wrapped = let fits : FitsSigned w32 (pos 0) = search rules in sym (int_wrap_fits w32 (pos 0) fits)

taken : (h : TxnHeader) → set.contains (grown h).children (codes "a") ≡ true
taken h = set.contains-insert path_total top.children (codes "a") (codes "a")

second_effect : (h : TxnHeader) → create_under (earlier h) create_of_a (finmap.get (nodes_with h) (codes "/"))
    ≡ create_taken (earlier h) create_of_a (grown h)
second_effect h =
    ap (create_under (earlier h) create_of_a) (got_with h (codes "/"))
    ∙ ap (λ (b : Bool). if b then create_taken (earlier h) create_of_a (grown h) else create_new (earlier h) create_of_a (grown h))
    (taken h)

second_unclean : (h : TxnHeader) → is_clean (state_after fresh_state (txn_creating_a h ∷ [])) (txn_creating_a h) ≡ false
second_unclean h =
    (λ i. counts_up (negsuc 0) (finmap.get (nodes_are h i) (codes "/"))
    && int_eq (create_under (earlier h) create_of_a (finmap.get (nodes_are h i) (codes "/"))).err (pos 0))
    ∙ (λ i. counts_up (negsuc 0) (got_with h (codes "/") i) && int_eq (second_effect h i).err (pos 0))

counts_are_worked_at : (h : TxnHeader) → WorkedCounts h
counts_are_worked_at h = record {
  made = at_path h path_a (Some (new_node h create_of_a)) (got_with h path_a)
      (record { cversion = pos 0; pzxid = h.zxid }) refl;
  parent = at_path h (codes "/") (Some (grown h)) (got_with h (codes "/"))
      (record { cversion = pos 0; pzxid = h.zxid }) (λ i. record { cversion = wrapped i; pzxid = h.zxid });
  other = at_path h (codes "/zookeeper") (Some (preset_node (named (codes "quota")))) (got_with h (codes "/zookeeper"))
      (record { cversion = negsuc 0; pzxid = pos 0 }) refl;
  missing = at_path h (codes "/q") None (got_with h (codes "/q")) (count_from_log (txn_creating_a h ∷ []) (codes "/q"))
      (counted_is h (codes "/q"));
  twice = record { before = once h; here = λ i. clean_once h i && (second_unclean h i && true) };
}

pub counts_are_worked : CountsAreWorked
counts_are_worked h = counts_are_worked_at h
