-- The counts of the fresh tree are those in its Stats, and so are the counts that a clean log leaves.
use Rattle.std.proofs.Common.{◌≡◌, ℕ, ◌+◌, pos, negsuc, Bool, true, false, cond, Option, Some, None, refl, sym, ap, subst, ◌∙◌, codes, w32, FitsSigned, rules}
use mathlib.Core.Bool.{true≢false}
use Rattle.std.proofs.lemmas.Int.{int_wrap_fits}
use Rattle.std.proofs.lemmas.Map.Lookups.{exact_bytes}
use Rattle.std.proofs.lemmas.Map.Views.{tells_apart}
use Rattle.std.specs.FinMap as finmap
use Rattle.std.specs.FinSet as set
use Rattle.std.specs.Ordering.{eq_by_cmp}
use Rattle.ephemerals.specs.Orders.{Bytes, Names, path_cmp, pair_cmp}
use Rattle.ephemerals.proofs.Totals.{path_total}
use Rattle.paths_and_acls.specs.Paths.{is_root}
use Rattle.node_map.specs.Updates.{preset_node}
use Rattle.node_map.specs.Agreement.{is_listed, is_listed_at}
use Rattle.node_map.specs.declared.node.Node.{Node}
use Rattle.data_tree.specs.Meaning.{state_after, fresh_state}
use Rattle.audit.specs.Count.{first_count, count_from_log}
use Rattle.audit.specs.Laws.{CountsAreShown}
use Rattle.audit.proofs.Holding.{Agrees, HasPlace}
use Rattle.audit.proofs.Numbers.{net, shown_is}
use Rattle.audit.proofs.Runs.{Holds, log_holds}

abbrev root : Bytes
root = codes "/"

abbrev own : Bytes
own = codes "/zookeeper"

abbrev quota : Bytes
quota = codes "/zookeeper/quota"

abbrev pub named : Bytes → Names
named name = set.insert set.empty name

one_name : (name : Bytes) → set.len (named name) ≡ 1
one_name name =
    set.len-insert path_total set.empty name
    ∙ (λ i. cond (set.contains-empty path_cmp name i) (set.len (set.empty {R = path_cmp}))
    (set.len (set.empty {R = path_cmp}) + 1))
    ∙ ap (λ (n : ℕ). n + 1) (set.len-empty path_cmp)

zero_fits : FitsSigned w32 (pos 0)
zero_fits = search rules

with_child : (name : Bytes) → Agrees (record { cversion = negsuc 0; pzxid = pos 0 }) (preset_node (named name))
with_child name = record { fits = zero_fits; cversion = shown; pzxid = refl }
  where
    fits : FitsSigned w32 (negsuc 0)
    fits = search rules

    shown : negsuc 0 ≡ net (pos 0) (set.len (named name))
    shown = sym (int_wrap_fits w32 (negsuc 0) fits) ∙ ap (net (pos 0)) (sym (one_name name))

without_child : Agrees (record { cversion = pos 0; pzxid = pos 0 }) (preset_node set.empty)
without_child = record { fits = zero_fits; cversion = shown; pzxid = refl }
  where
    shown : pos 0 ≡ net (pos 0) (set.len (set.empty {R = path_cmp}))
    shown = sym (int_wrap_fits w32 (pos 0) zero_fits) ∙ ap (net (pos 0)) (sym (set.len-empty path_cmp))

abbrev pub fresh_get : Bytes → Bool → Bool → Bool → Option Node
fresh_get r a b c =
    cond a (Some (preset_node set.empty))
    (cond b (Some (preset_node (named (codes "quota"))))
    (cond c (Some (preset_node (named (codes "zookeeper")))) None))

pub got : (r : Bytes) → finmap.get fresh_state.nodes r
    ≡ fresh_get r (eq_by_cmp path_cmp r quota) (eq_by_cmp path_cmp r own) (eq_by_cmp path_cmp r root)
got r =
    finmap.get-insert path_total _ quota (preset_node set.empty) r
    ∙ ap (λ (o : Option Node). cond (eq_by_cmp path_cmp r quota) (Some (preset_node set.empty)) o)
    (finmap.get-insert path_total _ own (preset_node (named (codes "quota"))) r
    ∙ ap (λ (o : Option Node). cond (eq_by_cmp path_cmp r own) (Some (preset_node (named (codes "quota")))) o)
    (finmap.get-insert path_total finmap.empty root (preset_node (named (codes "zookeeper"))) r
    ∙ ap
    (λ (o : Option Node). cond (eq_by_cmp path_cmp r root) (Some (preset_node (named (codes "zookeeper")))) o)
    (finmap.get-empty path_cmp r)))

same_is : (a b : Bytes) → eq_by_cmp path_cmp a b ≡ true → a ≡ b
same_is a b e = tells_apart exact_bytes a b e

agree : (r : Bytes) (node : Node) → finmap.get fresh_state.nodes r ≡ Some node → Agrees (first_count r) node
agree r node at =
    by (eq_by_cmp path_cmp r quota) (eq_by_cmp path_cmp r own) (eq_by_cmp path_cmp r root) refl refl refl
    (sym (got r) ∙ at)
  where
    by : (a b c : Bool) → eq_by_cmp path_cmp r quota ≡ a → eq_by_cmp path_cmp r own ≡ b
        → eq_by_cmp path_cmp r root ≡ c → fresh_get r a b c ≡ Some node → Agrees (first_count r) node
    by true b c e f g is =
        let here : preset_node set.empty ≡ node = cc in
        subst (λ (p : Bytes). Agrees (first_count p) node) (sym (same_is r quota e))
        (subst (Agrees (first_count quota)) here without_child)
    by false true c e f g is =
        let here : preset_node (named (codes "quota")) ≡ node = cc in
        subst (λ (p : Bytes). Agrees (first_count p) node) (sym (same_is r own f))
        (subst (Agrees (first_count own)) here (with_child (codes "quota")))
    by false false true e f g is =
        let here : preset_node (named (codes "zookeeper")) ≡ node = cc in
        subst (λ (p : Bytes). Agrees (first_count p) node) (sym (same_is r root g))
        (subst (Agrees (first_count root)) here (with_child (codes "zookeeper")))
    by false false false e f g is = cc

own_listed : is_listed_at fresh_state.nodes root (codes "zookeeper") ≡ true
own_listed =
    ap (is_listed (codes "zookeeper")) (got root)
    ∙ set.contains-insert path_total set.empty (codes "zookeeper") (codes "zookeeper")

quota_listed : is_listed_at fresh_state.nodes own (codes "quota") ≡ true
quota_listed =
    ap (is_listed (codes "quota")) (got own)
    ∙ set.contains-insert path_total set.empty (codes "quota") (codes "quota")

placed : (r : Bytes) (node : Node) → finmap.get fresh_state.nodes r ≡ Some node → is_root r ≡ false
    → HasPlace fresh_state.nodes r
placed r node at inner =
    by (eq_by_cmp path_cmp r quota) (eq_by_cmp path_cmp r own) (eq_by_cmp path_cmp r root) refl refl refl
    (sym (got r) ∙ at)
  where
    by : (a b c : Bool) → eq_by_cmp path_cmp r quota ≡ a → eq_by_cmp path_cmp r own ≡ b
        → eq_by_cmp path_cmp r root ≡ c → fresh_get r a b c ≡ Some node → HasPlace fresh_state.nodes r
    by true b c e f g is =
        subst (HasPlace fresh_state.nodes) (sym (same_is r quota e)) (record { child = refl; listed = quota_listed })
    by false true c e f g is =
        subst (HasPlace fresh_state.nodes) (sym (same_is r own f)) (record { child = refl; listed = own_listed })
    by false false true e f g is = absurd (true≢false (ap is_root (sym (same_is r root g)) ∙ inner))
    by false false false e f g is = cc

fresh_holds : Holds fresh_state first_count
fresh_holds = record {
  nodes = record { agree = agree; placed = placed };
  root = λ session. set.contains-empty pair_cmp (session, codes "/");
}

pub counts_are_shown : CountsAreShown
counts_are_shown log path node clean at =
    let holds : Holds (state_after fresh_state log) (count_from_log log) =
    log_holds log fresh_state first_count clean fresh_holds in
    let agrees : Agrees (count_from_log log path) node = holds.nodes.agree path node at in
    record {
      cversion = agrees.cversion ∙ sym (shown_is node.stat.cversion (set.len node.children) agrees.fits);
      pzxid = agrees.pzxid;
    }
