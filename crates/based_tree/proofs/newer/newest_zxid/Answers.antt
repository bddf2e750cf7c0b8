use Rattle.std.proofs.Common.{rules, ◌≡◌, List, [], to_z, of_z, w64, sym, ap, subst, ◌∙◌}
use Rattle.std.specs.Int.{int_max}
use Rattle.std.specs.FinMap as finmap
use Rattle.ephemerals.specs.Orders.{Bytes, path_cmp}
use Rattle.node_map.specs.declared.node.Node.{Node}
use Rattle.based_tree.proofs.EachNode.{NoneNewer, newer-first, newer-next, newer-last}
use Rattle.based_tree.proofs.newer.newest_zxid.Goals as goal

pub loop-node-init : goal.loop-node-init
loop-node-init c = (
  tt,
  tt,
  newer-first _ c.args.tree.now c.into_iter-node-iterator.result
      (ap (λ (es : List (Bytes × Node)). finmap.from_entries {R = path_cmp} es)
      c.into_iter-node-iterator.ensures.into_iter_gives
      ∙ c.nodes-node-items.ensures.nodes),
)

pub loop-node-preserved : goal.loop-node-preserved
loop-node-preserved c =
    let tree = c.args.tree.now in
    let stat = c.in-Some.node.now.stat in
    let newest = to_z w64 c.loop-node.newest-bits in
    let created : to_z w64 (of_z w64 stat.czxid) ≡ stat.czxid = search rules in
    let written : to_z w64 (of_z w64 stat.mzxid) ≡ stat.mzxid = search rules in
    let children : to_z w64 (of_z w64 stat.pzxid) ≡ stat.pzxid = search rules in
    let changed : to_z w64 (of_z w64 c.max-changed.result) ≡ c.max-changed.result = search rules in
    let last : to_z w64 (of_z w64 c.max.result) ≡ c.max.result = search rules in
    let after : to_z w64 (of_z w64 c.max-newest.result) ≡ c.max-newest.result = search rules in
    let either : to_z w64 (of_z w64 c.max-changed.result) ≡ int_max stat.mzxid stat.pzxid =
    changed ∙ c.max-changed.ensures.value ∙ (λ i. int_max (written i) (children i)) in
    let all : to_z w64 (of_z w64 c.max.result) ≡ int_max stat.czxid (int_max stat.mzxid stat.pzxid) =
    last ∙ c.max.ensures.value ∙ (λ i. int_max (created i) (either i)) in (
      tt,
      tt,
      subst (λ z. NoneNewer z tree c.next.new.self)
          (sym (after ∙ c.max-newest.ensures.value ∙ ap (int_max newest) all))
          (newer-next newest tree ([], c.in-Some.node.now) c.next.new.self
          (subst (NoneNewer newest tree) c.in-Some.ensures.steps c.loop-node.invariant.2)),
    )

pub returns : goal.returns
returns c =
    let tree = c.args.tree.now in
    newer-last (to_z w64 c.loop-node.newest-bits) tree
    (subst (NoneNewer (to_z w64 c.loop-node.newest-bits) tree) c.in-None.ensures.steps.0 c.loop-node.invariant.2)
