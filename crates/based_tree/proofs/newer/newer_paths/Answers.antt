use Rattle.std.proofs.Common.{rules, ◌≡◌, List, [], ◌∷◌, ◌++◌, to_z, of_z, w64, sym, ap, subst, ◌∙◌}
use Rattle.std.specs.FinMap as finmap
use Rattle.ephemerals.specs.Orders.{Bytes, path_cmp}
use Rattle.node_map.specs.declared.node.Node.{Node}
use Rattle.node_map.proofs.HashedNodes.{AreApart}
use Rattle.based_tree.specs.Inner.{AreNewerPaths}
use Rattle.based_tree.proofs.EachNode.{NewerLeft, none-listed, newer-listed, older-passed, all-listed}
use Rattle.based_tree.proofs.newer.newer_paths.Goals as goal

pub loop-path-init : goal.loop-path-init
loop-path-init c = (
  tt,
  tt,
  subst (λ (ps : List Bytes). NewerLeft (to_z w64 (of_z w64 c.args.zxid)) c.args.tree.now ps c.into_iter-path-iterator.result)
      (sym c.new-paths.ensures.items)
      (none-listed (to_z w64 (of_z w64 c.args.zxid)) c.args.tree.now c.into_iter-path-iterator.result
      (ap (λ (es : List (Bytes × Node)). finmap.from_entries {R = path_cmp} es)
      c.into_iter-path-iterator.ensures.into_iter_gives
      ∙ c.nodes-path-items.ensures.nodes)
      (subst AreApart (sym c.into_iter-path-iterator.ensures.into_iter_gives) c.nodes-path-items.ensures.once)),
)

pub loop-path-preserved-in_ok-push : goal.loop-path-preserved-in_ok-push
loop-path-preserved-in_ok-push c =
    let zxid = to_z w64 (of_z w64 c.args.zxid) in
    let tree = c.args.tree.now in
    let before = c.loop-path.paths.items in (
      tt,
      tt,
      subst (λ (ps : List Bytes). NewerLeft zxid tree ps c.next.new.self)
          (ap (λ p. before ++ p ∷ []) (sym (c.in_ok-new.ensures ∙ c.as_str.ensures)) ∙ sym c.in_ok-push.ensures.items)
          (newer-listed zxid tree before c.in-Some.path.now c.in-Some.node.now c.next.new.self
          (sym c.is_newer.ensures ∙ c.if-is_newer.true)
          (subst (NewerLeft zxid tree before) c.in-Some.ensures.steps c.loop-path.invariant.2)),
    )

pub loop-path-preserved : goal.loop-path-preserved
loop-path-preserved c =
    let zxid = to_z w64 (of_z w64 c.args.zxid) in
    let tree = c.args.tree.now in
    let before = c.loop-path.paths.items in (
      tt,
      tt,
      older-passed zxid tree before c.in-Some.path.now c.in-Some.node.now c.next.new.self
          (sym c.is_newer.ensures ∙ c.if-is_newer.false)
          (subst (NewerLeft zxid tree before) c.in-Some.ensures.steps c.loop-path.invariant.2),
    )

pub returns : goal.returns
returns c =
    let zxid : to_z w64 (of_z w64 c.args.zxid) ≡ c.args.zxid = search rules in
    let tree = c.args.tree.now in
    let paths = c.loop-path.paths.items in
    subst (λ z. AreNewerPaths z tree paths) zxid
    (all-listed (to_z w64 (of_z w64 c.args.zxid)) tree paths
    (subst (NewerLeft (to_z w64 (of_z w64 c.args.zxid)) tree paths) c.in-None.ensures.steps.0 c.loop-path.invariant.2))
