use Rattle.std.proofs.Common.{rules, ◌≡◌, List, ap, subst, to_z, of_z, w64, ◌∙◌}
use Rattle.ephemerals.specs.Orders.{Bytes}
use Rattle.based_tree.specs.Inner.{without_nodes_at, AreNewerPaths}
use Rattle.based_tree.proofs.EachNode.{newer-removed}
use Rattle.based_tree.proofs.newer.remove_newer.Goals as goal

pub returns : goal.returns
returns c =
    let tree = c.args.tree.now in
    let paths = c.in_ok-paths.paths.items in
    let zxid : to_z w64 (of_z w64 c.args.zxid) ≡ c.args.zxid = search rules in
    let listed : c.as_slice.result.now ≡ paths = search rules in
    c.remove_nodes.ensures
    ∙ ap (λ (ps : List Bytes). without_nodes_at ps tree) listed
    ∙ newer-removed c.args.zxid tree paths
    (subst (λ z. AreNewerPaths z tree paths) zxid c.in_ok-paths.ensures)
