use Rattle.std.proofs.Common.{ap}
use Rattle.jute.specs.declared.stat.StatPersisted.{StatPersisted}
use Rattle.node_map.specs.declared.node.Node.{Node}
use Rattle.node_map.specs.Children.{without_missing_child}
use Rattle.node_map.proofs.NodeUpdates.{lent_is}
use Rattle.node_map.proofs.node_map.NodeMap.miss_child.Goals as goal

pub returns : goal.returns
returns c =
    let w : Node = record c.in-Some.node.now { stat = c.stat_after_delete-node.result } in
    lent_is c.get_mut.result c.args.self.now (c.get_mut.follows.lender w) c.args.path.now c.in-Some.node w
    (without_missing_child c.args.header.now)
    c.in-Some.is (c.get_mut.follows.holds w) c.in-Some.ensures.value
    (ap (λ (s : StatPersisted). let n : Node = record c.in-Some.node.now { stat = s } in n) c.stat_after_delete-node.ensures)
