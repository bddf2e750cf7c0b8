use Rattle.node_map.specs.declared.node.Node.{Node}
use Rattle.node_map.specs.Children.{without_child}
use Rattle.node_map.proofs.NodeUpdates.{lent_is}
use Rattle.node_map.proofs.node_map.NodeMap.remove_child.Goals as goal

pub returns-clause-state : goal.returns-clause-state
returns-clause-state c =
    let w : Node = record c.in-Some.node.now { children = c.remove.new.self; stat = c.stat_after_delete-node.result } in
    lent_is c.get_mut.result c.args.self.now (c.get_mut.follows.lender w) c.args.path.now c.in-Some.node w
    (without_child c.args.name.now c.args.header.now)
    c.in-Some.is (c.get_mut.follows.holds w) c.in-Some.ensures.value
    (λ i. record c.in-Some.node.now
    { children = c.remove.ensures.removed i; stat = c.stat_after_delete-node.ensures i })
