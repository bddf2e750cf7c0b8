use Rattle.std.proofs.Common.{ap}
use Rattle.node_map.specs.declared.node.Node.{Node}
use Rattle.node_map.specs.Children.{without_name}
use Rattle.node_map.proofs.NodeUpdates.{lent_is}
use Rattle.node_map.proofs.node_map.NodeMap.remove_name.Goals as goal

pub returns : goal.returns
returns c =
    let w : Node = record c.in-Some.node.now { children = c.remove.new.self } in
    lent_is c.get_mut.result c.args.self.now (c.get_mut.follows.lender w) c.args.path.now c.in-Some.node w
    (without_name c.args.name.now)
    c.in-Some.is (c.get_mut.follows.holds w) c.in-Some.ensures.value
    (ap (λ s. let n : Node = record c.in-Some.node.now { children = s } in n) c.remove.ensures.removed)
