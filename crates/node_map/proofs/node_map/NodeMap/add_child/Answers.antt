use Rattle.node_map.specs.Children.{with_added_child}
use Rattle.ephemerals.proofs.Errors.{on_err}
use Rattle.node_map.proofs.NodeUpdates.{lent_is, lent_same}
use Rattle.node_map.proofs.node_map.NodeMap.add_child.Goals as goal

pub returns-then-branch-clause-state : goal.returns-then-branch-clause-state
returns-then-branch-clause-state c =
    lent_is c.get_mut.result c.args.self.now (c.get_mut.follows.lender c.add_child.new.self) c.args.path.now
    c.in-Some.node c.add_child.new.self
    (with_added_child c.args.header.now c.args.create.now c.args.name.now)
    c.in-Some.is (c.get_mut.follows.holds c.add_child.new.self) c.in-Some.ensures.value
    c.in_ok-add_child-in-Some.ensures.state

pub returns-clause-state : goal.returns-clause-state
returns-clause-state c =
    lent_is c.get_mut.result c.args.self.now (c.get_mut.follows.lender c.add_child.new.self) c.args.path.now
    c.in-Some.node c.add_child.new.self
    (with_added_child c.args.header.now c.args.create.now c.args.name.now)
    c.in-Some.is (c.get_mut.follows.holds c.add_child.new.self) c.in-Some.ensures.value
    c.in_ok-add_child-in-Some.ensures.state

pub returns-in_err-add_child-in-Some-clause-err : goal.returns-in_err-add_child-in-Some-clause-err
returns-in_err-add_child-in-Some-clause-err c =
    on_err c.from_residual.result
    (lent_same c.get_mut.result c.args.self.now (c.get_mut.follows.lender c.add_child.new.self) c.args.path.now
    c.in-Some.node c.add_child.new.self
    c.in-Some.is (c.get_mut.follows.holds c.add_child.new.self) c.in-Some.ensures.value
    c.in_err-add_child-in-Some.ensures.err)
