use Rattle.std.proofs.Common.{ap}
use Rattle.node_map.specs.declared.node.Node.{Node}
use Rattle.node_map.specs.Updates.{with_name}
use Rattle.ephemerals.proofs.Errors.{on_err}
use Rattle.node_map.proofs.NodeUpdates.{lent_is, lent_same}
use Rattle.node_map.proofs.node_map.NodeMap.add_name.Goals as goal

pub returns-then-branch-clause-state : goal.returns-then-branch-clause-state
returns-then-branch-clause-state c =
    let w : Node = record c.in-Some.node.now { children = c.insert.new.self } in
    lent_is c.get_mut.result c.args.self.now (c.get_mut.follows.lender w) c.args.path.now c.in-Some.node w
    (with_name c.args.name.now)
    c.in-Some.is (c.get_mut.follows.holds w) c.in-Some.ensures.value
    (ap (λ s. let n : Node = record c.in-Some.node.now { children = s } in n) c.in_ok-insert-in-Some.ensures.ok)

pub returns-clause-state : goal.returns-clause-state
returns-clause-state c =
    let w : Node = record c.in-Some.node.now { children = c.insert.new.self } in
    lent_is c.get_mut.result c.args.self.now (c.get_mut.follows.lender w) c.args.path.now c.in-Some.node w
    (with_name c.args.name.now)
    c.in-Some.is (c.get_mut.follows.holds w) c.in-Some.ensures.value
    (ap (λ s. let n : Node = record c.in-Some.node.now { children = s } in n) c.in_ok-insert-in-Some.ensures.ok)

pub returns-in_err-insert-in-Some-clause-err : goal.returns-in_err-insert-in-Some-clause-err
returns-in_err-insert-in-Some-clause-err c =
    let w : Node = record c.in-Some.node.now { children = c.insert.new.self } in
    on_err c.from_residual.result
    (lent_same c.get_mut.result c.args.self.now (c.get_mut.follows.lender w) c.args.path.now c.in-Some.node w
    c.in-Some.is (c.get_mut.follows.holds w) c.in-Some.ensures.value
    (ap (λ s. let n : Node = record c.in-Some.node.now { children = s } in n) c.in_err-insert-in-Some.ensures.err))
