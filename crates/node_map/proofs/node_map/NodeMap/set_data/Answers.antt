use Rattle.node_map.specs.Updates.{with_data}
use Rattle.ephemerals.proofs.Errors.{on_err}
use Rattle.node_map.proofs.NodeUpdates.{lent_is, lent_same}
use Rattle.node_map.proofs.node_map.NodeMap.set_data.Goals as goal

pub returns-clause-state : goal.returns-clause-state
returns-clause-state c =
    lent_is c.get_mut.result c.args.self.now (c.get_mut.follows.lender c.set_data.new.self) c.args.path.now
    c.in-Some.node c.set_data.new.self (with_data c.args.header.now c.args.body.now)
    c.in-Some.is (c.get_mut.follows.holds c.set_data.new.self) c.in-Some.ensures.value
    c.in_ok-set_data-in-Some.ensures.ok

pub returns-in_err-set_data-in-Some-clause-err : goal.returns-in_err-set_data-in-Some-clause-err
returns-in_err-set_data-in-Some-clause-err c =
    on_err c.from_residual.result
    (lent_same c.get_mut.result c.args.self.now (c.get_mut.follows.lender c.set_data.new.self) c.args.path.now
    c.in-Some.node c.set_data.new.self
    c.in-Some.is (c.get_mut.follows.holds c.set_data.new.self) c.in-Some.ensures.value
    c.in_err-set_data-in-Some.ensures.err)
