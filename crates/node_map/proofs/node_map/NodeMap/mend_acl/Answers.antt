use Rattle.node_map.specs.Updates.{with_missing_acl}
use Rattle.node_map.proofs.NodeUpdates.{lent_is}
use Rattle.node_map.proofs.node_map.NodeMap.mend_acl.Goals as goal

pub returns : goal.returns
returns c =
    lent_is c.get_mut.result c.args.self.now (c.get_mut.follows.lender c.mend_acl.new.self) c.args.path.now
    c.in-Some.node c.mend_acl.new.self (with_missing_acl c.args.acl)
    c.in-Some.is (c.get_mut.follows.holds c.mend_acl.new.self) c.in-Some.ensures.value c.mend_acl.ensures
