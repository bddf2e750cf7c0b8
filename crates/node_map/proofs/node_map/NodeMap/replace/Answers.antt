use Rattle.std.proofs.Common.{refl}
use Rattle.node_map.proofs.NodeUpdates.{lent_is}
use Rattle.node_map.proofs.node_map.NodeMap.replace.Goals as goal

pub returns : goal.returns
returns c =
    lent_is c.get_mut.result c.args.self.now (c.get_mut.follows.lender c.args.node) c.args.path.now c.in-Some.place
    c.args.node (λ _. c.args.node)
    c.in-Some.is (c.get_mut.follows.holds c.args.node) c.in-Some.ensures.value refl
