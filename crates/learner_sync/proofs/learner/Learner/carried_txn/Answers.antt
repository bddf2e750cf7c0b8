use Rattle.std.proofs.Common.{subst}
use Rattle.jute.specs.Reads.{ReadsOwnedWhole}
use Rattle.learner_sync.specs.Learn.{carried_txn}
use Rattle.learner_sync.specs.Learner.{Learner}
use Rattle.learner_sync.proofs.learner.Learner.carried_txn.Goals as goal

pub returns : goal.returns
returns c = subst (λ (l : Learner). ReadsOwnedWhole (carried_txn l c.args.bytes.now) c.decode_txn_in.result)
    c.self.view_is c.decode_txn_in.ensures.exact
