use Rattle.batcher.specs.Inner.Drafts.{tagged_in}
use Rattle.batcher.proofs.Steps.{next_is}
use Rattle.batcher.proofs.Drafting.{next_taken}
use Rattle.batcher.proofs.draft.Draft.of_front.Goals as goal

pub loop-txn-preserved : goal.loop-txn-preserved
loop-txn-preserved c =
    record {
      is_draft = c.in_ok-take.ensures.draft;
      taken = next_taken c.args.limits.now c.args.txns.now c.loop-txn.txn-index c.txn-item.result
          (next_is c.args.txns.now c.loop-txn.txn-index c.txn-item.result c.loop-txn-test.true c.txn-item.is)
          (tagged_in c.loop-txn.draft) (tagged_in c.take.new.self) _ c.in_ok-take.field-0 c.if-not-branch.false
          c.in_ok-take.ensures.taken c.loop-txn.invariant.taken;
    }
