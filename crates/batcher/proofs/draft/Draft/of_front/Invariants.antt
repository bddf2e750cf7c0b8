use Rattle.std.proofs.Common.{◌≡◌, [], drop}
use Rattle.batcher.specs.Inner.Taking.{tagged_front_after}
use Rattle.batcher.specs.Inner.Drafts.{tagged_in, IsDraft}
use Rattle.batcher.proofs.draft.Draft.of_front.Given as goal

abbrev pub invariant-loop-txn : goal.invariant-loop-txn
invariant-loop-txn l =
    record {
      is_draft : IsDraft l.draft;
      taken : tagged_front_after l.limits (tagged_in l.draft) (drop l.txn-index l.txns)
          ≡ tagged_front_after l.limits [] l.txns;
    }
