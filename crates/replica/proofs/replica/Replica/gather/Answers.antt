use Rattle.quorum_packet.specs.Lending.{owned_item}
use Rattle.learner_sync.specs.Learn.{LearnerStep}
use Rattle.replica.proofs.OneTransaction.{transactions-are-gathered}
use Rattle.replica.proofs.replica.Replica.gather.Goals as goal

pub returns : goal.returns
returns c =
    let x : LearnerStep = record { acts = c.in_ok-learn.field-0; after = c.learn.new.self.learner } in (
      transactions-are-gathered c.args.self.now (owned_item c.args.item) x c.requires c.in_ok-learn.ensures.0,
      c.in_ok-learn.ensures.1,
    )
