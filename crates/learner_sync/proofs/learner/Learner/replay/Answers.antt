use Rattle.learner_sync.proofs.learner.Learner.replay.Goals as goal

pub returns-in-Proposal : goal.returns-in-Proposal
returns-in-Proposal c = rw c.in-Proposal.is (rw c.as_slice.ensures at c.propose.ensures)

pub returns-in-Inform : goal.returns-in-Inform
returns-in-Inform c = rw c.in-Inform.is (rw c.as_slice-in-Inform.ensures at c.inform.ensures)
