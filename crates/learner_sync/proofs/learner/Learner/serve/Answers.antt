use Rattle.learner_sync.proofs.learner.Learner.serve.Goals as goal

pub returns-in-Inform : goal.returns-in-Inform
returns-in-Inform c = rw c.in-Inform.is (rw c.as_slice.ensures at c.inform.ensures)
