use Rattle.learner_sync.proofs.learner.Learner.activate.Goals as goal

pub returns : goal.returns
returns c =
    let read = rw c.new-reader.ensures at c.in_ok-read_long.ensures in
    rw read (rw c.rest.ensures at c.inform.ensures)
