use Rattle.data_tree.proofs.Batches.{groups_are_the_batch, cells_put_back_are_the_batch}
use Rattle.data_tree.proofs.law.groups.Goals as goal

pub returns : goal.returns
returns c = record { cells = groups_are_the_batch; state = cells_put_back_are_the_batch }
