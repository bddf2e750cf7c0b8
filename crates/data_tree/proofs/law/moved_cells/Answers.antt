use Rattle.data_tree.proofs.MovedCells.{taken_cells_move, cells_come_to_empty_cells, taken_and_put_back}
use Rattle.data_tree.proofs.law.moved_cells.Goals as goal

pub returns : goal.returns
returns c = record { take = taken_cells_move; put = cells_come_to_empty_cells; back = taken_and_put_back }
