-- The cells of groups, taken from a state one group after the other.
use Rattle.std.specs.Prelude.{List, [], ◌∷◌}
use Rattle.data_tree.specs.State.{State}
use Rattle.data_tree.specs.Cells.{cells_at, without_cells}
use Rattle.batcher.specs.Class.{TxnGroup}

abbrev pub cells_of_each : List TxnGroup → State → List State
cells_of_each [] s = []
cells_of_each (c ∷ cs) s = cells_at c.paths s ∷ cells_of_each cs (without_cells c.paths s)

-- The state that is left.
abbrev pub without_group_cells : List TxnGroup → State → State
without_group_cells [] s = s
without_group_cells (c ∷ cs) s = without_group_cells cs (without_cells c.paths s)
