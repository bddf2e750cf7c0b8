use Rattle.std.proofs.Common.{◌≡◌, ◌++◌, drop}
use Rattle.apply_workers.specs.Taking.{cells_of_each, without_group_cells}
use Rattle.apply_workers.proofs.taking.take_each.Given as goal

abbrev pub invariant-loop-group : goal.invariant-loop-group
invariant-loop-group l =
    record {
      cells : l.taken.items ++ cells_of_each (drop l.group-index l.groups) l.tree ≡ cells_of_each l.groups l.fn.tree;
      rest : without_group_cells (drop l.group-index l.groups) l.tree ≡ without_group_cells l.groups l.fn.tree;
    }
