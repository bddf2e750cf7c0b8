use Rattle.txn_codec.specs.Row.{footprint_of_parts}
use Rattle.data_tree.specs.Meaning.{delete_operations}
use Rattle.based_tree.specs.Inner.{SavesMore, deleted_footprint}
use Rattle.based_tree.proofs.Changes.{LeftToSave}
use Rattle.based_tree.proofs.saved.SavedCells.save_with_parents.Given as goal

abbrev pub invariant-loop-path : goal.invariant-loop-path
invariant-loop-path l =
    (goal.iterator-loop-path).can_next l.path-iterator
    × (goal.iterator-loop-path).is_finite l.path-iterator
    × SavesMore l.tree l.fn.self l.self
    × LeftToSave (deleted_footprint l.paths) (footprint_of_parts (delete_operations l.path-iterator)) l.self
