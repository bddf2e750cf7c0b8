use Rattle.std.proofs.Common.{subst}
use Rattle.std.proofs.lemmas.Result.{on_ok_weaker}
use Rattle.based_tree.specs.Inner.{AreSaved, deleted_footprint}
use Rattle.based_tree.proofs.saved.SavedCells.save_ended.Goals as goal

pub returns-clause-here : goal.returns-clause-here
returns-clause-here c =
    on_ok_weaker c.save_with_parents.result
    (λ here. subst (λ ps. AreSaved (deleted_footprint ps) c.save_with_parents.new.self) c.in_ok-paths.ensures here)
    c.save_with_parents.ensures.here
