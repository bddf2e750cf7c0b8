use Rattle.observer_core.proofs.Showing.{replies_show_trees}
use Rattle.observer_core.proofs.law.replies_show_trees.Goals as goal

pub returns : goal.returns
returns c = replies_show_trees c.logs.ensures c.serving-2.ensures c.serving.ensures
