use Rattle.std.proofs.Common.{◌∙◌}
use Rattle.std.specs.FinSet as set
use Rattle.ephemerals.specs.Orders.{path_cmp}
use Rattle.watch_manager.specs.Inner.Grouped.{keys_beyond}
use Rattle.watch_manager.proofs.table.WatchTable.paths_beyond.Goals as goal

pub returns : goal.returns
returns c =
    c.texts_beyond.ensures
    ∙ (λ i. set.len (keys_beyond path_cmp (c.self.view_is i) (c.first.view_is i) (c.second.view_is i) (c.third.view_is i)))
