use Rattle.std.proofs.Common.{ap, ◌∙◌}
use Rattle.std.specs.FinSet as set
use Rattle.ephemerals.specs.Orders.{path_cmp}
use Rattle.watch_manager.specs.Pairs.{WatchPairs}
use Rattle.watch_manager.specs.Inner.Grouped.{keys_in}
use Rattle.watch_manager.proofs.table.WatchTable.is_watched.Goals as goal

pub returns : goal.returns
returns c =
    c.has_text.ensures
    ∙ ap (λ (s : WatchPairs). set.contains (keys_in path_cmp s) c.args.path.now) c.self.view_is
