use Rattle.std.proofs.Common.{ap, ◌∙◌}
use Rattle.std.specs.FinSet as set
use Rattle.ephemerals.specs.Orders.{path_cmp}
use Rattle.watch_manager.specs.Pairs.{WatchPairs}
use Rattle.watch_manager.specs.Inner.Grouped.{keys_in}
use Rattle.watch_manager.proofs.table.WatchTable.paths.Goals as goal

pub returns : goal.returns
returns c = c.texts.ensures ∙ ap (λ (s : WatchPairs). set.len (keys_in path_cmp s)) c.self.view_is
