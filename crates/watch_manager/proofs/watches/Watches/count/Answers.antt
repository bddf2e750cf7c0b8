use Rattle.std.proofs.Common.{ap, ◌∙◌, arith}
use Rattle.std.specs.FinSet as set
use Rattle.watch_manager.specs.Watching.{WatchTables}
use Rattle.watch_manager.proofs.watches.Watches.count.Goals as goal

pub returns : goal.returns
returns c =
    let data_watches = c.count.ensures ∙ ap (λ (w : WatchTables). set.len w.data_watches) c.self.view_is in
    let child = c.count-2.ensures ∙ ap (λ (w : WatchTables). set.len w.child) c.self.view_is in
    let persistent = c.count-3.ensures ∙ ap set.len c.persistent.ensures
    ∙ ap (λ (w : WatchTables). set.len w.lasting.persistent) c.self.view_is in
    let recursive = c.count-4.ensures ∙ ap set.len c.recursive.ensures
    ∙ ap (λ (w : WatchTables). set.len w.lasting.recursive) c.self.view_is in
    omega (arith, data_watches, child, persistent, recursive)
