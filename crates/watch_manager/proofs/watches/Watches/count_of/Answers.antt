use Rattle.std.proofs.Common.{ap, ◌∙◌, arith}
use Rattle.std.specs.FinSet as set
use Rattle.watch_manager.specs.Pairs.{pairs_of_connection}
use Rattle.watch_manager.specs.Watching.{WatchTables}
use Rattle.watch_manager.proofs.watches.Watches.count_of.Goals as goal

pub returns : goal.returns
returns c =
    let connection = c.args.connection in
    let data_watches = c.count_of.ensures ∙ ap
    (λ (w : WatchTables). set.len (pairs_of_connection connection w.data_watches)) c.self.view_is in
    let child = c.count_of-2.ensures ∙ ap (λ (w : WatchTables). set.len (pairs_of_connection connection w.child))
    c.self.view_is in
    let persistent = c.count_of-3.ensures ∙ ap (λ s. set.len (pairs_of_connection connection s)) c.persistent.ensures
    ∙ ap (λ (w : WatchTables). set.len (pairs_of_connection connection w.lasting.persistent)) c.self.view_is in
    let recursive = c.count_of-4.ensures ∙ ap (λ s. set.len (pairs_of_connection connection s)) c.recursive.ensures
    ∙ ap (λ (w : WatchTables). set.len (pairs_of_connection connection w.lasting.recursive)) c.self.view_is in
    omega (arith, data_watches, child, persistent, recursive)
