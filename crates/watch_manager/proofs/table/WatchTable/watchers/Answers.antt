use Rattle.std.proofs.Common.{◌≡◌, IfOk, subst}
use Rattle.watch_manager.specs.Pairs.{WatchPairs, watchers_of}
use Rattle.watch_manager.proofs.table.WatchTable.watchers.Goals as goal

pub returns : goal.returns
returns c =
    subst (λ (s : WatchPairs). IfOk c.numbers_of.result (λ conns. conns ≡ watchers_of c.args.path.now s)) c.self.view_is
    c.numbers_of.ensures
