use Rattle.std.proofs.Common.{◌≡◌, ◌++◌, drop}
use Rattle.watch_manager.specs.Watches.{fire}
use Rattle.watch_manager.specs.Inner.Telling.{watch_tables}
use Rattle.watch_manager.proofs.watches.Watches.tell_all.Given as goal

abbrev pub invariant-loop-trigger : goal.invariant-loop-trigger
invariant-loop-trigger l =
    l.events.items ++ (fire (watch_tables l.data_watches l.child l.self.lasting)
    (drop l.trigger-index l.triggers)).events
    ≡ (fire l.self l.triggers).events
