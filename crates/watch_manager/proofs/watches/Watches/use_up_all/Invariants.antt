use Rattle.std.proofs.Common.{◌≡◌, drop}
use Rattle.watch_manager.specs.Watches.{fire}
use Rattle.watch_manager.proofs.watches.Watches.use_up_all.Given as goal

abbrev pub invariant-loop-trigger : goal.invariant-loop-trigger
invariant-loop-trigger l = (fire l.self (drop l.trigger-index l.triggers)).left ≡ (fire l.fn.self l.triggers).left
