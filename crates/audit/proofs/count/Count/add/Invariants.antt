use Rattle.std.proofs.Common.{◌≡◌, drop}
use Rattle.audit.specs.Count.{count_after_triggers}
use Rattle.audit.proofs.count.Count.add.Given as goal

abbrev pub invariant-loop-trigger : goal.invariant-loop-trigger
invariant-loop-trigger l =
    count_after_triggers l.path l.self l.header.zxid (drop l.trigger-index l.triggers)
    ≡ count_after_triggers l.path l.fn.self l.header.zxid l.triggers
