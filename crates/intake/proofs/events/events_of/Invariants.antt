use Rattle.std.proofs.Common.{◌≡◌, take}
use Rattle.intake.specs.Messages.{events_of}
use Rattle.intake.proofs.events.events_of.Given as goal

abbrev pub invariant-loop-message : goal.invariant-loop-message
invariant-loop-message l = l.events.items ≡ events_of (take l.message-index l.messages)
