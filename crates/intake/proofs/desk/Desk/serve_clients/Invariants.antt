use Rattle.std.proofs.Common.{take}
use Rattle.intake.specs.Desk.{KeepsPorts}
use Rattle.intake.specs.Steps.{ServesPorts}
use Rattle.intake.proofs.desk.Desk.serve_clients.Given as goal

abbrev pub invariant-loop-number : goal.invariant-loop-number
invariant-loop-number g l = record {
  serves : ServesPorts (take l.number-index l.numbers) l.initial.self l.self;
  keeps : KeepsPorts l.initial.self l.self;
}
