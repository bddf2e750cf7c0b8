use Rattle.std.proofs.Common.{◌≡◌, length}
use Rattle.apply_workers.proofs.home.empty_outcomes.Given as goal

abbrev pub invariant-loop : goal.invariant-loop
invariant-loop l = length l.blanks.items ≡ l.counter
