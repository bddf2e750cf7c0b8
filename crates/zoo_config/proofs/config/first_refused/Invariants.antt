use Rattle.std.proofs.Common.{◌≡◌, drop}
use Rattle.zoo_config.specs.Keys.{first_refused}
use Rattle.zoo_config.proofs.config.first_refused.Given as goal

abbrev pub invariant-loop-entry : goal.invariant-loop-entry
invariant-loop-entry l = first_refused l.entries ≡ first_refused (drop l.entry-index l.entries)
