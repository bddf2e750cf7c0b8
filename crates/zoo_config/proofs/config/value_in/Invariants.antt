use Rattle.std.proofs.Common.{◌≡◌, None, drop}
use Rattle.std.specs.Option.{option_map}
use Rattle.zoo_config.specs.Keys.{value_after}
use Rattle.zoo_config.proofs.config.value_in.Given as goal

abbrev pub invariant-loop-entry : goal.invariant-loop-entry
invariant-loop-entry l =
    value_after l.key (option_map (λ value. value.now) l.found) (drop l.entry-index l.entries)
    ≡ value_after l.key None l.entries
