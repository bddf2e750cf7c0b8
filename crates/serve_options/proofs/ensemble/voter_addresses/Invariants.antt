use Rattle.std.proofs.Common.{◌≡◌, ◌++◌, map, drop}
use Rattle.std.specs.List.{flat_map}
use Rattle.zoo_config.specs.Addresses.{address_spelling}
use Rattle.serve_options.specs.Ensemble.{server_addresses}
use Rattle.serve_options.proofs.ensemble.voter_addresses.Given as goal

-- The addresses so far, and those of the voters that are left.
abbrev pub invariant-loop-voter : goal.invariant-loop-voter
invariant-loop-voter l =
    map address_spelling l.addresses.items ++ flat_map server_addresses (drop l.voter-index l.voter-items)
    ≡ flat_map server_addresses l.voter-items
