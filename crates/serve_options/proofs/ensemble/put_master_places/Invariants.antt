use Rattle.std.proofs.Common.{◌≡◌, ◌++◌, Some, map, drop, string_bytes}
use Rattle.zoo_config.specs.Addresses.{address_spelling}
use Rattle.serve_options.specs.Ensemble.{master_places}
use Rattle.serve_options.proofs.ensemble.put_master_places.Given as goal

-- The places so far, and those that are left.
abbrev pub invariant-loop-address : goal.invariant-loop-address
invariant-loop-address l =
    map string_bytes l.places.items
    ++ master_places (Some l.port) (map address_spelling (drop l.address-index l.addresses))
    ≡ map string_bytes l.fn.places.items ++ master_places (Some l.port) (map address_spelling l.addresses)
