use Rattle.std.proofs.Common.{◌≡◌, drop, map}
use Rattle.std.specs.Option.{option_map}
use Rattle.zoo_config.specs.Addresses.{address_spelling, one_is, is_observer}
use Rattle.zoo_config.proofs.address.one_is_observer.Given as goal

abbrev pub invariant-loop-address : goal.invariant-loop-address
invariant-loop-address l =
    one_is is_observer (map (option_map address_spelling) l.addresses)
    ≡ one_is is_observer (map (option_map address_spelling) (drop l.address-index l.addresses))
