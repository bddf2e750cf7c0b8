use Rattle.std.proofs.Common.{◌≡◌, ◌++◌, map, drop}
use Rattle.std.specs.Prelude.{option_map}
use Rattle.std.specs.List.{filter_map}
use Rattle.zoo_config.specs.Addresses.{address_spelling}
use Rattle.serve_options.proofs.ensemble.put_addresses.Given as goal

-- The addresses so far, and those that are left.
abbrev pub invariant-loop-address : goal.invariant-loop-address
invariant-loop-address l =
    map address_spelling l.all.items
    ++ filter_map (λ address. address) (map (option_map address_spelling) (drop l.address-index l.address-items))
    ≡ map address_spelling l.fn.all.items
    ++ filter_map (λ address. address) (map (option_map address_spelling) l.address-items)
