use Rattle.std.proofs.Common.{◌≡◌, ◌++◌, drop, map}
use Rattle.std.specs.Option.{option_map}
use Rattle.zoo_config.specs.Addresses.{meeting_place, address_spelling}
use Rattle.zoo_config.proofs.address.addresses_in.Given as goal

-- The addresses so far, and those of the parts that are left.
abbrev pub invariant-loop-part : goal.invariant-loop-part
invariant-loop-part l =
    map (option_map address_spelling) l.addresses.items
    ++ map meeting_place (map (λ part. part.now) (drop l.part-index l.part-items))
    ≡ map meeting_place (map (λ part. part.now) l.part-items)
