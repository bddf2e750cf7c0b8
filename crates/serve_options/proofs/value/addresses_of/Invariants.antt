use Rattle.std.proofs.Common.{map, take}
use Rattle.serve_options.specs.Values.{ArePlaces}
use Rattle.serve_options.proofs.value.addresses_of.Given as goal

-- The addresses so far are those of the parts that were read.
abbrev pub invariant-loop-part : goal.invariant-loop-part
invariant-loop-part l = ArePlaces (map (λ part. part.now) (take l.part-index l.part-items)) l.addresses.items
