use Rattle.std.proofs.Common.{◌≡◌, ◌++◌, drop}
use Rattle.txn_codec.specs.Row.{footprint_of_parts}
use Rattle.txn_codec.proofs.row.add_parts.Given as goal

abbrev pub invariant-loop-part : goal.invariant-loop-part
invariant-loop-part l =
    l.paths.items ++ footprint_of_parts (drop l.part-index l.parts) ≡ l.fn.paths.items ++ footprint_of_parts l.parts
