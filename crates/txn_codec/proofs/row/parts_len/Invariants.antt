use Rattle.std.proofs.Common.{◌≡◌, ◌+◌, ◌-◌, ◌^◌, ◌≤◌, min, drop}
use Rattle.txn_codec.specs.Row.{data_len_of_parts}
use Rattle.txn_codec.proofs.row.parts_len.Given as goal

-- The length so far, and that of the rest.
abbrev pub invariant-loop-part : goal.invariant-loop-part
invariant-loop-part l =
    (l.len ≤ 2 ^ 64 - 1)
    × (min (l.len + data_len_of_parts (drop l.part-index l.parts)) (2 ^ 64 - 1)
    ≡ min (data_len_of_parts l.parts) (2 ^ 64 - 1))
