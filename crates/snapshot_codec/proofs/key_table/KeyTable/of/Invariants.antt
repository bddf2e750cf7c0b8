use Rattle.std.proofs.Common.{◌≡◌, []}
use Rattle.snapshot_codec.specs.Written.{Lists, lists_from}
use Rattle.snapshot_codec.specs.Writes.{shown_rows, IsTable}
use Rattle.snapshot_codec.proofs.key_table.KeyTable.of.Given as goal

abbrev pub invariant-loop-node : goal.invariant-loop-node
invariant-loop-node l =
    (goal.iterator-loop-node).can_next l.node-iterator
    × (goal.iterator-loop-node).is_finite l.node-iterator
    × ((lists : Lists) × IsTable l.dialect l.table lists
    × (lists_from lists (shown_rows l.node-iterator) ≡ lists_from [] (shown_rows l.rows.entries)))
