use Rattle.std.specs.List.{AllByRecursion}
use Rattle.client_records.specs.Fields.{names_format}
use Rattle.ephemerals.specs.Orders.{sorted_names}
use Rattle.client_records.proofs.Names.{Written, MayBeWritten}
use Rattle.client_records.proofs.fields.put_names.Given as goal

abbrev pub invariant-loop-text : goal.invariant-loop-text
invariant-loop-text l =
    (goal.iterator-loop-text).can_next l.text-iterator
    × (goal.iterator-loop-text).is_finite l.text-iterator
    × AllByRecursion MayBeWritten l.text-iterator
    × Written l.fn.out.items (names_format.written (sorted_names l.texts)) l.out.items l.text-iterator
