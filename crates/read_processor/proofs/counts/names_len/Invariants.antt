use Rattle.ephemerals.specs.Orders.{sorted_names}
use Rattle.read_processor.proofs.Counting.{Left}
use Rattle.read_processor.proofs.counts.names_len.Given as goal

abbrev pub invariant-loop-text : goal.invariant-loop-text
invariant-loop-text l =
    (goal.iterator-loop-text).can_next l.text-iterator
    × (goal.iterator-loop-text).is_finite l.text-iterator
    × Left l.count l.text-iterator (sorted_names l.texts)
