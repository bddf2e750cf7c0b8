use Rattle.std.proofs.Common.{◌≡◌, ◌++◌, nat_eq}
use Rattle.std.specs.List.{filter, starts_with}
use Rattle.ephemerals.specs.Orders.{sorted_names}
use Rattle.read_processor.proofs.later_reads.texts_with.Given as goal

abbrev pub invariant-loop-text : goal.invariant-loop-text
invariant-loop-text l =
    (goal.iterator-loop-text).can_next l.text-iterator
    × (goal.iterator-loop-text).is_finite l.text-iterator
    × (l.found.items ++ filter (λ path. starts_with nat_eq path l.front) l.text-iterator
    ≡ filter (λ path. starts_with nat_eq path l.front) (sorted_names l.texts))
