use Rattle.std.proofs.Common.{◌≡◌}
use Rattle.std.specs.Ordering.{nat_cmp}
use Rattle.pairs.specs.Inner.Stored.{keys_in_one}
use Rattle.pairs.proofs.Keys.{left_count}
use Rattle.pairs.proofs.by_number.ByNumber.count_beyond.Given as goal

abbrev pub invariant-loop-number : goal.invariant-loop-number
invariant-loop-number l =
    (goal.iterator-loop-number).can_next l.number-iterator
    × (goal.iterator-loop-number).is_finite l.number-iterator
    × (l.count
    ≡ left_count (keys_in_one nat_cmp l.first l.second l.third) l.initial.number-iterator l.number-iterator)
