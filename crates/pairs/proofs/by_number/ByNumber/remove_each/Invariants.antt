use Rattle.std.proofs.Common.{◌≡◌}
use Rattle.pairs.specs.Pairs.{sorted_numbers}
use Rattle.pairs.proofs.Tables.{without_numbers}
use Rattle.pairs.proofs.by_number.ByNumber.remove_each.Given as goal

abbrev pub invariant-loop-number : goal.invariant-loop-number
invariant-loop-number l =
    (goal.iterator-loop-number).can_next l.number-iterator
    × (goal.iterator-loop-number).is_finite l.number-iterator
    × (without_numbers l.text l.number-iterator l.self ≡ without_numbers l.text (sorted_numbers l.numbers) l.fn.self)
