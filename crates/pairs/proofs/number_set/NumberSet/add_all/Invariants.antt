use Rattle.std.specs.Cmp.{nat_cmp_total}
use Rattle.std.proofs.lemmas.Map.Lookups.{exact_unsigned}
use Rattle.pairs.proofs.Adding.{IsAdding}
use Rattle.pairs.proofs.number_set.NumberSet.add_all.Given as goal

abbrev pub invariant-loop-number : goal.invariant-loop-number
invariant-loop-number l =
    (goal.iterator-loop-number).can_next l.number-iterator
    × (goal.iterator-loop-number).is_finite l.number-iterator
    × IsAdding nat_cmp_total exact_unsigned l.fn.self l.others l.number-iterator l.self
