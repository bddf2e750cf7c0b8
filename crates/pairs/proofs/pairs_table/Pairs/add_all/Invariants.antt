use Rattle.pairs.specs.Pairs.{listed_pairs}
use Rattle.pairs.proofs.Totals.{pair_total, pair_exact}
use Rattle.pairs.proofs.Adding.{IsAdding}
use Rattle.pairs.proofs.pairs_table.Pairs.add_all.Given as goal

abbrev pub invariant-loop-number : goal.invariant-loop-number
invariant-loop-number l =
    (goal.iterator-loop-number).can_next l.number-iterator
    × (goal.iterator-loop-number).is_finite l.number-iterator
    × IsAdding pair_total pair_exact l.fn.self l.others (listed_pairs l.number-iterator) l.self
