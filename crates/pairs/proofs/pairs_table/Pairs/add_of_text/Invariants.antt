use Rattle.pairs.specs.Pairs.{pairs_of_text}
use Rattle.pairs.proofs.Totals.{pair_total, pair_exact}
use Rattle.pairs.proofs.Adding.{IsAdding}
use Rattle.pairs.proofs.ListedPairs.{with_text}
use Rattle.pairs.proofs.pairs_table.Pairs.add_of_text.Given as goal

abbrev pub invariant-loop-number : goal.invariant-loop-number
invariant-loop-number l =
    (goal.iterator-loop-number).can_next l.number-iterator
    × (goal.iterator-loop-number).is_finite l.number-iterator
    × IsAdding pair_total pair_exact l.fn.self (pairs_of_text l.text l.others) (with_text l.text l.number-iterator) l.self
