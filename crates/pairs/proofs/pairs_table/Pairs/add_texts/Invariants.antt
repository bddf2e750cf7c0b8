use Rattle.std.proofs.Common.{drop}
use Rattle.pairs.specs.Inner.Stored.{pairs_with_number}
use Rattle.pairs.proofs.Totals.{pair_total, pair_exact}
use Rattle.pairs.proofs.Adding.{IsAdding}
use Rattle.pairs.proofs.ListedPairs.{with_number}
use Rattle.pairs.proofs.pairs_table.Pairs.add_texts.Given as goal

abbrev pub invariant-loop-text : goal.invariant-loop-text
invariant-loop-text l =
    IsAdding pair_total pair_exact l.fn.self (pairs_with_number l.number l.texts)
    (with_number l.number (drop l.text-index l.all)) l.self
