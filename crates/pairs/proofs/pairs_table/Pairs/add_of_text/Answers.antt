use Rattle.std.proofs.Common.{◌≡◌, ap, subst, ◌∙◌}
use Rattle.std.specs.FinSet as set
use Rattle.pairs.specs.Pairs.{sorted_numbers, numbers_at, pairs_of_text}
use Rattle.pairs.proofs.Errors.{on_err}
use Rattle.pairs.proofs.Totals.{pair_total, pair_exact}
use Rattle.pairs.proofs.Adding.{IsAdding, adding-first, adding-one, adding-last, adding-stopped, adding-untouched}
use Rattle.pairs.proofs.ListedPairs.{with_text, listed-of_text}
use Rattle.pairs.proofs.pairs_table.Pairs.add_of_text.Goals as goal

pub returns-in_err-numbers-clause-err_keeps : goal.returns-in_err-numbers-clause-err_keeps
returns-in_err-numbers-clause-err_keeps c =
    on_err c.from_residual.result (adding-untouched pair_total pair_exact c.args.self.now set.empty).0

pub returns-in_err-numbers-clause-err_adds : goal.returns-in_err-numbers-clause-err_adds
returns-in_err-numbers-clause-err_adds c =
    on_err c.from_residual.result
    (adding-untouched pair_total pair_exact c.args.self.now (pairs_of_text c.args.text.now c.args.others.now)).1

pub loop-number-init : goal.loop-number-init
loop-number-init c =
    let numbers : c.into_iter-number-iterator.result ≡ sorted_numbers (numbers_at c.args.text.now c.args.others.now) =
    c.into_iter-number-iterator.ensures.into_iter_gives
    ∙ c.iter-number-items.ensures.numbers
    ∙ ap sorted_numbers c.in_ok-numbers.ensures in (
      tt,
      tt,
      adding-first pair_total pair_exact c.args.self.now (pairs_of_text c.args.text.now c.args.others.now)
          (with_text c.args.text.now c.into_iter-number-iterator.result)
          (ap (λ ns. set.from_list (with_text c.args.text.now ns)) numbers
          ∙ listed-of_text c.args.text.now c.args.others.now),
    )

pub loop-number-preserved : goal.loop-number-preserved
loop-number-preserved c =
    let whole = pairs_of_text c.args.text.now c.args.others.now in (
      tt,
      tt,
      adding-one pair_total pair_exact c.args.self.now whole c.loop-number.self c.insert.new.self
          (c.args.text.now, c.in-Some.number.now)
          (with_text c.args.text.now c.next.new.self)
          (subst (λ ns. IsAdding pair_total pair_exact c.args.self.now whole (with_text c.args.text.now ns) c.loop-number.self)
          c.in-Some.ensures.steps c.loop-number.invariant.2)
          c.in_ok-insert.ensures.ok,
    )

pub returns-in_err-insert-clause-err_adds : goal.returns-in_err-insert-clause-err_adds
returns-in_err-insert-clause-err_adds c =
    on_err c.from_residual-in_err-insert.result
    (adding-stopped pair_total pair_exact c.args.self.now (pairs_of_text c.args.text.now c.args.others.now)
    c.loop-number.self c.insert.new.self (with_text c.args.text.now c.loop-number.number-iterator)
    c.loop-number.invariant.2 c.in_err-insert.ensures.err).1

pub returns-clause-ok : goal.returns-clause-ok
returns-clause-ok c =
    let whole = pairs_of_text c.args.text.now c.args.others.now in
    adding-last pair_total pair_exact c.args.self.now whole c.loop-number.self
    (subst (λ ns. IsAdding pair_total pair_exact c.args.self.now whole (with_text c.args.text.now ns) c.loop-number.self)
    c.in-None.ensures.steps.0 c.loop-number.invariant.2)
