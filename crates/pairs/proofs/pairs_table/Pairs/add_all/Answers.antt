use Rattle.std.proofs.Common.{ap, subst, ◌∙◌}
use Rattle.std.specs.FinSet as set
use Rattle.pairs.specs.Pairs.{listed_pairs}
use Rattle.pairs.proofs.Errors.{on_err}
use Rattle.pairs.proofs.Totals.{pair_total, pair_exact}
use Rattle.pairs.proofs.Adding.{IsAdding, adding-first, adding-next, adding-last, adding-refused}
use Rattle.pairs.proofs.ListedPairs.{with_number}
use Rattle.pairs.proofs.pairs_table.Pairs.add_all.Goals as goal

pub loop-number-init : goal.loop-number-init
loop-number-init c = (
  tt,
  tt,
  adding-first pair_total pair_exact c.args.self.now c.args.others.now (listed_pairs c.into_iter-number-iterator.result)
      (ap (λ es. set.from_list (listed_pairs es)) c.into_iter-number-iterator.ensures.into_iter_gives
      ∙ c.iter-number-items.ensures.pairs),
)

pub loop-number-preserved : goal.loop-number-preserved
loop-number-preserved c = (
  tt,
  tt,
  adding-next pair_total pair_exact c.args.self.now c.args.others.now c.loop-number.self c.add_texts.new.self
      (with_number c.in-Some.number.now (set.items c.in-Some.texts.now)) (listed_pairs c.next.new.self)
      (subst (λ es. IsAdding pair_total pair_exact c.args.self.now c.args.others.now (listed_pairs es) c.loop-number.self)
      c.in-Some.ensures.steps c.loop-number.invariant.2)
      c.in_ok-add_texts.ensures.ok,
)

pub returns-in_err-add_texts-clause-err_keeps : goal.returns-in_err-add_texts-clause-err_keeps
returns-in_err-add_texts-clause-err_keeps c =
    on_err c.from_residual.result
    (adding-refused pair_total pair_exact c.args.self.now c.args.others.now c.loop-number.self c.add_texts.new.self
    (with_number c.in-Some.number.now (set.items c.in-Some.texts.now)) (listed_pairs c.next.new.self)
    (subst (λ es. IsAdding pair_total pair_exact c.args.self.now c.args.others.now (listed_pairs es) c.loop-number.self)
    c.in-Some.ensures.steps c.loop-number.invariant.2)
    c.in_err-add_texts.ensures.err_keeps c.in_err-add_texts.ensures.err_adds).0

pub returns-in_err-add_texts-clause-err_adds : goal.returns-in_err-add_texts-clause-err_adds
returns-in_err-add_texts-clause-err_adds c =
    on_err c.from_residual.result
    (adding-refused pair_total pair_exact c.args.self.now c.args.others.now c.loop-number.self c.add_texts.new.self
    (with_number c.in-Some.number.now (set.items c.in-Some.texts.now)) (listed_pairs c.next.new.self)
    (subst (λ es. IsAdding pair_total pair_exact c.args.self.now c.args.others.now (listed_pairs es) c.loop-number.self)
    c.in-Some.ensures.steps c.loop-number.invariant.2)
    c.in_err-add_texts.ensures.err_keeps c.in_err-add_texts.ensures.err_adds).1

pub returns-clause-ok : goal.returns-clause-ok
returns-clause-ok c =
    adding-last pair_total pair_exact c.args.self.now c.args.others.now c.loop-number.self
    (subst (λ es. IsAdding pair_total pair_exact c.args.self.now c.args.others.now (listed_pairs es) c.loop-number.self)
    c.in-None.ensures.steps.0 c.loop-number.invariant.2)
