use Rattle.std.proofs.Common.{ap, subst, ◌∙◌}
use Rattle.std.specs.Cmp.{nat_cmp_total}
use Rattle.std.proofs.lemmas.Map.Lookups.{exact_unsigned}
use Rattle.std.specs.FinSet as set
use Rattle.pairs.proofs.Errors.{on_err}
use Rattle.pairs.proofs.Adding.{IsAdding, adding-first, adding-one, adding-last, adding-stopped}
use Rattle.pairs.proofs.Ascending.{listed-sorted}
use Rattle.pairs.proofs.number_set.NumberSet.add_all.Goals as goal

pub loop-number-init : goal.loop-number-init
loop-number-init c = (
  tt,
  tt,
  adding-first nat_cmp_total exact_unsigned c.args.self.now c.args.others.now c.into_iter-number-iterator.result
      (ap set.from_list (c.into_iter-number-iterator.ensures.into_iter_gives ∙ c.iter-number-items.ensures.numbers)
      ∙ listed-sorted c.args.others.now),
)

pub loop-number-preserved : goal.loop-number-preserved
loop-number-preserved c = (
  tt,
  tt,
  adding-one nat_cmp_total exact_unsigned c.args.self.now c.args.others.now c.loop-number.self c.insert.new.self
      c.in-Some.number.now c.next.new.self
      (subst (λ ns. IsAdding nat_cmp_total exact_unsigned c.args.self.now c.args.others.now ns c.loop-number.self)
      c.in-Some.ensures.steps c.loop-number.invariant.2)
      c.in_ok-insert.ensures.ok,
)

pub returns-in_err-insert-clause-err_adds : goal.returns-in_err-insert-clause-err_adds
returns-in_err-insert-clause-err_adds c =
    on_err c.from_residual.result
    (adding-stopped nat_cmp_total exact_unsigned c.args.self.now c.args.others.now c.loop-number.self c.insert.new.self
    c.loop-number.number-iterator c.loop-number.invariant.2 c.in_err-insert.ensures.err).1

pub returns-clause-ok : goal.returns-clause-ok
returns-clause-ok c =
    adding-last nat_cmp_total exact_unsigned c.args.self.now c.args.others.now c.loop-number.self
    (subst (λ ns. IsAdding nat_cmp_total exact_unsigned c.args.self.now c.args.others.now ns c.loop-number.self)
    c.in-None.ensures.steps.0 c.loop-number.invariant.2)
