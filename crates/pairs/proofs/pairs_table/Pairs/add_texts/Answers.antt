use Rattle.std.proofs.Common.{◌+◌, drop, ap, subst, ◌∙◌}
use Rattle.std.proofs.lemmas.List.{drop_all}
use Rattle.std.specs.FinSet as set
use Rattle.pairs.specs.Inner.Stored.{pairs_with_number}
use Rattle.pairs.proofs.Errors.{on_err}
use Rattle.pairs.proofs.Totals.{pair_total, pair_exact}
use Rattle.pairs.proofs.Adding.{IsAdding, adding-first, adding-one, adding-last, adding-stopped, next_element}
use Rattle.pairs.proofs.ListedPairs.{with_number, listed-with_number}
use Rattle.pairs.proofs.pairs_table.Pairs.add_texts.Goals as goal

pub loop-text-init : goal.loop-text-init
loop-text-init c =
    adding-first pair_total pair_exact c.args.self.now (pairs_with_number c.args.number c.args.texts.now)
    (with_number c.args.number c.as_slice-all.result.now)
    (listed-with_number c.args.number c.as_slice-all.result.now c.args.texts.now c.as_slice-all.ensures.texts)

pub loop-text-preserved : goal.loop-text-preserved
loop-text-preserved c =
    let all = c.as_slice-all.result.now in
    let whole = pairs_with_number c.args.number c.args.texts.now in
    adding-one pair_total pair_exact c.args.self.now whole c.loop-text.self c.insert.new.self
    (c.text-item.result, c.args.number) (with_number c.args.number (drop (c.loop-text.text-index + 1) all))
    (subst (λ ts. IsAdding pair_total pair_exact c.args.self.now whole (with_number c.args.number ts) c.loop-text.self)
    (next_element all c.loop-text.text-index c.text-item.result c.loop-text-test.true c.text-item.is) c.loop-text.invariant)
    (c.in_ok-insert.ensures.ok ∙ ap (λ t. set.insert c.loop-text.self (t, c.args.number)) c.as_str.ensures)

pub returns-in_err-insert-clause-err_adds : goal.returns-in_err-insert-clause-err_adds
returns-in_err-insert-clause-err_adds c =
    on_err c.from_residual.result
    (adding-stopped pair_total pair_exact c.args.self.now (pairs_with_number c.args.number c.args.texts.now)
    c.loop-text.self c.insert.new.self (with_number c.args.number (drop c.loop-text.text-index c.as_slice-all.result.now))
    c.loop-text.invariant c.in_err-insert.ensures.err).1

pub returns-clause-ok : goal.returns-clause-ok
returns-clause-ok c =
    let all = c.as_slice-all.result.now in
    let whole = pairs_with_number c.args.number c.args.texts.now in
    adding-last pair_total pair_exact c.args.self.now whole c.loop-text.self
    (subst (λ ts. IsAdding pair_total pair_exact c.args.self.now whole (with_number c.args.number ts) c.loop-text.self)
    (drop_all c.loop-text.text-index all c.loop-text-test.false) c.loop-text.invariant)
