use Rattle.std.proofs.Common.{sym, ap, subst, ◌∙◌}
use Rattle.std.specs.Cmp.{nat_cmp_total}
use Rattle.std.proofs.lemmas.Map.Lookups.{exact_unsigned}
use Rattle.std.specs.FinSet as set
use Rattle.pairs.specs.Inner.RowView.{row_numbers}
use Rattle.pairs.proofs.Errors.{on_err}
use Rattle.pairs.proofs.Adding.{adding-unchanged}
use Rattle.pairs.proofs.Rows.{union-none, union-only}
use Rattle.pairs.proofs.row.Row.add_to.Goals as goal

pub returns-in-Empty-clause-ok : goal.returns-in-Empty-clause-ok
returns-in-Empty-clause-ok c =
    union-none c.args.numbers.now ∙ ap (λ s. set.union c.args.numbers.now s) (sym (sym c.self.view_is ∙ ap row_numbers c.in-Empty.is))

pub returns-in_ok-insert-in-One-clause-ok : goal.returns-in_ok-insert-in-One-clause-ok
returns-in_ok-insert-in-One-clause-ok c =
    c.in_ok-insert-in-One.ensures.ok ∙ union-only c.args.numbers.now c.in-One.only
    ∙ ap (λ s. set.union c.args.numbers.now s) (sym (sym c.self.view_is ∙ ap row_numbers c.in-One.is))

pub returns-in_err-insert-in-One-clause-err_keeps : goal.returns-in_err-insert-in-One-clause-err_keeps
returns-in_err-insert-in-One-clause-err_keeps c =
    on_err c.from_residual.result
    (adding-unchanged nat_cmp_total exact_unsigned c.args.numbers.now set.empty c.insert.new.self
    c.in_err-insert-in-One.ensures.err).0

pub returns-in_err-insert-in-One-clause-err_adds : goal.returns-in_err-insert-in-One-clause-err_adds
returns-in_err-insert-in-One-clause-err_adds c =
    on_err c.from_residual.result
    (adding-unchanged nat_cmp_total exact_unsigned c.args.numbers.now c.args.self.now c.insert.new.self
    c.in_err-insert-in-One.ensures.err).1
