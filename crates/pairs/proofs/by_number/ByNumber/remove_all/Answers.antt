use Rattle.std.proofs.Common.{refl, sym, ap, ◌∙◌}
use Rattle.pairs.proofs.Tables.{lost-no_number, lost-one_number}
use Rattle.pairs.specs.Inner.RowView.{row_numbers}
use Rattle.pairs.proofs.by_number.ByNumber.remove_all.Goals as goal

pub returns-in-Empty : goal.returns-in-Empty
returns-in-Empty c =
    lost-no_number c.args.text.now c.args.row.now c.args.self.now c.args.self.now
    (sym c.row.view_is ∙ ap row_numbers c.in-Empty.is) refl

pub returns-in-One : goal.returns-in-One
returns-in-One c =
    lost-one_number c.args.text.now c.in-One.number c.args.row.now c.args.self.now c.remove.new.self
    (sym c.row.view_is ∙ ap row_numbers c.in-One.is) c.remove.ensures
