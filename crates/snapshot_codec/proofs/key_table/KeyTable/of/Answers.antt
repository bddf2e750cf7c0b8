use Rattle.std.proofs.Common.{[], sym, ap, ◌∙◌}
use Rattle.std.proofs.lemmas.Result.{err_from_is_err_and}
use Rattle.snapshot_codec.specs.Written.{lists_from}
use Rattle.snapshot_codec.specs.Writes.{shown_rows}
use Rattle.snapshot_codec.proofs.Tables.{tables_err}
use Rattle.snapshot_codec.proofs.key_table.KeyTable.of.Goals as goal

pub returns-in_err-add : goal.returns-in_err-add
returns-in_err-add c =
    let inv = c.loop-node.invariant.2 in
    let p = err_from_is_err_and c.from_residual.result c.from_residual.ensures.1 in
    rw (p.1, p.2) (tables_err c.args.dialect c.in_err-add.field-0.0 inv.0
    (c.in-Some.field-0-0.now.text.now, c.in-Some.node.now.now) (shown_rows c.next.new.self)
    (lists_from [] (shown_rows c.args.rows.now.entries)) c.add.new.self
    (ap (λ r. lists_from inv.0 (shown_rows r)) (sym c.in-Some.ensures.steps) ∙ inv.2)
    (c.in_err-add.ensures inv.0 inv.1))
