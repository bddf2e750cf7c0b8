use mir.Val.{SFits}
use Rattle.std.proofs.Common.{rules, length, ◌<◌, ◌++◌, ℤ, pos, take, get_or, sym, ap, ◌∙◌, w32, w64, append_assoc, arith}
use Rattle.std.proofs.lemmas.List.{take_more, take_all}
use Rattle.std.proofs.lemmas.Int.{to_z-of_z}
use Rattle.jute.specs.Format.{int, long}
use Rattle.learner_sync.specs.Answers.{session_rows}
use Rattle.learner_sync.proofs.Tables.{row_bytes, one_more, rows-length}
use Rattle.learner_sync.proofs.answers.session_table.Goals as goal

pub loop-row-preserved : goal.loop-row-preserved
loop-row-preserved c =
    let i = c.loop-row.row-index in
    let rows = c.args.rows.now in
    let row : ℤ × ℤ = get_or c.args.rows.now c.loop-row.row-index (pos 0, pos 0) in
    let so_far = c.loop-row.bytes.items in
    let within : c.loop-row.row-index < length c.args.rows.now = omega arith in
    let fits_session : SFits w64 (get_or c.args.rows.now c.loop-row.row-index (pos 0, pos 0)).0 = search rules in
    let fits_timeout : SFits w32 (get_or c.args.rows.now c.loop-row.row-index (pos 0, pos 0)).1 = search rules in
    c.in_ok-put_int.ensures
    ∙ (λ k. c.in_ok-put_long.ensures k ++ int.written (to_z-of_z w32 row.1 fits_timeout k))
    ∙ (λ k. (so_far ++ long.written (to_z-of_z w64 row.0 fits_session k)) ++ int.written row.1)
    ∙ append_assoc so_far (long.written row.0) (int.written row.1)
    ∙ ap (λ bytes. bytes ++ row_bytes row) c.loop-row.invariant
    ∙ sym (one_more (take i rows) row)
    ∙ ap session_rows (sym (take_more rows i (pos 0, pos 0) within))

pub returns-clause-table : goal.returns-clause-table
returns-clause-table c =
    c.from_vec.ensures ∙ c.loop-row.invariant
    ∙ ap session_rows (take_all c.loop-row.row-index c.args.rows.now c.loop-row-test.false)

pub returns-clause-length : goal.returns-clause-length
returns-clause-length c = ap length (returns-clause-table c) ∙ rows-length c.args.rows.now
