use Rattle.std.proofs.Common.{rules, [], ap}
use Rattle.std.specs.FinMap as finmap
use Rattle.std.proofs.lemmas.Result.{err_from_is_err_and}
use Rattle.snapshot_codec.specs.Written.{lists_from}
use Rattle.snapshot_codec.specs.Writes.{shown_rows}
use Rattle.snapshot_codec.proofs.ImageBytes.{put_all, all_fit, lists_refused, nodes_refused}
use Rattle.snapshot_codec.proofs.writer.write_image_in.Goals as goal

pub returns-in_err-table-clause-refused : goal.returns-in_err-table-clause-refused
returns-in_err-table-clause-refused c =
    let p = err_from_is_err_and c.from_residual-in_err-table.result c.from_residual-in_err-table.ensures.1 in
    rw (p.1, p.2) (lists_refused c.args.tree.now (shown_rows c.in_ok-rows.rows.entries) c.in_ok-rows.ensures
    c.args.dialect c.in_err-table.field-0.0 c.in_err-table.ensures)

pub returns-in_err-put_nodes-clause-refused : goal.returns-in_err-put_nodes-clause-refused
returns-in_err-put_nodes-clause-refused c =
    let p = err_from_is_err_and c.from_residual-in_err-put_nodes.result c.from_residual-in_err-put_nodes.ensures.1 in
    rw (p.1, p.2) (nodes_refused c.args.tree.now (shown_rows c.in_ok-rows.rows.entries) c.in_ok-rows.ensures
    c.args.dialect c.in_err-put_nodes.field-0.0 _ _ _ c.in_err-put_nodes.ensures)

pub returns-clause-written : goal.returns-clause-written
returns-clause-written c =
    put_all c.args.tree.now (shown_rows c.in_ok-rows.rows.entries) c.in_ok-rows.ensures
    (finmap.entries c.sessions.result.now) c.new-out.result.items c.put_sessions.new.out.items c.put.new.out.items
    c.put_nodes.new.out.items c.put_string.new.out.items c.put_string-2.new.out.items
    (c.in_ok-is_whole.ensures.0 (search rules)) (ap (λ m. finmap.entries m) c.sessions.ensures) c.new-out.ensures.items
    c.in_ok-put_sessions.ensures.0
    (c.in_ok-put.ensures c.args.dialect (lists_from [] (shown_rows c.in_ok-rows.rows.entries)) c.in_ok-table.ensures)
    c.in_ok-put_nodes.ensures.0 c.in_ok-put_string.ensures c.in_ok-put_string-2.ensures

pub returns-clause-fits : goal.returns-clause-fits
returns-clause-fits c =
    all_fit c.args.tree.now (shown_rows c.in_ok-rows.rows.entries) c.in_ok-rows.ensures c.args.dialect
    (finmap.entries c.sessions.result.now) (c.in_ok-is_whole.ensures.0 (search rules))
    (ap (λ m. finmap.entries m) c.sessions.ensures) c.in_ok-put_sessions.ensures.1 c.in_ok-table.ensures.fit
    c.in_ok-put_nodes.ensures.1
