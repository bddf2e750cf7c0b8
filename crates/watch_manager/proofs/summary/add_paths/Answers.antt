use Rattle.std.proofs.Common.{ap, sym, ◌∙◌}
use Rattle.std.proofs.lemmas.List.{drop_all}
use Rattle.watch_manager.specs.Summary.{watched_cmp}
use Rattle.watch_manager.specs.Inner.Listing.{connection_rows}
use Rattle.watch_manager.specs.Ascending.{with_inserted_keys}
use Rattle.watch_manager.proofs.Listing.{adds_paths}
use Rattle.watch_manager.proofs.summary.add_paths.Goals as goal

pub returns : goal.returns
returns c =
    let all = c.as_slice-all.result.now in
    adds_paths c.args.table c.args.connection all c.args.paths.now c.args.rows.now.keys c.loop-path.rows.keys
    c.as_slice-all.ensures.texts
    (ap (λ ts. with_inserted_keys watched_cmp c.loop-path.rows.keys (connection_rows c.args.table c.args.connection ts))
    (sym (drop_all c.loop-path.path-index all c.loop-path-test.false))
    ∙ c.loop-path.invariant)
