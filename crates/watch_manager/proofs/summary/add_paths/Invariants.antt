use Rattle.std.proofs.Common.{◌≡◌, drop}
use Rattle.watch_manager.specs.Summary.{watched_cmp}
use Rattle.watch_manager.specs.Inner.Listing.{connection_rows}
use Rattle.watch_manager.specs.Ascending.{with_inserted_keys}
use Rattle.watch_manager.proofs.summary.add_paths.Given as goal

abbrev pub invariant-loop-path : goal.invariant-loop-path
invariant-loop-path l =
    with_inserted_keys watched_cmp l.rows.keys (connection_rows l.table l.connection (drop l.path-index l.all))
    ≡ with_inserted_keys watched_cmp l.fn.rows.keys (connection_rows l.table l.connection l.all)
