use Rattle.std.proofs.Common.{◌≡◌, ◌++◌, drop}
use Rattle.std.specs.List.{filter_map}
use Rattle.read_processor.specs.Renewal.{event_at, kept_watch_at}
use Rattle.read_processor.proofs.renewal.Found.add_all.Given as goal

abbrev pub invariant-loop-path : goal.invariant-loop-path
invariant-loop-path l =
    (l.self.events.items ++ filter_map (event_at l.tree l.since l.list) (drop l.path-index l.paths)
    ≡ l.fn.self.events.items ++ filter_map (event_at l.tree l.since l.list) l.paths)
    × (l.self.watches.items ++ filter_map (kept_watch_at l.tree l.since l.list) (drop l.path-index l.paths)
    ≡ l.fn.self.watches.items ++ filter_map (kept_watch_at l.tree l.since l.list) l.paths)
