-- A table while its triggers fire, before the first watch is removed.
use Rattle.std.specs.Prelude.{ℕ, List, not}
use Rattle.std.specs.FinSet as set
use Rattle.ephemerals.specs.Orders.{Bytes, Names}
use Rattle.watch_manager.specs.Pairs.{WatchPairs}
use Rattle.watch_manager.specs.Lasting.{LastingWatches}
use Rattle.watch_manager.specs.Watching.{WatchTables}
use Rattle.watch_manager.specs.Watches.{events_of_trigger}
use Rattle.data_tree.specs.declared.outcome.Trigger.TheVariants.{Deleted}
use Rattle.watch_manager.specs.declared.event.Event.{Event}

-- The watches on all other paths.
abbrev pub watches_elsewhere : Names → WatchPairs → WatchPairs
watches_elsewhere paths pairs = set.retain pairs (λ (p : Bytes × ℕ). not (set.contains paths p.0))

abbrev pub watch_tables : WatchPairs → WatchPairs → LastingWatches → WatchTables
watch_tables data_watches child lasting = record { data_watches = data_watches; child = child; lasting = lasting }

-- The events of a delete.
abbrev pub deleted_events : Bytes → WatchTables → List (ℕ × Event)
deleted_events path w = events_of_trigger w (Deleted path)
