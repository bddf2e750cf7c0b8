-- The tables of watches.
use Rattle.std.specs.Prelude.{ℕ, List, refl}
use Rattle.std.specs.Coded.{Coded, code_by, coded×}
use Rattle.std.specs.FinSet as set
use Rattle.watch_manager.specs.Pairs.{WatchPairs, without_connection}
use Rattle.watch_manager.specs.Lasting.{LastingWatches, no_lasting_watch, with_watch_in, watch_pairs_code, lasting_watches_code}
use Rattle.watch_manager.specs.declared.mode.WatchMode.{WatchMode}

-- The data watches, the child watches, and those that aren't used up.
pub record WatchTables : Type 0 where
  pub data_watches : WatchPairs
  pub child : WatchPairs
  pub lasting : LastingWatches

abbrev pub no_watch : WatchTables
no_watch = record { data_watches = set.empty; child = set.empty; lasting = no_lasting_watch }

-- The path keeps its watch of the other mode.
abbrev pub with_lasting_watch : ℕ → List ℕ → WatchMode → WatchTables → WatchTables
with_lasting_watch connection path mode w = record w { lasting = with_watch_in mode (path, connection) w.lasting }

abbrev pub without_lasting_of : ℕ → LastingWatches → LastingWatches
without_lasting_of connection lasting = record {
  persistent = without_connection connection lasting.persistent;
  recursive = without_connection connection lasting.recursive;
}

-- A connection that closes loses its watches.
abbrev pub without_watches_of : ℕ → WatchTables → WatchTables
without_watches_of connection w = record {
  data_watches = without_connection connection w.data_watches;
  child = without_connection connection w.child;
  lasting = without_lasting_of connection w.lasting;
}

abbrev pub watch_tables_code : Coded WatchTables
watch_tables_code =
    code_by (WatchPairs × (WatchPairs × LastingWatches))
    (coded× watch_pairs_code (coded× watch_pairs_code lasting_watches_code))
    (λ w. (w.data_watches, (w.child, w.lasting))) (λ p. record { data_watches = p.0; child = p.1.0; lasting = p.1.1 })
    (λ _. refl)
