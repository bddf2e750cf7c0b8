-- The state of an observer without that of its leader's stream: its settings, the replica that follows its leader, and
-- its clients.
use Rattle.std.specs.Prelude.{ℕ, List, Option, Bool, refl}
use Rattle.std.specs.Ordering.{nat_cmp}
use Rattle.std.specs.Coded.{Coded, code_by, coded×, coded_ℕ, coded_bool, coded_list, coded_option}
use Rattle.std.specs.FinMap as finmap
use Rattle.replica.specs.Replica.{Replica}
use Rattle.sessions.specs.State.{SessionTable as Sessions, session_table_code as sessions_code}
use Rattle.watch_manager.specs.Watching.{WatchTables, watch_tables_code}
use Rattle.forwarding.specs.State.{PendingTable, pending_table_code}
use Rattle.world.specs.declared.world.Settings.{Settings}

-- An open connection.
pub record OpenConnection : Type 0 where
  -- The bytes of a frame that isn't complete yet.
  pub rest : List ℕ
  -- Its client has asked for the end of its session: what it sends from then on is dropped.
  pub is_leaving : Bool
  -- The address of its client, where that is known and counts.
  pub address : Option (List ℕ)

-- The open connections by number.
abbrev pub OpenConnections : Type 0
OpenConnections = finmap.FinMap nat_cmp OpenConnection

pub record Clients : Type 0 where
  pub connections : OpenConnections
  -- The sessions, and the session of each connection.
  pub sessions : Sessions
  -- The watches: connections and paths.
  pub watches : WatchTables
  -- The requests that aren't answered yet.
  pub pending : PendingTable

-- Everything but the state of the leader's stream.
pub record World : Type 0 where
  pub settings : Settings
  -- The tree that reads show, and how far the leader was followed.
  pub replica : Replica
  pub clients : Clients

-- ---- codes

abbrev pub open_connection_code : Coded OpenConnection
open_connection_code =
    code_by (List ℕ × (Bool × Option (List ℕ)))
    (coded× (coded_list coded_ℕ) (coded× coded_bool (coded_option (coded_list coded_ℕ))))
    (λ c. (c.rest, (c.is_leaving, c.address)))
    (λ p. record { rest = p.0; is_leaving = p.1.0; address = p.1.1 }) (λ _. refl)

abbrev pub open_connections_code : Coded OpenConnections
open_connections_code = finmap.code {R = nat_cmp} coded_ℕ open_connection_code

abbrev pub clients_code : Coded Clients
clients_code =
    code_by (OpenConnections × (Sessions × (WatchTables × PendingTable)))
    (coded× open_connections_code (coded× sessions_code (coded× watch_tables_code pending_table_code)))
    (λ c. (c.connections, (c.sessions, (c.watches, c.pending))))
    (λ p. record { connections = p.0; sessions = p.1.0; watches = p.1.1.0; pending = p.1.1.1 }) (λ _. refl)

abbrev pub world_code : Coded Settings → Coded Replica → Coded World
world_code settings replica =
    code_by (Settings × (Replica × Clients)) (coded× settings (coded× replica clients_code))
    (λ w. (w.settings, (w.replica, w.clients)))
    (λ p. record { settings = p.0; replica = p.1.0; clients = p.1.1 }) (λ _. refl)
