-- The clients of an observer: the open connections, the session of each, and what they watch.
use Rattle.std.specs.Prelude.{ℕ, ◌==◌, negsuc, List, [], ◌∷◌, ◌++◌, map, length, Option, Some, None, is_some, Bool, true, false, ◌&&◌, if◌then◌else◌}
use Rattle.std.specs.FinMap as finmap
use Rattle.settings.specs.declared.dialect.Dialect.{Dialect}
use Rattle.settings.specs.Dialects.{reads_of}
use Rattle.sessions.specs.declared.passwords.Passwords.{Passwords}
use Rattle.sessions.specs.declared.passwords.Passwords.TheVariants.{Keyed, Java}
use Rattle.sessions.specs.Sessions.{close_connection, no_sessions, add_id, ip_id}
use Rattle.watch_manager.specs.declared.event.Event.{Event}
use Rattle.watch_manager.specs.Watching.{without_watches_of, no_watch}
use Rattle.forwarding.specs.Pending.{nothing_pending, drop_connection}
use Rattle.client_records.specs.declared.codes.TheConstants.{NOTIFICATION_XID}
use Rattle.read_processor.specs.Events.{look_of_event}
use Rattle.read_processor.specs.Reply.{reply_frame}
use Rattle.world.specs.declared.output.Output.{Output}
use Rattle.world.specs.declared.output.Output.TheVariants.{ToClient, CloseClient}
use Rattle.world.specs.World.{OpenConnection, OpenConnections, Clients}
use Rattle.world.specs.Steps.{StepResult}
use Rattle.sessions.specs.State.{SessionTable, session_settings_of}
use Rattle.world.specs.declared.world.Settings.{Settings}

-- A connection without waiting bytes, of a client with this address.
abbrev pub idle_connection : Option (List ℕ) → OpenConnection
idle_connection address = record { rest = []; is_leaving = false; address = address }

abbrev pub is_open : ℕ → Clients → Bool
is_open n c = finmap.contains_key c.connections n

abbrev pub heard_in : Option OpenConnection → Option OpenConnection
heard_in None = None
heard_in (Some connection) = if connection.is_leaving then None else Some connection

-- The connection, if it is open and hasn't asked for the end of its session: only then its bytes are taken.
abbrev pub heard_connection : ℕ → Clients → Option OpenConnection
heard_connection n c = heard_in (finmap.get c.connections n)

abbrev pub is_heard : ℕ → Clients → Bool
is_heard n c = is_some (heard_connection n c)

-- The clients with connection n open and in this state.
abbrev pub with_connection : ℕ → OpenConnection → Clients → Clients
with_connection n connection c = record c { connections = finmap.insert c.connections n connection }

-- A connection is removed, with its ids, its watches and its requests; its session stays.
abbrev pub without_client : ℕ → Clients → Clients
without_client n c =
    record {
      connections = finmap.remove c.connections n;
      sessions = close_connection c.sessions n;
      watches = without_watches_of n c.watches;
      pending = drop_connection c.pending n;
    }

abbrev pub without_clients : List ℕ → Clients → Clients
without_clients [] c = c
without_clients (n ∷ others) c = without_clients others (without_client n c)

-- Closes these connections, in this order.
abbrev pub close_clients : List ℕ → Clients → StepResult Clients
close_clients ns c = record { outputs = map (λ n. CloseClient n) ns; after = without_clients ns c }

-- Closes all open connections, in ascending order of their numbers.
abbrev pub close_all_clients : Clients → StepResult Clients
close_all_clients c = close_clients (finmap.keys c.connections) c

-- The rule of passwords. Where sessions move between servers, it is that of ZooKeeper's own, unless there is a secret:
-- then sessions move only among the servers that have it.
abbrev pub passwords_of : Dialect → List ℕ → Passwords
passwords_of dialect secret =
    if (reads_of dialect).moved_sessions && length secret == 0 then Java else Keyed secret

-- No connection, and no session yet.
abbrev pub no_clients : Settings → Clients
no_clients settings = record {
  connections = finmap.empty;
  sessions = no_sessions
      (session_settings_of settings.server_id settings.timeouts (passwords_of settings.dialect settings.secret)
      settings.first_counter settings.super_digest);
  watches = no_watch;
  pending = nothing_pending;
}

-- ---- the bytes of a connection

-- The waiting bytes of a connection that is heard.
abbrev pub rest_at : Option OpenConnection → Option (List ℕ)
rest_at None = None
rest_at (Some connection) = Some connection.rest

-- Replaces the waiting bytes of a connection, if it is heard; of no other a byte is kept.
abbrev pub with_rest : OpenConnections → ℕ → Option OpenConnection → List ℕ → OpenConnections
with_rest connections n None rest = connections
with_rest connections n (Some connection) rest = finmap.insert connections n (record connection { rest = rest })

-- An open connection is leaving from now on.
abbrev pub with_leaver : OpenConnections → ℕ → Option OpenConnection → OpenConnections
with_leaver connections n None = connections
with_leaver connections n (Some connection) = finmap.insert connections n (record connection { is_leaving = true })

-- ---- the address of a client

abbrev pub address_in : Option OpenConnection → Option (List ℕ)
address_in None = None
address_in (Some connection) = connection.address

abbrev pub with_address : SessionTable → ℕ → Option (List ℕ) → SessionTable
with_address s n None = s
with_address s n (Some address) = (add_id s n (ip_id address)).after

-- The address of an open connection's client, where it is known, is an id of the connection.
abbrev pub with_address_id : ℕ → Clients → Clients
with_address_id n c = record c { sessions = with_address c.sessions n (address_in (finmap.get c.connections n)) }

-- ---- what clients are told

-- A frame for a client, if there is one.
abbrev pub sent_to : ℕ → Option (List ℕ) → List Output
sent_to n None = []
sent_to n (Some frame) = ToClient n frame ∷ []

-- The event of a watched path, in a frame with the xid -1 and the zxid -1.
abbrev pub notice_to : ℕ → Event → List Output
notice_to n event = sent_to n (reply_frame NOTIFICATION_XID (negsuc 0) (look_of_event event))

-- Each event goes to its connection.
abbrev pub notices_of : List (ℕ × Event) → List Output
notices_of [] = []
notices_of (told ∷ others) = notice_to told.0 told.1 ++ notices_of others

-- All events go to one connection.
abbrev pub notices_to : ℕ → List Event → List Output
notices_to n [] = []
notices_to n (event ∷ others) = notice_to n event ++ notices_to n others
