-- How sessions and connections refer to each other.
use Rattle.std.specs.Prelude.{◌≡◌, ◌≢◌, ℕ, ◌+◌, ◌<◌, ◌≤◌, ◌^◌, ℤ, pos, List, length, Option, None, Some, Bool, IsTrue, true, false, if◌then◌else◌}
use Rattle.std.specs.List.{All}
use Rattle.std.specs.Ordering.{int_eq}
use Rattle.std.specs.FinMap as finmap
use Rattle.settings.specs.Settings.{is_server_id, is_first_counter}
use Rattle.jute.specs.Owned.{id_format}
use Rattle.jute.specs.declared.owned.Id.{Id}
use Rattle.sessions.specs.Credentials.{session_id_of}
use Rattle.sessions.specs.declared.request.SessionRequest.{SessionRequest}
use Rattle.sessions.specs.State.{SessionSettings, ConnectedClient, SessionTable}
use Rattle.sessions.specs.Sessions.{ids_limit, ids_bytes_limit, bytes_of_ids, no_sessions, session_of_connection, told_timeout, is_valid, give_session, name_session, connect_session, add_id, add_auth, close_connection, expire_owner}

-- The server has given the id out with one of its counters so far. Those up to its first counter count as given.
pub record IsGivenOut (server_id : ℤ) (counter : ℕ) (session : ℤ) : Type 0 where
  pub own : ℕ
  pub first : 0 < own
  pub last : own ≤ counter
  pub is : session ≡ session_id_of server_id own

-- Connections and sessions name each other.
pub record SessionsAgree (s : SessionTable) : Type 0 where
  pub server_id : IsTrue (is_server_id s.terms.server_id)
  pub counter : s.counter < 2 ^ 56
  -- The session of a connection has that connection.
  pub owners : (n : ℕ) (c : ConnectedClient) → finmap.get s.connections n ≡ Some c
      → finmap.get s.owners c.session ≡ Some n
  -- The connection of a session has that session.
  pub connections : (session : ℤ) (n : ℕ) → finmap.get s.owners session ≡ Some n
      → (c : ConnectedClient) × ((finmap.get s.connections n ≡ Some c) × (c.session ≡ session))
  -- No connection has more ids than the limit, or more bytes of them.
  pub ids : (n : ℕ) (c : ConnectedClient) → finmap.get s.connections n ≡ Some c → length c.ids ≤ ids_limit
  pub bytes : (n : ℕ) (c : ConnectedClient) → finmap.get s.connections n ≡ Some c
      → bytes_of_ids c.ids ≤ ids_bytes_limit
  -- Each id can be written in a packet to the leader.
  pub writable : (n : ℕ) (c : ConnectedClient) → finmap.get s.connections n ≡ Some c → All id_format.Writable c.ids

-- No two connections have one session.
abbrev pub SessionsAreApart : Type 0
SessionsAreApart = (s : SessionTable) → SessionsAgree s → (m n : ℕ) (c d : ConnectedClient)
    → finmap.get s.connections m ≡ Some c → finmap.get s.connections n ≡ Some d → c.session ≡ d.session → m ≡ n

-- ---- laws

-- Sessions and connections agree at the start, and after each step.
pub record AgreementIsKept : Type 0 where
  pub starts : (terms : SessionSettings) → IsTrue (is_server_id terms.server_id)
      → IsTrue (is_first_counter terms.first_counter) → SessionsAgree (no_sessions terms)
  pub connects : (s : SessionTable) (n : ℕ) (lives : Bool) (request : SessionRequest) → SessionsAgree s
      → finmap.get s.connections n ≡ None
      → SessionsAgree (connect_session s n lives request).after
  pub admits : (s : SessionTable) (n : ℕ) (session time_out : ℤ) → SessionsAgree s
      → finmap.get s.connections n ≡ None
      → SessionsAgree (give_session s n session time_out).after
  pub shows : (s : SessionTable) (n : ℕ) (id : Id) → SessionsAgree s → SessionsAgree (add_id s n id).after
  pub auths : (s : SessionTable) (n : ℕ) (scheme bytes : Option (List ℕ)) → SessionsAgree s
      → SessionsAgree (add_auth s n scheme bytes).after
  pub closes : (s : SessionTable) (n : ℕ) → SessionsAgree s → SessionsAgree (close_connection s n)
  pub expires : (s : SessionTable) (session : ℤ) → SessionsAgree s → SessionsAgree (expire_owner s session).after

-- A step of one connection leaves the session and the ids of every other, except of the one that it returns to be
-- closed.
pub record OtherConnectionsStay : Type 0 where
  pub connects : (s : SessionTable) (n : ℕ) (lives : Bool) (request : SessionRequest) (m : ℕ) → m ≢ n
      → (connect_session s n lives request).connected.older ≢ Some m
      → finmap.get (connect_session s n lives request).after.connections m ≡ finmap.get s.connections m
  pub admits : (s : SessionTable) (n : ℕ) (session time_out : ℤ) (m : ℕ) → m ≢ n
      → (give_session s n session time_out).connected.older ≢ Some m
      → finmap.get (give_session s n session time_out).after.connections m ≡ finmap.get s.connections m
  pub shows : (s : SessionTable) (n : ℕ) (id : Id) (m : ℕ) → m ≢ n
      → finmap.get (add_id s n id).after.connections m ≡ finmap.get s.connections m
  pub auths : (s : SessionTable) (n : ℕ) (scheme bytes : Option (List ℕ)) (m : ℕ) → m ≢ n
      → finmap.get (add_auth s n scheme bytes).after.connections m ≡ finmap.get s.connections m
  pub closes : (s : SessionTable) (n m : ℕ) → m ≢ n
      → finmap.get (close_connection s n).connections m ≡ finmap.get s.connections m
  pub expires : (s : SessionTable) (session : ℤ) (m : ℕ) → (expire_owner s session).closed ≢ Some m
      → finmap.get (expire_owner s session).after.connections m ≡ finmap.get s.connections m

-- The session of this id; the id 0 is no session's.
abbrev pub nonzero_session : ℤ → Option ℤ
nonzero_session session = if int_eq session (pos 0) then None else Some session

-- What the response to a connection without a session tells of the session that it has then.
pub record ResponsesNameSessions : Type 0 where
  -- A request for a new session gives it none yet.
  pub asks : (s : SessionTable) (n : ℕ) (lives : Bool) (request : SessionRequest)
      → finmap.get s.connections n ≡ None → int_eq request.session_id (pos 0) ≡ true
      → session_of_connection (connect_session s n lives request).after n ≡ None
  -- A request for a session that the client had gives it the session of the response's id.
  pub reconnects : (s : SessionTable) (n : ℕ) (lives : Bool) (request : SessionRequest)
      → finmap.get s.connections n ≡ None → int_eq request.session_id (pos 0) ≡ false
      → session_of_connection (connect_session s n lives request).after n
      ≡ nonzero_session (connect_session s n lives request).connected.response.session_id
  -- A session that is given to a connection is its session.
  pub admits : (s : SessionTable) (n : ℕ) (session time_out : ℤ)
      → session_of_connection (give_session s n session time_out).after n ≡ Some session
  -- It was told the timeout of the response.
  pub times_out : (s : SessionTable) (n : ℕ) (session time_out : ℤ)
      → told_timeout (give_session s n session time_out).after session
      ≡ Some (give_session s n session time_out).connected.response.time_out

-- ---- ids of new sessions, and sessions that have ended

-- The id of a new session isn't 0, and was never given out before.
pub record IsNewId (s : SessionTable) (session : ℤ) : Type 0 where
  pub nonzero : session ≢ pos 0
  pub unused : (earlier : ℤ) → IsGivenOut s.terms.server_id s.counter earlier → session ≢ earlier

-- Where the counters aren't used up, a request for a new session gets a new id, which is given out from then on.
pub record NewIdsAreNew : Type 0 where
  pub new : (s : SessionTable) (time_out : ℤ) → SessionsAgree s → s.counter + 1 < 2 ^ 56
      → IsNewId s (name_session s time_out).connected.response.session_id
  pub given : (s : SessionTable) (time_out : ℤ) → s.counter + 1 < 2 ^ 56
      → IsGivenOut s.terms.server_id (name_session s time_out).after.counter
      (name_session s time_out).connected.response.session_id
  pub stay : (s : SessionTable) (time_out earlier : ℤ) → IsGivenOut s.terms.server_id s.counter earlier
      → IsGivenOut s.terms.server_id (name_session s time_out).after.counter earlier

-- A session that the tree doesn't have is valid for nobody.
abbrev pub EndedSessionsAreRefused : Type 0
EndedSessionsAreRefused = (s : SessionTable) (request : SessionRequest) → is_valid s false request ≡ false
