-- What connecting, adding an id, closing and ending do to the sessions of an observer's connections.
use Rattle.std.specs.Prelude.{ℕ, ◌+◌, ◌-◌, ◌^◌, ◌==◌, ◌&&◌, nat_le, ℤ, pos, int_lt, List, [], ◌∷◌, ◌++◌, length, replicate, codes, Option, None, Some, Bool, true, false, if◌then◌else◌}
use Rattle.std.specs.Ordering.{int_eq}
use Rattle.std.specs.List.{list_any, sum_by}
use Rattle.std.specs.Str.{bytes_eq, is_utf8}
use Rattle.std.specs.FinMap as finmap
use Rattle.settings.specs.Settings.{TimeoutPair}
use Rattle.jute.specs.declared.owned.Id.{Id}
use Rattle.sessions.specs.declared.request.SessionRequest.{SessionRequest}
use Rattle.sessions.specs.declared.request.SessionResponse.{SessionResponse}
use Rattle.sessions.specs.declared.request.Connected.{Connected}
use Rattle.sessions.specs.Credentials.{session_id_of, password_of, digest_id}
use Rattle.sessions.specs.State.{SessionSettings, ConnectedClient, SessionTable, session_table_of}

-- Before any connection. The first session id has the counter after the first counter.
abbrev pub no_sessions : SessionSettings → SessionTable
no_sessions terms = session_table_of terms terms.first_counter finmap.empty finmap.empty

-- ---- queries

abbrev pub session_in : Option ConnectedClient → Option ℤ
session_in None = None
session_in (Some c) = Some c.session

-- The session of the connection, if it has one.
abbrev pub session_of_connection : SessionTable → ℕ → Option ℤ
session_of_connection s n = session_in (finmap.get s.connections n)

abbrev pub ids_in : Option ConnectedClient → List Id
ids_in None = []
ids_in (Some c) = c.ids

-- The ids of the connection, in the order in which they were added.
abbrev pub ids_of : SessionTable → ℕ → List Id
ids_of s n = ids_in (finmap.get s.connections n)

-- The connection that has the session here, if there is one.
abbrev pub connection_of : SessionTable → ℤ → Option ℕ
connection_of s session = finmap.get s.owners session

abbrev pub time_out_in : Option ConnectedClient → Option ℤ
time_out_in None = None
time_out_in (Some c) = Some c.time_out

abbrev pub time_out_of : SessionTable → Option ℕ → Option ℤ
time_out_of s None = None
time_out_of s (Some n) = time_out_in (finmap.get s.connections n)

-- The timeout that the connection of the session was told, if a connection has it here.
abbrev pub told_timeout : SessionTable → ℤ → Option ℤ
told_timeout s session = time_out_of s (connection_of s session)

-- ---- close: the connection and its ids go, and it has no session any more; whether that lives on, the tree knows

abbrev pub close_as : SessionTable → ℕ → Option ConnectedClient → SessionTable
close_as s n None = s
close_as s n (Some c) =
    record s { owners = finmap.remove s.owners c.session; connections = finmap.remove s.connections n }

abbrev pub close_connection : SessionTable → ℕ → SessionTable
close_connection s n = close_as s n (finmap.get s.connections n)

abbrev pub close_if_some : SessionTable → Option ℕ → SessionTable
close_if_some s None = s
close_if_some s (Some n) = close_connection s n

-- ---- expire: a session ends, and its connection closes

pub record ExpireResult : Type 0 where
  -- The connection to close.
  pub closed : Option ℕ
  pub after : SessionTable

-- The connection of the session loses it.
abbrev pub expire_owner : SessionTable → ℤ → ExpireResult
expire_owner s session =
    record { closed = connection_of s session; after = close_if_some s (connection_of s session) }

-- ---- connect

pub record ConnectResult : Type 0 where
  pub connected : Connected
  pub after : SessionTable

abbrev pub clamped_timeout : TimeoutPair → ℤ → ℤ
clamped_timeout bounds time_out =
    if int_lt time_out bounds.least then bounds.least
    else if int_lt bounds.greatest time_out then bounds.greatest
    else time_out

abbrev pub session_response : SessionSettings → ℤ → ℤ → SessionResponse
session_response terms session time_out =
    record {
      time_out = clamped_timeout terms.timeouts time_out;
      session_id = session;
      password = password_of terms.passwords session;
    }

-- A refusal is all zeros, and the caller closes the connection.
abbrev pub refusal_response : SessionResponse
refusal_response = record { time_out = pos 0; session_id = pos 0; password = replicate 16 0 }

abbrev pub refused_connect : SessionTable → ConnectResult
refused_connect s = record { connected = record { response = refusal_response; older = None }; after = s }

-- A connection without ids.
abbrev pub new_connection : ℤ → ℤ → ConnectedClient
new_connection session time_out = record { session = session; time_out = time_out; ids = [] }

-- The connection has the session from now on, and was told this timeout.
abbrev pub with_session_connected : SessionTable → ℕ → ℤ → ℤ → SessionTable
with_session_connected s n session time_out = record s {
  owners = finmap.insert s.owners session n;
  connections = finmap.insert s.connections n (new_connection session time_out);
}

-- The connection gets the session. An older connection of it is closed first.
abbrev pub give_session : SessionTable → ℕ → ℤ → ℤ → ConnectResult
give_session s n session time_out =
    let older = connection_of s session in
    let response = session_response s.terms session time_out in
    record {
      connected = record { response = response; older = older };
      after = with_session_connected (close_if_some s older) n session response.time_out;
    }

abbrev pub greatest_counter : ℕ
greatest_counter = 2 ^ 56 - 1

-- The id of a new session has the next counter, unless the counters are used up. The connection has the session only
-- when the leader has created it.
abbrev pub name_session : SessionTable → ℤ → ConnectResult
name_session s time_out =
    if s.counter == greatest_counter then refused_connect s
    else
    let counter = s.counter + 1 in
    record {
      connected = record {
        response = session_response s.terms (session_id_of s.terms.server_id counter) time_out;
        older = None;
      };
      after = record s { counter = counter };
    }

abbrev pub is_password : List ℕ → Option (List ℕ) → Bool
is_password own None = false
is_password own (Some given) = bytes_eq given own

-- The request has the password of the session that it asks for.
abbrev pub has_password : SessionTable → SessionRequest → Bool
has_password s request = is_password (password_of s.terms.passwords request.session_id) request.password

-- A session that lives, with its own password.
abbrev pub is_valid : SessionTable → Bool → SessionRequest → Bool
is_valid s lives request = lives && has_password s request

-- `lives` says whether the tree has the session that is asked for.
abbrev pub connect_session : SessionTable → ℕ → Bool → SessionRequest → ConnectResult
connect_session s n lives request =
    if int_eq request.session_id (pos 0) then name_session s request.time_out
    else if is_valid s lives request then give_session s n request.session_id request.time_out
    else refused_connect s

-- The response to a client that claims a session, if it has the session's password; the leader says whether the session
-- lives.
abbrev pub claimed_session : SessionTable → SessionRequest → Option SessionResponse
claimed_session s request =
    if has_password s request then Some (session_response s.terms request.session_id request.time_out) else None

-- ---- auth

pub record AuthResult : Type 0 where
  -- False for a refusal; then the caller closes the connection.
  pub is_accepted : Bool
  pub after : SessionTable

abbrev pub is_same_id : Id → Id → Bool
is_same_id a b = bytes_eq a.scheme b.scheme && bytes_eq a.id b.id

-- The most ids that a connection may have.
abbrev pub ids_limit : ℕ
ids_limit = 1024

-- The most bytes that they may have all together, since each request to the leader carries them.
abbrev pub ids_bytes_limit : ℕ
ids_bytes_limit = 2 ^ 16

abbrev pub id_len : Id → ℕ
id_len id = length id.scheme + length id.id

abbrev pub bytes_of_ids : List Id → ℕ
bytes_of_ids ids = sum_by id_len ids

-- A connection may have these ids.
abbrev pub are_within_limits : List Id → Bool
are_within_limits ids = nat_le (length ids) ids_limit && nat_le (bytes_of_ids ids) ids_bytes_limit

abbrev pub with_id : ConnectedClient → Id → ConnectedClient
with_id c id = record c { ids = c.ids ++ id ∷ [] }

-- An id that the connection has already isn't added twice.
abbrev pub show_in : SessionTable → ℕ → Id → Option ConnectedClient → AuthResult
show_in s n id None = record { is_accepted = false; after = s }
show_in s n id (Some c) =
    if list_any (λ shown. is_same_id shown id) c.ids then record { is_accepted = true; after = s }
    else if are_within_limits (with_id c id).ids then record
    { is_accepted = true; after = record s { connections = finmap.insert s.connections n (with_id c id) } }
    else record { is_accepted = false; after = s }

abbrev pub add_id : SessionTable → ℕ → Id → AuthResult
add_id s n id = show_in s n id (finmap.get s.connections n)

-- The address of a client, as an id.
abbrev pub ip_id : List ℕ → Id
ip_id address = record { scheme = codes "ip"; id = address }

-- The most bytes of a text that an id is made of. A client's frame is shorter.
abbrev pub auth_limit : ℕ
auth_limit = 2 ^ 20

abbrev pub is_auth_text : List ℕ → Bool
is_auth_text bytes = nat_le (length bytes) auth_limit && is_utf8 bytes

-- The text of the scheme "digest"; none for any other scheme, for null, for bytes that aren't UTF-8, and for too many.
abbrev pub digest_text : Option (List ℕ) → Option (List ℕ) → Option (List ℕ)
digest_text None bytes = None
digest_text (Some scheme) None = None
digest_text (Some scheme) (Some bytes) =
    if bytes_eq scheme (codes "digest") && is_auth_text bytes then Some bytes else None

-- The id of the super user.
abbrev pub super_id : Id
super_id = record { scheme = codes "super"; id = [] }

-- The digest is that of the super user, if there is one.
abbrev pub is_super_digest : Option (List ℕ) → List ℕ → Bool
is_super_digest None digest = false
is_super_digest (Some super) digest = bytes_eq digest super

-- Adds the id, if what came before was accepted.
abbrev pub add_behind : AuthResult → ℕ → Id → AuthResult
add_behind before n id = if before.is_accepted then add_id before.after n id else before

-- A client that has the super user's digest is the super user first, and then the user of the digest.
abbrev pub add_digest : SessionTable → ℕ → Id → AuthResult
add_digest s n digest =
    if is_super_digest s.terms.super_digest digest.id then add_behind (add_id s n super_id) n digest
    else add_id s n digest

abbrev pub auth_by : SessionTable → ℕ → Option (List ℕ) → AuthResult
auth_by s n None = record { is_accepted = false; after = s }
auth_by s n (Some text) = add_digest s n (digest_id text)

abbrev pub add_auth : SessionTable → ℕ → Option (List ℕ) → Option (List ℕ) → AuthResult
add_auth s n scheme bytes = auth_by s n (digest_text scheme bytes)
