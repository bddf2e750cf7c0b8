-- The servers of a configuration file.
use Rattle.std.specs.Prelude.{◌≡◌, ℕ, ◌==◌, List, [], ◌++◌, ◌⊎◌, ◌&&◌, ◌||◌, not, Bool, true, false, Option, Some, None, length, is_some, nat_eq, if◌then◌else◌, codes}
use Rattle.std.specs.Option.{option_map}
use Rattle.texts.specs.Number.{number_up_to}
use Rattle.zoo_config.specs.declared.form.Entry.{Entry}
use Rattle.zoo_config.specs.declared.server.ClientPlace.{ClientPlace}
use Rattle.zoo_config.specs.declared.server.Server.{Server}
use Rattle.zoo_config.specs.Addresses.{halves_at, without_plus, port_in, host_in, parts_or_whole, meeting_places, one_is, is_observer, are_wrong}

-- ---- the id: one from 1 to 255

abbrev pub unless_zero : Option ℕ → Option ℕ
unless_zero None = None
unless_zero (Some id) = if id == 0 then None else Some id

abbrev pub server_id_in : List ℕ → Option ℕ
server_id_in digits = unless_zero (number_up_to 255 (without_plus digits))

-- ---- where it serves clients: a port, or a host and a port

abbrev pub place_spelling : ClientPlace → Option (List ℕ) × List ℕ
place_spelling place = (option_map (λ host. host.now) place.host, place.port.now)

abbrev pub place_by : List ℕ → Option (List ℕ × List ℕ) → Option (Option (List ℕ) × List ℕ)
place_by text None = option_map (λ port. (None, port)) (port_in text)
place_by text (Some halves) =
    if length halves.0 == 0 then None else option_map (λ port. (Some halves.0, port)) (port_in halves.1)

abbrev pub client_place_in : List ℕ → Option (Option (List ℕ) × List ℕ)
client_place_in text = place_by text (host_in text)

-- ---- the value of server.N is ADDRESSES[;CLIENT]

abbrev pub value_parts : List ℕ → List ℕ × List ℕ
value_parts value = parts_or_whole value (halves_at 59 value)

abbrev pub addresses_of : List ℕ → List ℕ
addresses_of value = (value_parts value).0

abbrev pub served_at : List ℕ → Option (Option (List ℕ) × List ℕ)
served_at value = client_place_in (value_parts value).1

abbrev pub is_wrong_value : List ℕ → Bool
is_wrong_value value =
    are_wrong (meeting_places (addresses_of value))
    || (not (is_some (served_at value)) && not (length (value_parts value).1 == 0))

pub record IsServerOf (digits : List ℕ) (entry : Entry) (server : Server) : Type 0 where
  pub id : server_id_in digits ≡ Some server.id
  pub line : server.line ≡ entry.line
  pub right : is_wrong_value entry.value ≡ false
  pub addresses : server.addresses.now ≡ addresses_of entry.value
  pub role : server.is_observer ≡ one_is is_observer (meeting_places (addresses_of entry.value))
  pub client : option_map place_spelling server.client ≡ served_at entry.value

abbrev pub IsWrongServer : List ℕ → Entry → Type 0
IsWrongServer digits entry = (server_id_in digits ≡ None) ⊎ (is_wrong_value entry.value ≡ true)

-- The digits of a key that begins with "server.".
abbrev pub IsServerKey : List ℕ → List ℕ → Type 0
IsServerKey key digits = key ≡ codes "server." ++ digits

abbrev pub SpellsServer : Entry → Server → Type 0
SpellsServer entry server =
    (digits : List ℕ) × IsServerKey entry.key digits × IsServerOf digits entry server

-- The key begins so, and its number isn't one from 1 to 255, or the value isn't that of a server.
pub record IsNoServer (entry : Entry) : Type 0 where
  pub digits : List ℕ
  pub key : IsServerKey entry.key digits
  pub wrong : IsWrongServer digits entry

-- Another server that may lead.
abbrev pub is_voter_beside : ℕ → Server → Bool
is_voter_beside id server = not server.is_observer && not (nat_eq server.id id)
