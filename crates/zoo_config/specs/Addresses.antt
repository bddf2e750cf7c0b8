-- How a server is met: HOST:PORT:PORT[:ROLE], where a host that has colons is in brackets.
use Rattle.std.specs.Prelude.{ℕ, ◌==◌, ◌&&◌, ◌||◌, List, [], ◌∷◌, Bool, true, false, Option, Some, None, length, is_some, map, nat_lt, if◌then◌else◌, codes}
use Rattle.std.specs.Char.{to_ascii_lowercase}
use Rattle.std.specs.List.{before_first, after_first, position_or_len, slice_split}
use Rattle.std.specs.Option.{option_map}
use Rattle.std.specs.Str.{bytes_eq, trim}
use Rattle.texts.specs.Number.{number_up_to}
use Rattle.zoo_config.specs.declared.address.ServerRole.{ServerRole}
use Rattle.zoo_config.specs.declared.address.ServerRole.TheVariants.{Unsaid, Participant, Observer}
use Rattle.zoo_config.specs.declared.address.ServerAddress.{ServerAddress}

-- ---- parts of a text

-- What stands before the first of a mark and after it, if a text has the mark.
abbrev pub halves_at : ℕ → List ℕ → Option (List ℕ × List ℕ)
halves_at mark text =
    if nat_lt (position_or_len (λ letter. letter == mark) text) (length text)
    then Some (before_first (λ letter. letter == mark) text, after_first (λ letter. letter == mark) text) else None

-- What stands after a mark, if a text begins with it.
abbrev pub after_mark : ℕ → List ℕ → Option (List ℕ)
after_mark mark [] = None
after_mark mark (letter ∷ text) = if letter == mark then Some text else None

abbrev pub or_whole : List ℕ → Option (List ℕ) → List ℕ
or_whole text None = text
or_whole text (Some part) = part

-- A number may have a plus in front.
abbrev pub without_plus : List ℕ → List ℕ
without_plus text = or_whole text (after_mark 43 text)

abbrev pub negative_by : ℕ → List ℕ → Option (List ℕ) → Bool
negative_by most text None = is_some (number_up_to 0 text)
negative_by most text (Some digits) = is_some (number_up_to most digits)

-- Zero, or a number of so much or less below it.
abbrev pub is_negative_up_to : ℕ → List ℕ → Bool
is_negative_up_to most text = negative_by most text (after_mark 45 text)

abbrev pub bare_with : List ℕ → Option (List ℕ × List ℕ) → List ℕ
bare_with host None = host
bare_with host (Some halves) = if length halves.1 == 0 then halves.0 else host

abbrev pub bare_by : List ℕ → Option (List ℕ) → List ℕ
bare_by host None = host
bare_by host (Some inner) = bare_with host (halves_at 93 inner)

-- A host without the brackets that may be around it.
abbrev pub bare_host : List ℕ → List ℕ
bare_host host = bare_by host (after_mark 91 host)

-- A port without a plus, if the text is a port.
abbrev pub port_in : List ℕ → Option (List ℕ)
port_in text = if is_some (number_up_to 65535 (without_plus text)) then Some (without_plus text) else None

-- ---- a host, and what follows the colon after it

abbrev pub after_bracket : Option (List ℕ × List ℕ) → Option (List ℕ × List ℕ)
after_bracket None = None
after_bracket (Some halves) = option_map (λ rest. (halves.0, rest)) (after_mark 58 halves.1)

abbrev pub host_by : List ℕ → Option (List ℕ) → Option (List ℕ × List ℕ)
host_by text None = halves_at 58 text
host_by text (Some inner) = after_bracket (halves_at 93 inner)

abbrev pub host_in : List ℕ → Option (List ℕ × List ℕ)
host_in text = host_by text (after_mark 91 text)

-- ---- an address of a server

abbrev pub says_word : List ℕ → List ℕ → Bool
says_word word text = bytes_eq (map to_ascii_lowercase (trim text)) (map to_ascii_lowercase word)

abbrev pub role_in : List ℕ → Option ServerRole
role_in text =
    if length text == 0 then Some Unsaid
    else (if says_word (codes "observer") text then Some Observer
    else (if says_word (codes "participant") text then Some Participant
    else None))

-- The two parts, of which the second is empty without the mark.
abbrev pub parts_or_whole : List ℕ → Option (List ℕ × List ℕ) → List ℕ × List ℕ
parts_or_whole text None = (text, [])
parts_or_whole text (Some halves) = halves

-- Host, quorum port and role.
abbrev pub MeetingPlace : Type 0
MeetingPlace = List ℕ × List ℕ × ServerRole

abbrev pub place_with_role : List ℕ → List ℕ → Option ServerRole → Option MeetingPlace
place_with_role host port None = None
place_with_role host port (Some role) = Some (host, port, role)

-- The port of elections has to be one.
abbrev pub place_with_election : List ℕ → List ℕ × List ℕ → Option (List ℕ) → Option MeetingPlace
place_with_election host election None = None
place_with_election host election (Some port) =
    if is_some (port_in election.0) then place_with_role host port (role_in election.1) else None

abbrev pub place_with_ports : List ℕ → Option (List ℕ × List ℕ) → Option MeetingPlace
place_with_ports host None = None
place_with_ports host (Some ports) =
    place_with_election host (parts_or_whole ports.1 (halves_at 58 ports.1)) (port_in ports.0)

abbrev pub place_with_host : Option (List ℕ × List ℕ) → Option MeetingPlace
place_with_host None = None
place_with_host (Some halves) =
    if length halves.0 == 0 then None else place_with_ports halves.0 (halves_at 58 halves.1)

-- None if the text is no address of a server.
abbrev pub meeting_place : List ℕ → Option MeetingPlace
meeting_place text = place_with_host (host_in text)

abbrev pub address_spelling : ServerAddress → MeetingPlace
address_spelling address = (address.host.now, address.port.now, address.role)

-- ---- all addresses of a server, with bars between

abbrev pub meeting_places : List ℕ → List (Option MeetingPlace)
meeting_places text = map meeting_place (slice_split (λ letter. letter == 124) text)

abbrev pub one_is_wrong : List (Option MeetingPlace) → Bool
one_is_wrong [] = false
one_is_wrong (None ∷ places) = true
one_is_wrong (Some place ∷ places) = one_is_wrong places

abbrev pub is_observer : ServerRole → Bool
is_observer Observer = true
is_observer Participant = false
is_observer Unsaid = false

abbrev pub is_participant : ServerRole → Bool
is_participant Observer = false
is_participant Participant = true
is_participant Unsaid = false

abbrev pub one_is : (ServerRole → Bool) → List (Option MeetingPlace) → Bool
one_is test [] = false
one_is test (None ∷ places) = one_is test places
one_is test (Some place ∷ places) = test place.2 || one_is test places

-- An address is wrong, or one says that the server is an observer, and another that it votes.
abbrev pub are_wrong : List (Option MeetingPlace) → Bool
are_wrong places = one_is_wrong places || (one_is is_observer places && one_is is_participant places)
