-- Where the servers of a file are tried.
use Rattle.std.specs.Prelude.{ℕ, List, [], ◌++◌, Bool, Option, Some, None, map, filter, if◌then◌else◌, codes}
use Rattle.std.specs.List.{filter_map, flat_map, join_by}
use Rattle.zoo_config.specs.declared.form.Entry.{Entry}
use Rattle.zoo_config.specs.declared.server.Server.{Server}
use Rattle.zoo_config.specs.Addresses.{MeetingPlace, meeting_places}
use Rattle.zoo_config.specs.Keys.{master_port}
use Rattle.zoo_config.specs.Servers.{is_voter_beside}
use Rattle.serve_options.specs.Texts.{place_text}

-- The addresses of a server, of which none is wrong.
abbrev pub server_addresses : Server → List MeetingPlace
server_addresses server = filter_map (λ address. address) (meeting_places server.addresses.now)

-- The addresses of the other servers that may lead.
abbrev pub voter_addresses : ℕ → List Server → List MeetingPlace
voter_addresses id servers = flat_map server_addresses (filter (is_voter_beside id) servers)

-- While a server leads, it listens for learners at the quorum port of each address.
abbrev pub quorum_places : List MeetingPlace → List (List ℕ)
quorum_places addresses = map (λ address. place_text address.0 address.1) addresses

-- While it follows, it may serve observers at another port, which is the same for all.
abbrev pub master_places : Option (List ℕ) → List MeetingPlace → List (List ℕ)
master_places None addresses = []
master_places (Some port) addresses = map (λ address. place_text address.0 port) addresses

-- Followers go first, so that the leader is spared a stream.
abbrev pub tried_places : Option (List ℕ) → List MeetingPlace → List (List ℕ)
tried_places master addresses = master_places master addresses ++ quorum_places addresses

abbrev pub servers_text : Option (List ℕ) → List MeetingPlace → List ℕ
servers_text master addresses = join_by (λ place. place) (codes ",") (tried_places master addresses)

-- The port of followers, if a file has one, unless the leader alone is to be followed.
abbrev pub tried_master : Bool → List Entry → Option (List ℕ)
tried_master is_leader_only entries = if is_leader_only then None else master_port entries
