-- What a configuration file sets, beside the options that are given.
use Rattle.std.specs.Prelude.{ℕ, List, [], ◌∷◌, Bool, ◌&&◌, not, Option, Some, None, is_some, nat_eq, if◌then◌else◌, string_bytes, codes}
use Rattle.std.specs.Option.{option_map}
use Rattle.std.specs.Str.{bytes_eq}
use Rattle.serve_options.specs.declared.row.Name.{Name}
use Rattle.serve_options.specs.declared.row.Name.TheVariants as names
use Rattle.serve_options.specs.declared.filed.Filed.{Filed}
use Rattle.serve_options.specs.declared.given.Given.{Given}
use Rattle.zoo_config.specs.declared.form.Entry.{Entry}
use Rattle.zoo_config.specs.declared.server.Server.{Server}
use Rattle.texts.specs.Number.{number_up_to}
use Rattle.zoo_config.specs.Addresses.{without_plus, bare_host}
use Rattle.zoo_config.specs.Servers.{place_spelling}
use Rattle.zoo_config.specs.Keys.{value_in, setting_in, serves_metrics}
use Rattle.serve_options.specs.Places.{name_place}
use Rattle.serve_options.specs.Texts.{place_text}

abbrev pub first_word : List (List ℕ) → Option (List ℕ)
first_word [] = None
first_word (word ∷ words) = Some word

-- The word after the first that is the option's.
abbrev pub word_after : List ℕ → List (List ℕ) → Option (List ℕ)
word_after option [] = None
word_after option (word ∷ words) = if bytes_eq word option then first_word words else word_after option words

-- The name of an option, and its value as it is spelled.
abbrev pub given_spelling : Given → Name × Option (List ℕ)
given_spelling option = (option.name, option_map (λ text. text.now) option.value)

abbrev pub filed_spelling : Filed → Name × Option (List ℕ)
filed_spelling option = (option.name, Some (string_bytes option.value))

-- Beside a leader that is given, the servers of a file don't count.
abbrev pub counts_beside : Bool → Filed → Bool
counts_beside has_leader option = not (has_leader && nat_eq (name_place option.name) (name_place names.Servers))

-- ---- the values that a file sets

-- An address and a port: all addresses where none is named.
abbrev pub filed_address : Option (List ℕ) → List ℕ → List ℕ
filed_address None port = place_text (codes "0.0.0.0") (without_plus port)
filed_address (Some address) port = place_text (bare_host address) (without_plus port)

-- Where this server serves clients by its own line: at a port, or at a host and a port.
abbrev pub own_client : Option Server → Option (Option (List ℕ) × List ℕ)
own_client None = None
own_client (Some server) = option_map place_spelling server.client

-- A port of 0 is as without the key.
abbrev pub unless_none : Option (List ℕ) → Option (List ℕ)
unless_none None = None
unless_none (Some port) = if is_some (number_up_to 0 (without_plus port)) then None else Some port

abbrev pub client_port : List Entry → Option (List ℕ)
client_port entries = unless_none (value_in (codes "clientPort") entries)

-- The keys for it go before its own line.
abbrev pub client_by : List Entry → Option (List ℕ) → Option (Option (List ℕ) × List ℕ) → Option (List ℕ)
client_by entries None own = option_map (λ place. filed_address place.0 place.1) own
client_by entries (Some port) own = Some (filed_address (value_in (codes "clientPortAddress") entries) port)

abbrev pub client_place : List Entry → Option (Option (List ℕ) × List ℕ) → Option (List ℕ)
client_place entries own = client_by entries (client_port entries) own

-- Where metrics are served, if the file asks for it.
abbrev pub metrics_place : List Entry → Option (List ℕ)
metrics_place entries =
    if serves_metrics entries
    then option_map
    (filed_address (setting_in (codes "metricsProvider.httpHost") entries))
    (setting_in (codes "metricsProvider.httpPort") entries)
    else None
