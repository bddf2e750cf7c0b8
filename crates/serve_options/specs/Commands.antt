-- What a command line asks for.
use Rattle.std.specs.Prelude.{◌≡◌, ◌↔◌, ◌≤◌, ℕ, ◌*◌, ℤ, pos, List, Option, Some, None, IfSome, IsTrue, vec_len, ◌++◌, if◌then◌else◌}
use Rattle.std.specs.Option.{unwrap_or, option_map}
use Rattle.settings.specs.declared.dialect.Dialect.{Dialect}
use Rattle.settings.specs.Settings.{TimeoutPair, timeouts_of}
use Rattle.values.specs.Maybe.{◌>>=◌}
use Rattle.log.specs.declared.level.LevelFilter.{LevelFilter}
use Rattle.log.specs.declared.level.LevelFilter.TheVariants.{Info}
use Rattle.serve_options.specs.declared.row.Name.{Name}
use Rattle.serve_options.specs.declared.row.Name.TheVariants as names
use Rattle.serve_options.specs.declared.given.Given.{Given}
use Rattle.serve_options.specs.declared.command.Options.{Options}
use Rattle.serve_options.specs.declared.command.Others.{Others}
use Rattle.serve_options.specs.declared.command.ConfigFile.{ConfigFile}
use Rattle.serve_options.specs.declared.command.Servers.{Servers}
use Rattle.serve_options.specs.declared.command.Servers.TheVariants as followed
use Rattle.serve_options.specs.declared.value.Address.{Address}
use Rattle.serve_options.specs.declared.value.LogFormat.{LogFormat}
use Rattle.serve_options.specs.declared.value.LogFormat.TheVariants.{Text}
use Rattle.serve_options.specs.declared.words.Words.{Words}
use Rattle.serve_options.specs.declared.command.Command.{Command}
use Rattle.serve_options.specs.declared.command.Command.TheVariants as commands
use Rattle.serve_options.specs.Given.{given_of, value_of, number_given, IsGivenBy}
use Rattle.serve_options.specs.Rows.{option_bounds, option_word, IsWithin}
use Rattle.serve_options.specs.Values.{number_within, SpellsAddress, ArePlaces, level_of, format_of, dialect_of}
use Rattle.serve_options.specs.Words.{is_among, named_words, parts_of}

-- Each number is within the bounds of its option. Those of the server's id, of the limits and of timeouts are kept by
-- their types.
pub record IsWithinBounds (options : Options) : Type 0 where
  pub counter : IfSome options.first_counter (IsWithin (option_bounds names.Counter))
  pub clients : IfSome options.max_clients (IsWithin (option_bounds names.MaxClients))
  pub per_address : IfSome options.max_per_address (IsWithin (option_bounds names.MaxPerAddress))
  pub under_way : IsWithin (option_bounds names.MaxUnderWay) options.max_under_way
  pub watches : IsWithin (option_bounds names.MaxWatches) options.max_watches
  pub unconnected : IsWithin (option_bounds names.Unconnected) options.unconnected
  pub tick : IsWithin (option_bounds names.Tick) options.tick
  pub init_limit : IsWithin (option_bounds names.InitLimit) options.init_limit
  pub sync_limit : IsWithin (option_bounds names.SyncLimit) options.sync_limit
  pub checkpoint : IsWithin (option_bounds names.Checkpoint) options.checkpoint
  pub give_up : IfSome options.give_up (IsWithin (option_bounds names.GiveUp))

-- The address that a value spells, if there is a value.
abbrev pub IsAddressOf : Option (List ℕ) → Option Address → Type 0
IsAddressOf value None = value ≡ None
IsAddressOf value (Some address) =
    (text : List ℕ) × (value ≡ Some text) × SpellsAddress text address.host.now address.port

-- The leader's address, or the 1 to 64 servers between the commas; and only one of the two is given.
abbrev pub AreServersOf : List Given → Servers → Type 0
AreServersOf given (followed.Leader address) =
    IsAddressOf (value_of names.Leader given) (Some address) × (value_of names.Servers given ≡ None)
AreServersOf given (followed.Any addresses) =
    (text : List ℕ) × (value_of names.Servers given ≡ Some text) × ArePlaces (parts_of text) addresses.items
    × (1 ≤ vec_len addresses) × (vec_len addresses ≤ 64) × (value_of names.Leader given ≡ None)

-- The id that is given, or 1.
abbrev pub id_given : List Given → ℕ
id_given given = unwrap_or (number_given names.Id given) 1

-- A bound of timeouts: the number that is given, or else so many ticks.
abbrev pub ticks_given : ℕ → List Given → Option ℕ
ticks_given count given = option_map (λ tick. count * tick) (number_given names.Tick given)

abbrev pub timeout_given : Name → ℕ → List Given → Option ℤ
timeout_given name count given =
    option_map pos
    (unwrap_or (option_map (number_within (option_bounds name)) (value_of name given)) (ticks_given count given))

-- The least isn't above the greatest.
abbrev pub timeouts_given : List Given → Option TimeoutPair
timeouts_given given = do
  least ← timeout_given names.MinSessionTimeout 2 given
  greatest ← timeout_given names.MaxSessionTimeout 20 given
  timeouts_of least greatest

-- The words of a text that names some of them.
abbrev pub words_given : List Given → Option Words
words_given given = value_of names.Words given >>= named_words

-- The dialect of the release that is given.
abbrev pub dialect_given : List Given → Option Dialect
dialect_given given = value_of names.Dialect given >>= dialect_of

-- Without a level in words, as `--log` alone has none, it is `info`.
abbrev pub level_given : List Given → Option LevelFilter
level_given given = unwrap_or (option_map level_of (value_of names.Log given)) (Some Info)

abbrev pub format_given : List Given → Option LogFormat
format_given given = unwrap_or (option_map format_of (value_of names.LogFormat given)) (Some Text)

-- The options that follow these servers, and are as these others.
abbrev pub options_of : Servers → Others → Options
options_of servers others = record {
  servers = servers;
  client = others.client;
  server_id = others.server_id;
  default_id = others.default_id;
  dialect = others.dialect;
  first_counter = others.first_counter;
  secret_file = others.secret_file;
  super_digest = others.super_digest;
  limits = others.limits;
  max_clients = others.max_clients;
  max_per_address = others.max_per_address;
  max_under_way = others.max_under_way;
  max_watches = others.max_watches;
  unconnected = others.unconnected;
  words = others.words;
  «record» = others.«record»;
  log = others.log;
  log_format = others.log_format;
  tick = others.tick;
  init_limit = others.init_limit;
  sync_limit = others.sync_limit;
  timeouts = others.timeouts;
  checkpoint = others.checkpoint;
  give_up = others.give_up;
  metrics = others.metrics;
}

-- Each option sets what it names, and nothing else: as it is spelled, or as its default is.
pub record IsSetBy (given : List Given) (options : Options) : Type 0 where
  pub servers : AreServersOf given options.servers
  pub server_id : options.server_id ≡ pos (id_given given)
  pub log : level_given given ≡ Some options.log
  pub log_format : format_given given ≡ Some options.log_format
  pub client : IsAddressOf (value_of names.Client given) (Some options.client)
  pub default_id : IsTrue options.default_id ↔ (given_of names.Id given ≡ None)
  pub dialect : dialect_given given ≡ Some options.dialect
  pub counter : options.first_counter ≡ number_given names.Counter given
  pub secret : option_map (λ name. name.now) options.secret_file ≡ value_of names.SecretFile given
  pub super_digest : option_map (λ digest. digest.now) options.super_digest ≡ value_of names.SuperDigest given
  pub workers : number_given names.Workers given ≡ Some options.limits.workers
  pub batch : number_given names.Batch given ≡ Some options.limits.batch
  pub clients : options.max_clients ≡ number_given names.MaxClients given
  pub per_address : options.max_per_address ≡ number_given names.MaxPerAddress given
  pub under_way : number_given names.MaxUnderWay given ≡ Some options.max_under_way
  pub watches : number_given names.MaxWatches given ≡ Some options.max_watches
  pub unconnected : number_given names.Unconnected given ≡ Some options.unconnected
  pub words : words_given given ≡ Some options.words
  pub tick : number_given names.Tick given ≡ Some options.tick
  pub init_limit : number_given names.InitLimit given ≡ Some options.init_limit
  pub sync_limit : number_given names.SyncLimit given ≡ Some options.sync_limit
  pub timeouts : timeouts_given given ≡ Some options.timeouts
  pub checkpoint : number_given names.Checkpoint given ≡ Some options.checkpoint
  pub give_up : options.give_up ≡ number_given names.GiveUp given
  pub metrics : IsAddressOf (value_of names.Metrics given) options.metrics
  pub file : option_map (λ name. name.now) options.«record» ≡ value_of names.Record given

-- The file that is given, to be followed or to be told of, and not both.
abbrev pub IsFileOf : List Given → Option ConfigFile → Type 0
IsFileOf given None = (value_of names.Config given ≡ None) × (value_of names.CheckConfig given ≡ None)
IsFileOf given (Some file) =
    (value_of (if file.is_check then names.CheckConfig else names.Config) given ≡ Some file.name.now)
    × (value_of (if file.is_check then names.Config else names.CheckConfig) given ≡ None)

-- What a file sets counts where no option of that name is given.
abbrev pub AreOptionsOver : List (List ℕ) → List Given → Options → Type 0
AreOptionsOver words filed options =
    (given : List Given) × IsGivenBy given words × IsSetBy (given ++ filed) options × IsWithinBounds options

-- What is asked for by a word that may stand anywhere, whatever the others are: help goes before the version.
abbrev pub command_asked : List (List ℕ) → Option Command
command_asked words =
    if is_among (option_word names.Help) words then Some commands.Help
    else (if is_among (option_word names.Version) words then Some commands.Version else None)

-- The words of a command line that serves spell the options that it sets, each within its bounds.
abbrev pub AreWordsOf : Command → List (List ℕ) → Type 0
AreWordsOf (commands.Serve options) words =
    (given : List Given) × IsGivenBy given words × IsFileOf given None × IsSetBy given options × IsWithinBounds options
AreWordsOf (commands.Configured file) words =
    (given : List Given) × IsGivenBy given words × IsFileOf given (Some file)
AreWordsOf command words = command_asked words ≡ Some command
