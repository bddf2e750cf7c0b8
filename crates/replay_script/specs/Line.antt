-- The meaning of a script's line.
use Rattle.std.specs.Prelude.{ℕ, ◌^◌, ◌-◌, ◌==◌, List, [], ◌∷◌, length, Option, Some, None, Bool, ◌&&◌, nat_lt, nat_le, if◌then◌else◌, codes}
use Rattle.std.specs.Int.{w64, cast_signed}
use Rattle.std.specs.Char.{is_ascii_graphic}
use Rattle.std.specs.List.{list_all}
use Rattle.std.specs.Option.{option_map}
use Rattle.std.specs.Str.{bytes_eq, is_utf8}
use Rattle.byteorder.specs.Endian.{big_number}
use Rattle.settings.specs.Settings as settings
use Rattle.settings.specs.declared.dialect.Dialect.TheVariants.{Zk34, Zk38}
use Rattle.texts.specs.Cut.{cut_at}
use Rattle.values.specs.Maybe.{◌>>=◌}
use Rattle.texts.specs.Number.{number_up_to}
use Rattle.replay_script.specs.Ints.{int_of, ints_of}
use Rattle.values.specs.Hex.{bytes_of_hex}
use Rattle.replay_script.specs.declared.event.ScriptEvent.{ScriptEvent}
use Rattle.replay_script.specs.declared.event.ScriptEvent.TheVariants.{LeaderUp, LeaderBytes, LeaderEnd, ClientUp, ClientBytes, ClientEnd, Expire, Checkpoint}
use Rattle.replay_script.specs.declared.event.Setting.{Setting}
use Rattle.replay_script.specs.declared.event.Setting.TheVariants.{Server, Counter, Epochs, Timeouts, Secret, Dialect, Super, Primed}
use Rattle.replay_script.specs.declared.event.Line.{Line}
use Rattle.replay_script.specs.declared.event.Line.TheVariants.{Blank, Header, Happening}
use Rattle.replay_script.specs.declared.event.Keyword.{Keyword}
use Rattle.replay_script.specs.declared.event.Keyword.TheVariants as words
use Rattle.replay_script.specs.declared.event.Coming.{Coming}
use Rattle.replay_script.specs.declared.event.Coming.TheVariants.{Up, Bytes, End}

-- The words that a line begins with.
abbrev pub keyword_of : List ℕ → Option Keyword
keyword_of word =
    if bytes_eq word (codes "server") then Some words.Server
    else (if bytes_eq word (codes "counter") then Some words.Counter
    else (if bytes_eq word (codes "epochs") then Some words.Epochs
    else (if bytes_eq word (codes "timeouts") then Some words.Timeouts
    else (if bytes_eq word (codes "secret") then Some words.Secret
    else (if bytes_eq word (codes "dialect") then Some words.Dialect
    else (if bytes_eq word (codes "super") then Some words.Super
    else (if bytes_eq word (codes "primed") then Some words.Primed
    else (if bytes_eq word (codes "leader") then Some words.Leader
    else (if bytes_eq word (codes "client") then Some words.Client
    else (if bytes_eq word (codes "expire") then Some words.Expire
    else (if bytes_eq word (codes "checkpoint") then Some words.Checkpoint
    else None)))))))))))

-- The texts `up` and `end`, or the bytes that come.
abbrev pub coming_of : List ℕ → Option Coming
coming_of text =
    if bytes_eq text (codes "up") then Some Up
    else (if bytes_eq text (codes "end") then Some End
    else option_map Bytes (bytes_of_hex text))

abbrev pub leader_event : Coming → ScriptEvent
leader_event Up = LeaderUp
leader_event (Bytes bytes) = LeaderBytes bytes
leader_event End = LeaderEnd

abbrev pub client_event : ℕ → Coming → ScriptEvent
client_event client Up = ClientUp client None
client_event client (Bytes bytes) = ClientBytes client bytes
client_event client End = ClientEnd client

-- The longest address of a client, in bytes.
abbrev pub address_limit : ℕ
address_limit = 64

-- An address is a text of printable ASCII without a blank.
abbrev pub is_address_text : List ℕ → Bool
is_address_text text = nat_lt 0 (length text) && nat_le (length text) address_limit && list_all is_ascii_graphic text

-- A client's connection opens, and its address is told or not.
abbrev pub client_up : ℕ → Option (List ℕ) → Option ScriptEvent
client_up client None = Some (ClientUp client None)
client_up client (Some text) = if is_address_text text then Some (ClientUp client (Some text)) else None

-- The texts `up`, `up ADDRESS`, `HEX` and `end`.
abbrev pub coming_of_client : ℕ → List ℕ → Option ScriptEvent
coming_of_client client text =
    let words = cut_at 32 text in
    if bytes_eq words.front (codes "up") then client_up client words.behind
    else option_map (client_event client) (coming_of text)

-- The texts `N up`, `N up ADDRESS`, `N HEX` and `N end`.
abbrev pub client_of : List ℕ → Option ScriptEvent
client_of text = do
  let words = cut_at 32 text
  client ← number_up_to (2 ^ 32 - 1) words.front
  behind ← words.behind
  coming_of_client client behind

-- A session's id of 8 bytes, in two's complement.
abbrev pub expire_of : List ℕ → Option ScriptEvent
expire_of text = do
  bytes ← bytes_of_hex text
  if length bytes == 8 then Some (Expire (cast_signed w64 (big_number 8 bytes))) else None

abbrev pub server_setting : List ℕ → Option Setting
server_setting text = do
  number ← int_of text
  option_map Server (settings.server_id_of number)

abbrev pub counter_setting : List ℕ → Option Setting
counter_setting text = do
  number ← number_up_to (2 ^ 64 - 1) text
  option_map Counter (settings.first_counter_of number)

abbrev pub epochs_setting : List ℕ → Option Setting
epochs_setting text = do
  numbers ← ints_of text
  option_map Epochs (settings.epochs_of numbers.0 numbers.1)

abbrev pub timeouts_setting : List ℕ → Option Setting
timeouts_setting text = do
  numbers ← ints_of text
  option_map Timeouts (settings.timeouts_of numbers.0 numbers.1)

abbrev pub secret_setting : List ℕ → Option Setting
secret_setting text = do
  bytes ← bytes_of_hex text
  option_map Secret (settings.secret_of bytes)

-- A dialect is named by a release that speaks it.
abbrev pub dialect_setting : List ℕ → Option Setting
dialect_setting text =
    if bytes_eq text (codes "3.4") then Some (Dialect Zk34)
    else (if bytes_eq text (codes "3.8") then Some (Dialect Zk38) else None)

-- The digest of the super user: any text, of one byte at least.
abbrev pub super_setting : List ℕ → Option Setting
super_setting [] = None
super_setting (b ∷ bs) = if is_utf8 (b ∷ bs) then Some (Super (b ∷ bs)) else None

-- The meaning of a word with nothing after it.
abbrev pub line_of_keyword : Keyword → Option Line
line_of_keyword words.Primed = Some (Header Primed)
line_of_keyword words.Checkpoint = Some (Happening Checkpoint)
line_of_keyword words.Server = None
line_of_keyword words.Counter = None
line_of_keyword words.Epochs = None
line_of_keyword words.Timeouts = None
line_of_keyword words.Secret = None
line_of_keyword words.Dialect = None
line_of_keyword words.Super = None
line_of_keyword words.Leader = None
line_of_keyword words.Client = None
line_of_keyword words.Expire = None

-- The meaning of a word with a blank and a text after it.
abbrev pub line_with_text : Keyword → List ℕ → Option Line
line_with_text words.Server text = option_map Header (server_setting text)
line_with_text words.Counter text = option_map Header (counter_setting text)
line_with_text words.Epochs text = option_map Header (epochs_setting text)
line_with_text words.Timeouts text = option_map Header (timeouts_setting text)
line_with_text words.Secret text = option_map Header (secret_setting text)
line_with_text words.Dialect text = option_map Header (dialect_setting text)
line_with_text words.Super text = option_map Header (super_setting text)
line_with_text words.Leader text = option_map (λ coming. Happening (leader_event coming)) (coming_of text)
line_with_text words.Client text = option_map Happening (client_of text)
line_with_text words.Expire text = option_map Happening (expire_of text)
line_with_text words.Primed text = None
line_with_text words.Checkpoint text = None

-- The meaning of a word with this after it.
abbrev pub line_of_words : Keyword → Option (List ℕ) → Option Line
line_of_words word None = line_of_keyword word
line_of_words word (Some text) = line_with_text word text

-- The meaning of a line; none if it isn't valid. Every valid line is UTF-8: one that isn't empty, isn't a comment and
-- doesn't say a super user's digest is ASCII.
abbrev pub line_of : List ℕ → Option Line
line_of [] = Some Blank
line_of (b ∷ bs) =
    if b == 35 then (if is_utf8 (b ∷ bs) then Some Blank else None)
    else (keyword_of (cut_at 32 (b ∷ bs)).front >>= (λ word. line_of_words word (cut_at 32 (b ∷ bs)).behind))
