-- The lines of a record, in the form of a script.
use Rattle.std.specs.Prelude.{◌≡◌, ℕ, ℤ, zero, suc, List, [], ◌∷◌, ◌++◌, Option, Some, None, ◌&&◌, if◌then◌else◌, codes, decimal}
use Rattle.std.specs.Fmt.{signed_decimal}
use Rattle.std.specs.List.{flat_map}
use Rattle.std.specs.Ordering.{int_eq}
use Rattle.std.specs.Int.{w64, cast_unsigned, to_be_bytes}
use Rattle.values.specs.Hex.{hex_digits}
use Rattle.settings.specs.Settings.{TimeoutPair, default_timeouts}
use Rattle.serve_options.specs.Values.{dialect_of}
use Rattle.world.specs.declared.world.Settings.{Settings}
use Rattle.intake.specs.declared.message.Message.{Message}
use Rattle.intake.specs.declared.message.Message.TheVariants.{Up, Bytes, End, Checkpoint, Expire}

abbrev pub line_end : List ℕ
line_end = 10 ∷ []

-- A session's id, in 16 hexadecimal digits.
unfoldable pub session_digits : ℤ → List ℕ
session_digits session = hex_digits (to_be_bytes w64 (cast_unsigned w64 session))

-- The sender: the leader at port 0, a client by its number.
abbrev pub port_words : ℕ → List ℕ
port_words zero = codes "leader "
port_words (suc n) = codes "client " ++ decimal (suc n) ++ codes " "

-- The address of a client, if it is known.
abbrev pub address_words : ℕ → Option (List ℕ) → List ℕ
address_words zero address = []
address_words (suc n) None = []
address_words (suc n) (Some address) = codes " " ++ address

abbrev pub message_line : ℕ → Message → List ℕ
message_line port (Up address) = port_words port ++ codes "up" ++ address_words port address ++ line_end
message_line port (Bytes bytes) = port_words port ++ hex_digits bytes ++ line_end
message_line port End = port_words port ++ codes "end" ++ line_end
message_line port Checkpoint = codes "checkpoint" ++ line_end
message_line port (Expire session) = codes "expire " ++ session_digits session ++ line_end

-- The lines of messages, each with its port.
abbrev pub message_lines : List (ℕ × Message) → List ℕ
message_lines messages = flat_map (λ m. message_line m.0 m.1) messages

-- ---- settings

-- The bounds of timeouts, if they aren't those of a script without the line.
abbrev pub timeouts_line : TimeoutPair → List ℕ
timeouts_line timeouts =
    if int_eq timeouts.least default_timeouts.least && int_eq timeouts.greatest default_timeouts.greatest then []
    else codes "timeouts " ++ signed_decimal timeouts.least ++ codes " " ++ signed_decimal timeouts.greatest ++ line_end

-- Without a secret there is no line of one.
abbrev pub secret_line : List ℕ → List ℕ
secret_line [] = []
secret_line (byte ∷ bytes) = codes "secret " ++ hex_digits (byte ∷ bytes) ++ line_end

abbrev pub super_line : Option (List ℕ) → List ℕ
super_line None = []
super_line (Some digest) = codes "super " ++ digest ++ line_end

-- The lines that there always are, where the dialect has the name of this release.
abbrev pub number_lines : Settings → List ℕ → List ℕ
number_lines settings release =
    codes "server " ++ signed_decimal settings.server_id ++ codes "\ndialect " ++ release ++ codes "\ncounter "
    ++ decimal settings.first_counter ++ line_end

unfoldable pub bounded_lines : Settings → List ℕ → List ℕ
bounded_lines settings release = number_lines settings release ++ timeouts_line settings.timeouts

abbrev pub settings_lines : Settings → List ℕ → List ℕ
settings_lines settings release =
    bounded_lines settings release ++ secret_line settings.secret ++ super_line settings.super_digest

abbrev pub AreLinesOf : Settings → List ℕ → Type 0
AreLinesOf settings lines =
    (release : List ℕ) × (dialect_of release ≡ Some settings.dialect) × (lines ≡ settings_lines settings release)
