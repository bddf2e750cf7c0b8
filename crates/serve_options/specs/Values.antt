-- The values of options.
use Rattle.std.specs.Prelude.{◌≡◌, ◌≢◌, ◌==◌, ◌&&◌, not, ℕ, List, [], ◌∷◌, ◌++◌, length, ◌⊎◌, Bool, Option, Some, None, nat_le, if◌then◌else◌, codes}
use Rattle.std.specs.List.{list_any, after_first}
use Rattle.std.specs.Str.{bytes_eq}
use Rattle.log.specs.declared.level.LevelFilter.{LevelFilter}
use Rattle.log.specs.declared.level.LevelFilter.TheVariants.{Off, Error, Warn, Info, Debug}
use Rattle.settings.specs.declared.dialect.Dialect.{Dialect}
use Rattle.settings.specs.declared.dialect.Dialect.TheVariants.{Zk34, Zk38}
use Rattle.values.specs.Maybe.{◌>>=◌}
use Rattle.texts.specs.Number.{number_up_to}
use Rattle.serve_options.specs.declared.row.Bounds.{Bounds}
use Rattle.serve_options.specs.declared.value.Address.{Address}
use Rattle.serve_options.specs.declared.value.LogFormat.{LogFormat}
use Rattle.serve_options.specs.declared.value.LogFormat.TheVariants.{Text, Json}

-- A number in decimal digits, if it is within the bounds.
abbrev pub number_within : Bounds → List ℕ → Option ℕ
number_within bounds text = do
  number ← number_up_to bounds.most text
  if nat_le bounds.least number then Some number else None

abbrev pub port_number_of : List ℕ → Option ℕ
port_number_of text = number_up_to 65535 text

abbrev pub level_of : List ℕ → Option LevelFilter
level_of text =
    if bytes_eq text (codes "off") then Some Off
    else (if bytes_eq text (codes "error") then Some Error
    else (if bytes_eq text (codes "warn") then Some Warn
    else (if bytes_eq text (codes "info") then Some Info
    else (if bytes_eq text (codes "debug") then Some Debug
    else None))))

abbrev pub format_of : List ℕ → Option LogFormat
format_of text =
    if bytes_eq text (codes "text") then Some Text
    else (if bytes_eq text (codes "json") then Some Json
    else None)

abbrev pub dialect_of : List ℕ → Option Dialect
dialect_of text =
    if bytes_eq text (codes "3.4") then Some Zk34
    else (if bytes_eq text (codes "3.8") then Some Zk38
    else None)

-- A user, a colon and a hash, on one line: SHA-1 has 20 bytes, which are 28 letters in base64.
abbrev pub is_digest_text : List ℕ → Bool
is_digest_text text =
    not (list_any (λ letter. letter == 10) text) && length (after_first (λ letter. letter == 58) text) == 28

abbrev pub HasNoBracket : List ℕ → Type 0
HasNoBracket text = (rest : List ℕ) → text ≢ codes "[" ++ rest

-- A host before a colon and a port: as it is, or in brackets.
abbrev pub SpellsHost : List ℕ → List ℕ → Type 0
SpellsHost text host =
    (host ≢ []) × (((text ≡ host) × HasNoBracket text) ⊎ (text ≡ codes "[" ++ host ++ codes "]"))

-- A text spells a host, a colon and a port.
pub record SpellsPlace (text host : List ℕ) (port : ℕ) : Type 0 where
  pub front : List ℕ
  pub digits : List ℕ
  pub spelled : text ≡ front ++ codes ":" ++ digits
  pub is_host : SpellsHost front host
  pub is_port : port_number_of digits ≡ Some port

-- A text spells a host and a port: a port alone is one of this machine.
abbrev pub SpellsAddress : List ℕ → List ℕ → ℕ → Type 0
SpellsAddress text host port =
    ((port_number_of text ≡ Some port) × (host ≡ codes "127.0.0.1")) ⊎ SpellsPlace text host port

-- Each text spells the address at its place.
abbrev pub ArePlaces : List (List ℕ) → List Address → Type 0
ArePlaces [] [] = Unit {0}
ArePlaces (text ∷ texts) (address ∷ addresses) =
    SpellsPlace text address.host.now address.port × ArePlaces texts addresses
ArePlaces texts addresses = ⊥
