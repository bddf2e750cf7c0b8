-- The command line.
use Rattle.std.specs.Prelude.{ℕ, ◌+◌, ◌==◌, List, [], ◌∷◌, Option, Some, None, take, drop, position, nat_le, if◌then◌else◌, codes}
use Rattle.std.specs.Option.{option_map}
use Rattle.std.specs.Str.{bytes_eq}
use Rattle.values.specs.Maybe.{◌>>=◌}
use Rattle.texts.specs.Number.{number_up_to}
use Rattle.serve_wait.specs.declared.command.HostAndPort.{HostAndPort}
use Rattle.serve_wait.specs.declared.command.WaitCommand.{WaitCommand}

-- A number in decimal digits, if it is within the bounds.
abbrev pub number_from : ℕ → ℕ → List ℕ → Option ℕ
number_from least most text = do
  number ← number_up_to most text
  if nat_le least number then Some number else None

-- What is before the first occurrence of a byte, and what is after it.
abbrev pub parts_around : ℕ → List ℕ → Option (List ℕ × List ℕ)
parts_around byte text = option_map (λ i. (take i text, drop (i + 1) text)) (position (λ b. b == byte) text)

-- A host of at least one byte, and a port from 1 to 65535.
abbrev pub port_and_host : List ℕ → List ℕ → Option HostAndPort
port_and_host [] digits = None
port_and_host (b ∷ bs) digits = option_map (λ port. record { host = b ∷ bs; port = port }) (number_from 1 65535 digits)

-- The same where nothing may be before and between.
abbrev pub port_and_host_alone : List ℕ → List ℕ → List ℕ → List ℕ → Option HostAndPort
port_and_host_alone [] host [] digits = port_and_host host digits
port_and_host_alone [] host (b ∷ bs) digits = None
port_and_host_alone (b ∷ bs) host between digits = None

-- In brackets, what is before them and between them and the colon is empty.
abbrev pub bracketed_of : Option (List ℕ × List ℕ) → List ℕ → Option HostAndPort
bracketed_of None text = do
  parts ← parts_around 58 text
  port_and_host parts.0 parts.1
bracketed_of (Some outer) text = do
  inner ← parts_around 93 outer.1
  parts ← parts_around 58 inner.1
  port_and_host_alone outer.0 inner.0 parts.0 parts.1

-- HOST:PORT, or [HOST]:PORT, where the host may have colons.
abbrev pub host_and_port_of : List ℕ → Option HostAndPort
host_and_port_of text = bracketed_of (parts_around 91 text) text

-- Up to a minute, unless `--seconds` says from a second to a day.
abbrev pub wait_seconds_of : List (List ℕ) → Option ℕ
wait_seconds_of [] = Some 60
wait_seconds_of (name ∷ []) = None
wait_seconds_of (name ∷ number ∷ []) =
    if bytes_eq name (codes "--seconds") then number_from 1 86400 number else None
wait_seconds_of (name ∷ number ∷ word ∷ words) = None

-- An address, and options. Nothing else is a command line.
abbrev pub wait_command_of : List (List ℕ) → Option WaitCommand
wait_command_of [] = None
wait_command_of (address ∷ options) = do
  place ← host_and_port_of address
  seconds ← wait_seconds_of options
  Some (record { address = address; host = place.host; port = place.port; seconds = seconds })
