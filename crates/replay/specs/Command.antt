-- The command line.
use Rattle.std.specs.Prelude.{ℕ, ◌-◌, ◌^◌, List, [], ◌∷◌, Option, Some, None, is_some, if◌then◌else◌, codes}
use Rattle.std.specs.Option.{unwrap_or, option_map}
use Rattle.std.specs.Str.{bytes_eq}
use Rattle.values.specs.Maybe.{◌>>=◌}
use Rattle.batcher.specs.Limits.{LimitNumbers, limit_numbers, are_limits}
use Rattle.texts.specs.Number.{number_up_to}
use Rattle.replay.specs.declared.command.Source.{Source}
use Rattle.replay.specs.declared.command.Source.TheVariants.{Input, File}
use Rattle.replay.specs.declared.command.Command.{Command}
use Rattle.replay.specs.declared.command.Command.TheVariants.{Replay, Audit}
use Rattle.replay.specs.declared.command.GivenLimits.{GivenLimits}

-- The source of a script with this name: `-` is standard input.
abbrev pub source_of : List ℕ → Source
source_of name = if bytes_eq name (codes "-") then Input else File name

abbrev pub with_workers : GivenLimits → ℕ → Option GivenLimits
with_workers given number =
    if is_some given.workers then None else Some (record { workers = Some number; batch = given.batch })

abbrev pub with_batch : GivenLimits → ℕ → Option GivenLimits
with_batch given number =
    if is_some given.batch then None else Some (record { workers = given.workers; batch = Some number })

-- One option more, by its name. Each comes once at most.
abbrev pub with_option : GivenLimits → List ℕ → ℕ → Option GivenLimits
with_option given name number =
    if bytes_eq name (codes "--workers") then with_workers given number
    else if bytes_eq name (codes "--batch") then with_batch given number
    else None

-- Options and their numbers in decimal digits, in turn.
abbrev pub with_options : GivenLimits → List (List ℕ) → Option GivenLimits
with_options given [] = Some given
with_options given (name ∷ []) = None
with_options given (name ∷ text ∷ options) = do
  number ← number_up_to (2 ^ 64 - 1) text
  more ← with_option given name number
  with_options more options

-- The limits with the defaults for what isn't given: 4 workers, and batches of up to 256 transactions.
abbrev pub limits_of : GivenLimits → Option LimitNumbers
limits_of given =
    let limits = limit_numbers (unwrap_or given.workers 4) (unwrap_or given.batch 256) 64 in
    if are_limits limits then Some limits else None

-- The limits by the options after the name of a script.
abbrev pub limits_after : List (List ℕ) → Option LimitNumbers
limits_after options = do
  given ← with_options (record { workers = None; batch = None }) options
  limits_of given

abbrev pub audit_of : List ℕ → List (List ℕ) → Option Command
audit_of name [] = None
audit_of name (path ∷ []) = Some (Audit (source_of name) path)
audit_of name (path ∷ word ∷ words) = None

-- The word `replay`, the name of a script and options; or `audit`, the name of a script and a path; no word at all
-- replays standard input. Nothing else is a command line.
abbrev pub command_of : List (List ℕ) → Option Command
command_of [] = option_map (Replay Input) (limits_after [])
command_of (command ∷ []) = None
command_of (command ∷ name ∷ options) =
    if bytes_eq command (codes "replay") then option_map (Replay (source_of name)) (limits_after options)
    else if bytes_eq command (codes "audit") then audit_of name options
    else None
