-- The script of a text.
use Rattle.std.specs.Prelude.{ℕ, ◌+◌, ◌==◌, ◌&&◌, not, Bool, true, false, List, [], ◌∷◌, ◌++◌, Option, Some, None, is_some, Result, Ok, Err, unwrap_or, if◌then◌else◌}
use Rattle.std.specs.List.{slice_split}
use Rattle.settings.specs.Dialects.{default_dialect}
use Rattle.settings.specs.Settings.{default_server_id, default_first_counter, default_epochs, default_timeouts, default_secret}
use Rattle.replay_script.specs.Line.{line_of}
use Rattle.replay_script.specs.declared.event.ScriptEvent.{ScriptEvent}
use Rattle.replay_script.specs.declared.event.Setting.{Setting}
use Rattle.replay_script.specs.declared.event.Setting.TheVariants.{Server, Counter, Epochs, Timeouts, Secret, Dialect, Super, Primed}
use Rattle.replay_script.specs.declared.event.Line.{Line}
use Rattle.replay_script.specs.declared.event.Line.TheVariants.{Blank, Header, Happening}
use Rattle.replay_script.specs.declared.script.Script.{Script}
use Rattle.replay_script.specs.declared.script.Settings.{Settings}

-- Lines end with LF; the last one may lack it.
abbrev pub lines_of : List ℕ → List (List ℕ)
lines_of text = slice_split (λ b. b == 10) text

-- ---- the meaning of lines together

-- The settings, as far as a line has set them, and the events in order.
pub record PartialScript : Type 0 where
  pub settings : Settings
  pub events : List ScriptEvent

-- Before any line.
abbrev pub empty_script : PartialScript
empty_script = record {
  settings = record {
    server = None;
    counter = None;
    epochs = None;
    timeouts = None;
    secret = None;
    dialect = None;
    super_digest = None;
    primed = false;
  };
  events = [];
}

abbrev pub is_set : Setting → Settings → Bool
is_set (Server id) settings = is_some settings.server
is_set (Counter first) settings = is_some settings.counter
is_set (Epochs epochs) settings = is_some settings.epochs
is_set (Timeouts timeouts) settings = is_some settings.timeouts
is_set (Secret bytes) settings = is_some settings.secret
is_set (Dialect dialect) settings = is_some settings.dialect
is_set (Super digest) settings = is_some settings.super_digest
is_set Primed settings = settings.primed

abbrev pub with_setting : Settings → Setting → Settings
with_setting settings (Server id) = record settings { server = Some id }
with_setting settings (Counter first) = record settings { counter = Some first }
with_setting settings (Epochs epochs) = record settings { epochs = Some epochs }
with_setting settings (Timeouts timeouts) = record settings { timeouts = Some timeouts }
with_setting settings (Secret bytes) = record settings { secret = Some bytes }
with_setting settings (Dialect dialect) = record settings { dialect = Some dialect }
with_setting settings (Super digest) = record settings { super_digest = Some digest }
with_setting settings Primed = record settings { primed = true }

abbrev pub is_empty : {A : Type 0} → List A → Bool
is_empty [] = true
is_empty (x ∷ xs) = false

-- A setting occurs once, and before each event.
abbrev pub is_line_allowed : PartialScript → Line → Bool
is_line_allowed kept Blank = true
is_line_allowed kept (Header setting) = is_empty kept.events && not (is_set setting kept.settings)
is_line_allowed kept (Happening event) = true

abbrev pub with_line : PartialScript → Line → PartialScript
with_line kept Blank = kept
with_line kept (Header setting) = record kept { settings = with_setting kept.settings setting }
with_line kept (Happening event) = record kept { events = kept.events ++ event ∷ [] }

-- None, if this isn't a valid line, or isn't allowed here.
abbrev pub with_read : PartialScript → Option Line → Option PartialScript
with_read kept None = None
with_read kept (Some line) = if is_line_allowed kept line then Some (with_line kept line) else None

abbrev pub with_text : PartialScript → List ℕ → Option PartialScript
with_text kept text = with_read kept (line_of text)

-- With defaults for what no line sets.
abbrev pub script_with : PartialScript → Script
script_with kept =
    let settings = kept.settings in
    record {
      server_id = unwrap_or settings.server default_server_id;
      first_counter = unwrap_or settings.counter default_first_counter;
      epochs = unwrap_or settings.epochs default_epochs;
      timeouts = unwrap_or settings.timeouts default_timeouts;
      secret = unwrap_or settings.secret default_secret;
      dialect = unwrap_or settings.dialect default_dialect;
      super_digest = settings.super_digest;
      primed = settings.primed;
      events = kept.events;
    }

-- ---- the script of a text, or the number of its first bad line, counted from 1

abbrev pub or_bad : ℕ → Option PartialScript → (PartialScript → Result Script ℕ) → Result Script ℕ
or_bad number None next = Err number
or_bad number (Some kept) next = next kept

-- A fold over the lines, of which `count` were read before.
abbrev pub script_after : ℕ → PartialScript → List (List ℕ) → Result Script ℕ
script_after count kept [] = Ok (script_with kept)
script_after count kept (text ∷ texts) =
    or_bad (count + 1) (with_text kept text) (λ more. script_after (count + 1) more texts)

abbrev pub script_of : List ℕ → Result Script ℕ
script_of text = script_after 0 empty_script (lines_of text)
