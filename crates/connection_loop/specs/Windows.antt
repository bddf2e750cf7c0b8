-- How many frames of a client may be sent on.
use Rattle.std.specs.Prelude.{ℕ, ◌+◌, ◌-◌, ◌*◌, ◌==◌, min, nat_lt, nat_le, List, [], ◌∷◌, take, drop, length, replicate, Bool, true, false, not, ◌&&◌, if◌then◌else◌}
use Rattle.std.specs.Str.{bytes_eq}
use Rattle.world.specs.declared.output.Output.{Output}
use Rattle.world.specs.declared.output.Output.TheVariants.{ToLeader, ToClient, CloseLeader, CloseClient}

-- The frames of a client that wait for their answers, and how many more may go.
pub record Window : Type 0 where
  pub owed : ℕ
  -- An answer has come.
  pub connected : Bool
  pub at_once : ℕ
  -- The number of small answers since that changed.
  pub small : ℕ

abbrev pub new_window : Window
new_window = record { owed = 0; connected = false; at_once = 1; small = 0 }

-- The first frame of a connection asks for a session, and nothing is sent on before it is answered. At most 1,024 frames
-- wait for their answers.
abbrev pub room_in : Window → ℕ
room_in w = if not w.connected && nat_lt 0 w.owed then 0 else min w.at_once (1024 - w.owed)

abbrev pub all_answered : Window → Bool
all_answered w = w.owed == 0

abbrev pub is_new : Window → Bool
is_new w = not w.connected && all_answered w

abbrev pub with_sent : Window → ℕ → Window
with_sent w frames = record w { owed = w.owed + frames }

-- After as many small answers as frames may go at once, the number doubles, up to 16.
abbrev pub after_small : Window → Window
after_small w =
    if nat_le w.at_once (w.small + 1)
    then record w { at_once = min (w.at_once * 2) 16; small = 0 }
    else record w { small = w.small + 1 }

abbrev pub sized_by_answer : Window → ℕ → Window
sized_by_answer w len = if nat_le len 65536 then after_small w else record w { at_once = 1; small = 0 }

abbrev pub with_answer : Window → ℕ → Window
with_answer w len = sized_by_answer (record w { owed = w.owed - 1; connected = true }) len

-- A watch event answers no frame: both its xid and its zxid are -1, the twelve bytes after the length.
abbrev pub notice_header : List ℕ
notice_header = replicate 12 255

abbrev pub is_notice_header : List ℕ → Bool
is_notice_header bytes = if nat_lt (length bytes) 12 then false else bytes_eq (take 12 bytes) notice_header

abbrev pub is_notice : List ℕ → Bool
is_notice frame = is_notice_header (drop 4 frame)

abbrev pub with_output_noted : Window → Output → Window
with_output_noted w (ToLeader bytes) = w
with_output_noted w (ToClient n bytes) = if is_notice bytes then w else with_answer w (length bytes)
with_output_noted w (CloseLeader fault) = w
with_output_noted w (CloseClient n) = w

abbrev pub with_outputs_noted : Window → List Output → Window
with_outputs_noted w [] = w
with_outputs_noted w (o ∷ os) = with_outputs_noted (with_output_noted w o) os
