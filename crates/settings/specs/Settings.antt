-- The valid settings of an observer, and the defaults.
use Rattle.std.specs.Prelude.{ℕ, ◌-◌, ◌*◌, ◌%◌, ◌^◌, ℤ, pos, Bool, ◌&&◌, List, [], length, Option, Some, None, nat_le, int_le, if◌then◌else◌}

-- The accepted epoch, and the epoch of the last leader that was followed.
pub record EpochPair : Type 0 where
  pub accepted : ℤ
  pub current : ℤ

abbrev pub epoch_pair : ℤ → ℤ → EpochPair
epoch_pair accepted current = record { accepted = accepted; current = current }

-- The least and the greatest timeout of a session, in milliseconds.
pub record TimeoutPair : Type 0 where
  pub least : ℤ
  pub greatest : ℤ

abbrev pub timeout_pair : ℤ → ℤ → TimeoutPair
timeout_pair least greatest = record { least = least; greatest = greatest }

-- ---- bounds

abbrev pub is_server_id : ℤ → Bool
is_server_id id = int_le (pos 1) id && int_le id (pos 255)

abbrev pub are_epochs : EpochPair → Bool
are_epochs epochs = int_le (pos 0) epochs.accepted && int_le (pos 0) epochs.current

abbrev pub are_timeouts : TimeoutPair → Bool
are_timeouts timeouts = int_le (pos 1) timeouts.least && int_le timeouts.least timeouts.greatest

abbrev pub secret_limit : ℕ
secret_limit = 64

abbrev pub is_secret : List ℕ → Bool
is_secret bytes = nat_le (length bytes) secret_limit

-- One session id can still be given out after it: its counter is the next one.
abbrev pub is_first_counter : ℕ → Bool
is_first_counter number = nat_le number (2 ^ 56 - 2)

-- ---- the settings made of numbers and bytes; none if these are out of bounds

abbrev pub server_id_of : ℤ → Option ℤ
server_id_of number = if is_server_id number then Some number else None

abbrev pub epochs_of : ℤ → ℤ → Option EpochPair
epochs_of accepted current =
    let epochs = epoch_pair accepted current in
    if are_epochs epochs then Some epochs else None

abbrev pub timeouts_of : ℤ → ℤ → Option TimeoutPair
timeouts_of least greatest =
    let timeouts = timeout_pair least greatest in
    if are_timeouts timeouts then Some timeouts else None

abbrev pub secret_of : List ℕ → Option (List ℕ)
secret_of bytes = if is_secret bytes then Some bytes else None

abbrev pub first_counter_of : ℕ → Option ℕ
first_counter_of number = if is_first_counter number then Some number else None

-- The clock shows milliseconds. Each has 2 ^ 16 counters of its own, up to the middle of all counters.
abbrev pub clock_counter : ℕ → ℕ
clock_counter milliseconds = (milliseconds % 2 ^ 39) * 2 ^ 16

-- ---- defaults

abbrev pub default_server_id : ℤ
default_server_id = pos 1

abbrev pub default_epochs : EpochPair
default_epochs = epoch_pair (pos 0) (pos 0)

abbrev pub default_timeouts : TimeoutPair
default_timeouts = timeout_pair (pos 4000) (pos 40000)

abbrev pub default_secret : List ℕ
default_secret = []

abbrev pub default_first_counter : ℕ
default_first_counter = 0
