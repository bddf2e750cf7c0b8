-- How long a session waits, in milliseconds.
use Rattle.std.specs.Prelude.{ℕ, ◌+◌, min, nat_lt, Bool, ◌&&◌, Option, Some, None, if◌then◌else◌}
use Rattle.connection_loop.specs.declared.limits.SessionLimits.{SessionLimits}
use Rattle.connection_loop.specs.declared.patience.Waits.{Waits}

abbrev pub earlier_of : Option ℕ → Option ℕ → Option ℕ
earlier_of None other = other
earlier_of (Some one) None = Some one
earlier_of (Some one) (Some other) = Some (min one other)

-- The greatest number of milliseconds.
abbrev pub no_end : ℕ
no_end = 18446744073709551615

-- A limit that began then, if it counts. One of 0 never ends.
abbrev pub limit_end : Bool → ℕ → ℕ → Option ℕ
limit_end counts since limit = if counts && nat_lt 0 limit then Some (min (since + limit) no_end) else None

-- A connect has to be answered in time, counted from the start; the socket has to take bytes, in a shorter time where
-- the connection is to close; and answers are waited for, after the end of the stream, for two seconds.
abbrev pub deadline_of : Waits → SessionLimits → Option ℕ
deadline_of w limits =
    earlier_of (limit_end w.connecting 0 limits.unconnected)
    (earlier_of
    (limit_end w.unread w.since (if w.closing then limits.closing else limits.unread))
    (limit_end w.ended w.since 2000))
