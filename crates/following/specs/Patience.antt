-- When a silent leader is given up. Times are in milliseconds.
use Rattle.std.specs.Prelude.{ℕ, ◌+◌, ◌-◌, ◌*◌, ◌/◌, ◌^◌, ◌==◌, ℤ, pos, negsuc, Bool, true, false, min, max, Option, Some, None, if◌then◌else◌}
use Rattle.following.specs.declared.patience.Stage.{Stage}
use Rattle.following.specs.declared.patience.Stage.TheVariants.{Greeting, GreetingAgain, Synchronising, Serving}
use Rattle.following.specs.declared.patience.Judgement.{Judgement}
use Rattle.following.specs.declared.patience.Judgement.TheVariants.{Wait, SecondLook, GivenUp}

pub record LeaderWait : Type 0 where
  -- when the leader was heard, or was connected
  pub heard : ℕ
  -- whether the last judgement was that a second look is to be taken, and nothing was heard since
  pub looks_again : Bool

abbrev pub new_wait : ℕ → LeaderWait
new_wait now = record { heard = now; looks_again = false }

abbrev pub after_hearing : LeaderWait → ℕ → LeaderWait
after_hearing wait now = new_wait now

-- ---- judgements

-- For how long it may still be silent: for ever without a limit, which is told by the greatest number.
abbrev pub patience_left : LeaderWait → ℕ → Option ℕ → ℕ
patience_left wait now None = 2 ^ 64 - 1
patience_left wait now (Some limit) = limit - (now - wait.heard)

abbrev pub judgement_on : LeaderWait → ℕ → Option ℕ → Judgement
judgement_on wait now limit =
    if patience_left wait now limit == 0
    then (if wait.looks_again then GivenUp (now - wait.heard) else SecondLook)
    else Wait (patience_left wait now limit)

abbrev pub is_second_look : Judgement → Bool
is_second_look (Wait _) = false
is_second_look SecondLook = true
is_second_look (GivenUp _) = false

abbrev pub after_judging : LeaderWait → ℕ → Option ℕ → LeaderWait
after_judging wait now limit = record wait { looks_again = is_second_look (judgement_on wait now limit) }

-- ---- limits; each is None where there is none

-- Numbers of 64 bits end here.
abbrev pub greatest_time : ℕ
greatest_time = 2 ^ 64 - 1

abbrev pub limit_in_ticks : ℕ → ℕ → Option ℕ
limit_in_ticks tick count = if count == 0 then None else Some (min (tick * count) greatest_time)

-- A timeout below 0 is none at all.
abbrev pub milliseconds_of : ℤ → ℕ
milliseconds_of (pos n) = n
milliseconds_of (negsuc _) = 0

-- Three quarters of the least timeout, and three half ticks at least.
abbrev pub limit_by_sessions : ℕ → Option ℤ → Option ℕ
limit_by_sessions tick None = None
limit_by_sessions tick (Some timeout) =
    Some (max (milliseconds_of timeout * 3 / 4) (min (tick + tick / 2) greatest_time))

abbrev pub lesser_limit : Option ℕ → Option ℕ → Option ℕ
lesser_limit None limit = limit
lesser_limit (Some one) None = Some one
lesser_limit (Some one) (Some other) = Some (min one other)

abbrev pub limit_of_silence : Stage → ℕ → ℕ → ℕ → Option ℤ → Option ℕ
limit_of_silence Greeting tick init_limit sync_limit least_timeout = Some 3000
limit_of_silence GreetingAgain tick init_limit sync_limit least_timeout = Some 500
limit_of_silence Synchronising tick init_limit sync_limit least_timeout = limit_in_ticks tick init_limit
limit_of_silence Serving tick init_limit sync_limit least_timeout =
    lesser_limit (limit_in_ticks tick sync_limit) (limit_by_sessions tick least_timeout)
