-- What holds of each wait for a leader's bytes, over a list of calls.
use Rattle.std.specs.Prelude.{◌≡◌, ℕ, ◌<◌, ◌≤◌, ◌+◌, ◌-◌, ◌*◌, ◌/◌, ◌^◌, ℤ, pos, List, [], ◌∷◌, ◌++◌, Option, Some, None, IfSome}
use Rattle.following.specs.declared.patience.Judgement.{Judgement}
use Rattle.following.specs.declared.patience.Judgement.TheVariants.{Wait, SecondLook, GivenUp}
use Rattle.following.specs.declared.patience.Stage.TheVariants.{Serving}
use Rattle.following.specs.Patience.{LeaderWait, new_wait, after_hearing, after_judging, judgement_on, limit_of_silence}

-- The leader is heard, or judged with a limit.
pub data WaitCall : Type 0 where
  Hears : ℕ → WaitCall
  Judges : ℕ → Option ℕ → WaitCall

abbrev pub wait_after_call : LeaderWait → WaitCall → LeaderWait
wait_after_call wait (Hears now) = after_hearing wait now
wait_after_call wait (Judges now limit) = after_judging wait now limit

abbrev pub wait_after : LeaderWait → List WaitCall → LeaderWait
wait_after wait [] = wait
wait_after wait (call ∷ calls) = wait_after (wait_after_call wait call) calls

abbrev pub judgement_of_call : LeaderWait → WaitCall → Option Judgement
judgement_of_call wait (Hears now) = None
judgement_of_call wait (Judges now limit) = Some (judgement_on wait now limit)

-- ---- the second look

-- A leader is never given up by the first call.
abbrev pub NoneIsGivenUpAtOnce : Type 0
NoneIsGivenUpAtOnce =
    (start now : ℕ) (limit : Option ℕ) (silent : ℕ) → judgement_on (new_wait start) now limit ≡ GivenUp silent → ⊥

-- It is given up only where the call before it asked for a second look; so nothing was heard in between.
abbrev pub GivenUpAtSecondLook : Type 0
GivenUpAtSecondLook =
    (start : ℕ) (calls : List WaitCall) (call : WaitCall) (now : ℕ) (limit : Option ℕ) (silent : ℕ)
    → judgement_on (wait_after (new_wait start) (calls ++ call ∷ [])) now limit ≡ GivenUp silent
    → judgement_of_call (wait_after (new_wait start) calls) call ≡ Some SecondLook

-- And it is: where nothing is heard for as long as the limit, the second judgement gives it up.
abbrev pub SilentIsGivenUp : Type 0
SilentIsGivenUp =
    (heard first second limit : ℕ) → heard + limit ≤ first → first ≤ second
    → (judgement_on (new_wait heard) first (Some limit) ≡ SecondLook)
    × (judgement_on (after_judging (new_wait heard) first (Some limit)) second (Some limit)
    ≡ GivenUp (second - heard))

-- One that is heard in time is not.
abbrev pub HeardIsKept : Type 0
HeardIsKept =
    (heard now limit : ℕ) → heard ≤ now → now < heard + limit
    → judgement_on (new_wait heard) now (Some limit) ≡ Wait (limit - (now - heard))

-- ---- limits

abbrev pub LimitIsAtMost : Option ℕ → ℕ → Type 0
LimitIsAtMost limit most = (least : ℕ) × (limit ≡ Some least) × (least ≤ most)

-- A leader of a client whose timeout is two ticks or more may be silent for three quarters of it at most.
abbrev pub NoneIsServedPastItsSession : Type 0
NoneIsServedPastItsSession =
    (tick init_limit sync_limit timeout : ℕ) → 2 * tick ≤ timeout
    → LimitIsAtMost (limit_of_silence Serving tick init_limit sync_limit (Some (pos timeout))) (timeout * 3 / 4)

-- A leader that is heard each half tick isn't given up, at limits that ZooKeeper has: it may miss two.
abbrev pub HeartbeatsAreEnough : Type 0
HeartbeatsAreEnough =
    (tick init_limit sync_limit : ℕ) (least_timeout : Option ℤ) → tick < 2 ^ 32 → 2 ≤ sync_limit
    → IfSome (limit_of_silence Serving tick init_limit sync_limit least_timeout) (λ limit. 3 * tick / 2 ≤ limit)
