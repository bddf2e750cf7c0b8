-- The second look, and limits.
use Rattle.std.proofs.Common.{◌≡◌, ℕ, ◌+◌, ◌-◌, ◌*◌, ◌/◌, ◌^◌, ◌<◌, ◌≤◌, Bool, true, false, cond, eqb, min, max, ℤ, List, [], ◌∷◌, ◌++◌, Option, Some, None, IfSome, refl, sym, ◌∙◌, ap, subst, arith, eq-eqb}
use Rattle.std.proofs.lemmas.Bool.Decides.{nat_tests}
use Rattle.std.proofs.Math.Nat.{mul-le-mul_left}
use Rattle.following.specs.declared.patience.Judgement.{Judgement}
use Rattle.following.specs.declared.patience.Judgement.TheVariants.{Wait, SecondLook, GivenUp}
use Rattle.following.specs.Patience.{LeaderWait, new_wait, after_judging, patience_left, judgement_on, is_second_look, greatest_time, limit_in_ticks, limit_by_sessions, lesser_limit}
use Rattle.following.specs.Waits.{WaitCall, Hears, Judges, wait_after, wait_after_call, judgement_of_call, NoneIsGivenUpAtOnce, GivenUpAtSecondLook, SilentIsGivenUp, HeardIsKept, LimitIsAtMost, NoneIsServedPastItsSession, HeartbeatsAreEnough}

-- ---- judgements

-- What is given up was to be looked at again.
given_up-again : (wait : LeaderWait) (now : ℕ) (limit : Option ℕ) (silent : ℕ)
    → judgement_on wait now limit ≡ GivenUp silent → wait.looks_again ≡ true
given_up-again wait now limit silent h = by (eqb left 0) wait.looks_again h
  where
    left : ℕ
    left = patience_left wait now limit

    by : (over again : Bool)
        → cond over (cond again (GivenUp (now - wait.heard)) SecondLook) (Wait (patience_left wait now limit)) ≡ GivenUp silent
        → again ≡ true
    by true true h = refl
    by true false h = cc
    by false again h = cc

second_look-is : (judgement : Judgement) → is_second_look judgement ≡ true → judgement ≡ SecondLook
second_look-is (Wait _) h = cc
second_look-is SecondLook h = refl
second_look-is (GivenUp _) h = cc

pub none_is_given_up_at_once : NoneIsGivenUpAtOnce
none_is_given_up_at_once start now limit silent h =
    let again : false ≡ true = given_up-again (new_wait start) now limit silent h in cc

wait_after-last : (wait : LeaderWait) (calls : List WaitCall) (call : WaitCall)
    → wait_after wait (calls ++ call ∷ []) ≡ wait_after_call (wait_after wait calls) call
wait_after-last wait [] call = refl
wait_after-last wait (first ∷ calls) call = wait_after-last (wait_after_call wait first) calls call

after_call : (wait : LeaderWait) (call : WaitCall) (now : ℕ) (limit : Option ℕ) (silent : ℕ)
    → judgement_on (wait_after_call wait call) now limit ≡ GivenUp silent → judgement_of_call wait call ≡ Some SecondLook
after_call wait (Hears heard) now limit silent h = absurd (none_is_given_up_at_once heard now limit silent h)
after_call wait (Judges then before) now limit silent h =
    ap Some (second_look-is (judgement_on wait then before)
    (given_up-again (after_judging wait then before) now limit silent h))

pub given_up_at_second_look : GivenUpAtSecondLook
given_up_at_second_look start calls call now limit silent h =
    let wait : LeaderWait = wait_after (new_wait start) calls in
    after_call wait call now limit silent
    (subst (λ (it : LeaderWait). judgement_on it now limit ≡ GivenUp silent) (wait_after-last (new_wait start) calls call) h)

-- Its patience is over.
judged-over : (wait : LeaderWait) (now limit : ℕ) → wait.heard + limit ≤ now
    → judgement_on wait now (Some limit) ≡ cond wait.looks_again (GivenUp (now - wait.heard)) SecondLook
judged-over wait now limit h =
    ap
    (λ (over : Bool). cond over (cond wait.looks_again (GivenUp (now - wait.heard)) SecondLook)
    (Wait (limit - (now - wait.heard))))
    (eq-eqb (limit - (now - wait.heard)) 0 (omega arith))

pub silent_is_given_up : SilentIsGivenUp
silent_is_given_up heard first second limit h later =
    let wait : LeaderWait = new_wait heard in
    let looks : judgement_on wait first (Some limit) ≡ SecondLook = judged-over wait first limit h in
    let again : (after_judging wait first (Some limit)).looks_again ≡ true = ap is_second_look looks in (
      looks,
      judged-over (after_judging wait first (Some limit)) second limit (omega arith)
          ∙ ap (λ (it : Bool). cond it (GivenUp (second - heard)) SecondLook) again,
    )

pub heard_is_kept : HeardIsKept
heard_is_kept heard now limit passed h =
    ap
    (λ (over : Bool). cond over SecondLook (Wait (limit - (now - heard))))
    (left limit (now - heard) (omega arith))
  where
    left : (limit silent : ℕ) → silent < limit → eqb (limit - silent) 0 ≡ false
    left limit silent h = grind (arith, nat_tests)

-- ---- limits

at_most : (ticks : Option ℕ) (limit most : ℕ) → limit ≤ most → LimitIsAtMost (lesser_limit ticks (Some limit)) most
at_most None limit most h = (limit, refl, h)
at_most (Some ticks) limit most h = (min ticks limit, refl, omega arith)

pub none_is_served_past_its_session : NoneIsServedPastItsSession
none_is_served_past_its_session tick init_limit sync_limit timeout h =
    at_most (limit_in_ticks tick sync_limit) (max (timeout * 3 / 4) (min (tick + tick / 2) (2 ^ 64 - 1))) (timeout * 3 / 4)
    (omega arith)

lesser-at_least : (ticks least : ℕ) (sessions : Option ℤ) (tick : ℕ) → least ≤ ticks → least ≤ min (tick + tick / 2) greatest_time
    → IfSome (lesser_limit (Some ticks) (limit_by_sessions tick sessions)) (λ limit. least ≤ limit)
lesser-at_least ticks least None tick h half = h
lesser-at_least ticks least (Some timeout) tick h half = omega arith

pub heartbeats_are_enough : HeartbeatsAreEnough
heartbeats_are_enough tick init_limit sync_limit least_timeout h more =
    let some : eqb sync_limit 0 ≡ false = no-eqb sync_limit more in
    let ticks : limit_in_ticks tick sync_limit ≡ Some (min (tick * sync_limit) greatest_time) =
    ap (λ (none : Bool). cond none None (Some (min (tick * sync_limit) greatest_time))) some in
    let two : tick * 2 ≤ tick * sync_limit = mul-le-mul_left tick more in
    subst (λ (it : Option ℕ).
    IfSome (lesser_limit it (limit_by_sessions tick least_timeout)) (λ limit. 3 * tick / 2 ≤ limit)) (sym ticks)
    (lesser-at_least (min (tick * sync_limit) greatest_time) (3 * tick / 2) least_timeout tick (omega arith) (omega arith))
  where
    no-eqb : (n : ℕ) → 2 ≤ n → eqb n 0 ≡ false
    no-eqb n h = grind (arith, nat_tests)
