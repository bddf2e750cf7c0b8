-- Refusals in a row.
use Rattle.std.proofs.Common.{◌≡◌, ℕ, ◌+◌, ◌<◌, ◌≤◌, Bool, true, false, cond, eqb, leb, min, List, [], ◌∷◌, refl, ◌∙◌, ap, arith, eq-eqb}
use Rattle.std.specs.Prelude.{count_by}
use Rattle.std.specs.List.{AllByRecursion}
use Rattle.std.proofs.lemmas.List.Sums.{sum_by-cons}
use Rattle.std.proofs.lemmas.Bool.Decides.{nat_tests}
use Rattle.following.specs.declared.finding.Outcome.{Outcome}
use Rattle.following.specs.declared.finding.Outcome.TheVariants.{NotLeading, Ended, Silent, Refused}
use Rattle.following.specs.Finding.{LeaderSearch, refusal_limit, longer_pause, after_outcome, after_try, after_failure, after_service}
use Rattle.following.specs.Searches.{search_after, is_refusal, IsVain, HopelessAfterFive, ServedBeginsAnew}

abbrev refusal_count : Outcome → ℕ
refusal_count outcome = cond (is_refusal outcome) 1 0

failed_refusals : (search : LeaderSearch) → (after_failure search).refusals ≡ search.refusals
failed_refusals search = by (eqb (search.failed + 1) search.count)
  where
    by : (b : Bool) → (cond b
        (record search { failed = 0; pause = search.round_pause; round_pause = longer_pause search.round_pause })
        (record search { failed = search.failed + 1; pause = 0 })).refusals ≡ search.refusals
    by true = refl
    by false = refl

vain_service : (search : LeaderSearch) (served : ℕ) → served ≡ 0
    → (cond (eqb served 0) (after_failure search) (after_service search served)).refusals ≡ search.refusals
vain_service search served vain =
    ap (λ (b : Bool). (cond b (after_failure search) (after_service search served)).refusals) (eq-eqb served 0 vain)
    ∙ failed_refusals search

vain_refusals : (search : LeaderSearch) (outcome : Outcome) → search.refusals ≤ refusal_limit → IsVain outcome
    → (after_try search outcome).refusals ≡ min (search.refusals + refusal_count outcome) refusal_limit
vain_refusals search NotLeading h vain = let same = failed_refusals search in omega arith
vain_refusals search (Ended served) h vain = vain_service search served vain ∙ omega arith
vain_refusals search (Silent served) h vain = vain_service search served vain ∙ omega arith
vain_refusals search Refused h vain = refl

refusals_after : (search : LeaderSearch) (outcomes : List Outcome) → search.refusals ≤ refusal_limit
    → AllByRecursion IsVain outcomes
    → (search_after search outcomes).refusals ≡ min (search.refusals + count_by is_refusal outcomes) refusal_limit
refusals_after search [] h vain = omega arith
refusals_after search (outcome ∷ outcomes) h vain =
    let next : LeaderSearch = after_outcome search search.next outcome in
    let one : next.refusals ≡ min (search.refusals + refusal_count outcome) refusal_limit =
    vain_refusals search outcome h vain.0 in
    let others : (search_after next outcomes).refusals ≡ min (next.refusals + count_by is_refusal outcomes) refusal_limit =
    refusals_after next outcomes (omega arith) vain.1 in
    let all : count_by is_refusal (outcome ∷ outcomes) ≡ refusal_count outcome + count_by is_refusal outcomes =
    sum_by-cons refusal_count outcome outcomes in
    omega arith

enough : (n : ℕ) → leb refusal_limit (min n refusal_limit) ≡ leb refusal_limit n
enough n = grind (arith, nat_tests)

pub hopeless_after_five : HopelessAfterFive
hopeless_after_five search outcomes is vain =
    ap (leb refusal_limit) (refusals_after search outcomes is.refusals vain)
    ∙ enough (search.refusals + count_by is_refusal outcomes)

anew : (search : LeaderSearch) (served : ℕ) → 0 < served
    → (cond (eqb served 0) (after_failure search) (after_service search served)).refusals ≡ 0
anew search served h =
    ap (λ (b : Bool). (cond b (after_failure search) (after_service search served)).refusals) (more-neqb served h)
  where
    more-neqb : (n : ℕ) → 0 < n → eqb n 0 ≡ false
    more-neqb n h = grind (arith, nat_tests)

pub served_begins_anew : ServedBeginsAnew
served_begins_anew search server NotLeading h = absurd (omega arith)
served_begins_anew search server (Ended served) h = anew search served h
served_begins_anew search server (Silent served) h = anew search served h
served_begins_anew search server Refused h = absurd (omega arith)
