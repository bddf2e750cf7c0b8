-- Pauses, and their bounds.
use Rattle.std.proofs.Common.{◌≡◌, ℕ, ◌+◌, ◌*◌, ◌/◌, ◌<◌, ◌≤◌, Bool, true, false, cond, eqb, leb, min, List, [], ◌∷◌, length, sum, refl, sym, ◌∙◌, ap, subst, arith, eq-eqb, zero-mul}
use Rattle.std.specs.List.{AllByRecursion}
use Rattle.std.proofs.Math.Nat.{mul-div-le, mul-le-mul_left, mod-lt}
use Rattle.std.proofs.lemmas.List.Sums.{sum_by-cons}
use Rattle.std.proofs.lemmas.Bool.Decides.{nat_tests}
use Rattle.following.specs.declared.finding.Outcome.{Outcome}
use Rattle.following.specs.declared.finding.Outcome.TheVariants.{NotLeading, Ended, Silent, Refused}
use Rattle.following.specs.Finding.{LeaderSearch, IsSearch, least_pause, longest_pause, refusal_limit, long_service, longer_pause, with_jitter, after_outcome, after_try, after_failure, after_refusal, after_service, following_server, service_of}
use Rattle.following.proofs.Rounds.{tried_count}
use Rattle.following.specs.Searches.{search_after, pause_before, pauses_after, IsVain, EndsInVain, PausesAreBounded, RoundsInVainPause, RoundsInVainGrow, ServedGoesOn, JitterIsATenth}

pub jitter_is_a_tenth : JitterIsATenth
jitter_is_a_tenth pause id h =
    let low : 2550 * (pause * id / 2550) ≤ pause * id = mul-div-le (pause * id) 2550 in
    let high : pause * id ≤ pause * 255 = mul-le-mul_left pause h in
    (omega arith, omega arith)

-- ---- a search keeps its bounds

failed_keeps : (search : LeaderSearch) → IsSearch search → IsSearch (after_failure search)
failed_keeps search is = by (eqb (search.failed + 1) search.count) refl
  where
    by : (b : Bool) → eqb (search.failed + 1) search.count ≡ b
        → IsSearch (cond b
        (record search { failed = 0; pause = search.round_pause; round_pause = longer_pause search.round_pause })
        (record search { failed = search.failed + 1; pause = 0 }))
    by true e =
        record {
          some = is.some;
          few = is.few;
          id = is.id;
          within = is.within;
          unfinished = omega arith;
          pause = is.long;
          short = omega arith;
          long = omega arith;
          refusals = is.refusals;
        }
    by false e =
        record {
          some = is.some;
          few = is.few;
          id = is.id;
          within = is.within;
          unfinished = grind (arith, nat_tests);
          pause = omega arith;
          short = is.short;
          long = is.long;
          refusals = is.refusals;
        }

refused_keeps : (search : LeaderSearch) → IsSearch search → IsSearch (after_refusal search)
refused_keeps search is =
    let failed : IsSearch (after_failure search) = failed_keeps search is in
    record {
      some = failed.some;
      few = failed.few;
      id = failed.id;
      within = failed.within;
      unfinished = failed.unfinished;
      pause = is.long;
      short = failed.short;
      long = failed.long;
      refusals = omega arith;
    }

served_keeps : (search : LeaderSearch) (served : ℕ) → IsSearch search → IsSearch (after_service search served)
served_keeps search served is =
    record {
      some = is.some;
      few = is.few;
      id = is.id;
      within = is.within;
      unfinished = omega arith;
      pause = pause (leb long_service served);
      short = short (leb long_service served);
      long = long (leb long_service served);
      refusals = omega arith;
    }
  where
    pause : (b : Bool) → cond b 0 least_pause ≤ longest_pause
    pause true = omega arith
    pause false = omega arith

    short : (b : Bool) → least_pause ≤ cond b least_pause search.round_pause
    short true = omega arith
    short false = is.short

    long : (b : Bool) → cond b least_pause search.round_pause ≤ longest_pause
    long true = omega arith
    long false = is.long

one_keeps : (b : Bool) (one other : LeaderSearch) → IsSearch one → IsSearch other → IsSearch (cond b one other)
one_keeps true one other p q = p
one_keeps false one other p q = q

tried_keeps : (search : LeaderSearch) (outcome : Outcome) → IsSearch search → IsSearch (after_try search outcome)
tried_keeps search NotLeading is = failed_keeps search is
tried_keeps search (Ended served) is =
    one_keeps (eqb served 0) _ _ (failed_keeps search is) (served_keeps search served is)
tried_keeps search (Silent served) is =
    one_keeps (eqb served 0) _ _ (failed_keeps search is) (served_keeps search served is)
tried_keeps search Refused is = refused_keeps search is

pub outcome_keeps : (search : LeaderSearch) (server : ℕ) (outcome : Outcome) → IsSearch search
    → IsSearch (after_outcome search server outcome)
outcome_keeps search server outcome is =
    let tried : IsSearch (after_try search outcome) = tried_keeps search outcome is in
    record {
      some = tried.some;
      few = tried.few;
      id = tried.id;
      within =
          subst (λ (count : ℕ). following_server search.count server < count) (sym (tried_count search outcome))
          (mod-lt (server + 1) (omega arith));
      unfinished = tried.unfinished;
      pause = tried.pause;
      short = tried.short;
      long = tried.long;
      refusals = tried.refusals;
    }

-- ---- bounds

pause_is_bounded : (search : LeaderSearch) → IsSearch search → 10 * pause_before search ≤ 11 * longest_pause
pause_is_bounded search is =
    let most : 10 * with_jitter search.pause search.server_id ≤ 11 * search.pause =
    (jitter_is_a_tenth search.pause search.server_id is.id).1 in
    omega arith

pub pauses_are_bounded : PausesAreBounded
pauses_are_bounded search [] is = tt
pauses_are_bounded search (outcome ∷ outcomes) is =
    let next : LeaderSearch = after_outcome search search.next outcome in
    let kept : IsSearch next = outcome_keeps search search.next outcome is in
    (pause_is_bounded next kept, pauses_are_bounded next outcomes kept)

-- ---- rounds in vain

-- The round goes on.
record GoesOn (search next : LeaderSearch) : Type 0 where
  failed : next.failed ≡ search.failed + 1
  pause : next.round_pause ≡ search.round_pause

-- The last try of a round, or another one.
abbrev EndsOrGoesOn : Bool → LeaderSearch → LeaderSearch → Type 0
EndsOrGoesOn true search next = EndsInVain search next
EndsOrGoesOn false search next = GoesOn search next

abbrev is_last : LeaderSearch → Bool
is_last search = eqb (search.failed + 1) search.count

abbrev failed_by : LeaderSearch → Bool → LeaderSearch
failed_by search last =
    cond last
    (record search { failed = 0; pause = search.round_pause; round_pause = longer_pause search.round_pause })
    (record search { failed = search.failed + 1; pause = 0 })

failed_on : (search : LeaderSearch) (last : Bool) → EndsOrGoesOn last search (failed_by search last)
failed_on search true = record { pause = refl; longer = refl; anew = refl }
failed_on search false = record { failed = refl; pause = refl }

refused_on : (search : LeaderSearch) (last : Bool)
    → EndsOrGoesOn last search (record (failed_by search last)
    { pause = search.round_pause; refusals = min (search.refusals + 1) refusal_limit })
refused_on search true = record { pause = refl; longer = refl; anew = refl }
refused_on search false = record { failed = refl; pause = refl }

unserved_on : (search : LeaderSearch) (served : ℕ) → served ≡ 0
    → EndsOrGoesOn (is_last search) search (cond (eqb served 0) (after_failure search) (after_service search served))
unserved_on search served vain =
    subst
    (λ (b : Bool). EndsOrGoesOn (is_last search) search (cond b (after_failure search) (after_service search served)))
    (sym (eq-eqb served 0 vain)) (failed_on search (is_last search))

tried_on : (search : LeaderSearch) (outcome : Outcome) → IsVain outcome
    → EndsOrGoesOn (is_last search) search (after_try search outcome)
tried_on search NotLeading vain = failed_on search (is_last search)
tried_on search (Ended served) vain = unserved_on search served vain
tried_on search (Silent served) vain = unserved_on search served vain
tried_on search Refused vain = refused_on search (is_last search)

-- The next server is of no matter here.
moved_on : (search next : LeaderSearch) (server : ℕ) (last : Bool) → EndsOrGoesOn last search next
    → EndsOrGoesOn last search (record next { next = server })
moved_on search next server true h = record { pause = h.pause; longer = h.longer; anew = h.anew }
moved_on search next server false h = record { failed = h.failed; pause = h.pause }

vain_on : (search : LeaderSearch) (outcome : Outcome) → IsVain outcome
    → EndsOrGoesOn (is_last search) search (after_outcome search search.next outcome)
vain_on search outcome vain =
    moved_on search (after_try search outcome) (following_server search.count search.next) (is_last search)
    (tried_on search outcome vain)

-- The rest of a round, or more.
rest_pauses : (search : LeaderSearch) (outcomes : List Outcome) → IsSearch search
    → search.count ≤ search.failed + length outcomes → AllByRecursion IsVain outcomes
    → least_pause ≤ sum (pauses_after search outcomes)
rest_pauses search [] is long vain = absurd (omega arith)
rest_pauses search (outcome ∷ outcomes) is long vain =
    let next : LeaderSearch = after_outcome search search.next outcome in
    let kept : IsSearch next = outcome_keeps search search.next outcome is in
    let all : sum (pauses_after search (outcome ∷ outcomes)) ≡ pause_before next + sum (pauses_after next outcomes) =
    sum_by-cons (λ it. it) (pause_before next) (pauses_after next outcomes) in
    let part : next.pause ≤ pause_before next = (jitter_is_a_tenth next.pause next.server_id kept.id).0 in
    let same : next.count ≡ search.count = tried_count search outcome in
    let rest : next.count ≤ next.failed + length outcomes → least_pause ≤ sum (pauses_after next outcomes) =
    λ more. rest_pauses next outcomes kept more vain.1 in
    by next all part same rest (is_last search) (vain_on search outcome vain.0)
  where
    by : (next : LeaderSearch)
        → sum (pauses_after search (outcome ∷ outcomes)) ≡ pause_before next + sum (pauses_after next outcomes)
        → next.pause ≤ pause_before next → next.count ≡ search.count
        → (next.count ≤ next.failed + length outcomes → least_pause ≤ sum (pauses_after next outcomes))
        → (last : Bool) → EndsOrGoesOn last search next
        → least_pause ≤ sum (pauses_after search (outcome ∷ outcomes))
    by next all part same rest true over =
        let enough : least_pause ≤ search.round_pause = is.short in let pause = over.pause in omega arith
    by next all part same rest false on =
        let failed = on.failed in
        let more : least_pause ≤ sum (pauses_after next outcomes) = rest (omega arith) in omega arith

pub rounds_in_vain_pause : RoundsInVainPause
rounds_in_vain_pause search outcomes is n vain = rest_pauses search outcomes is (omega arith) vain

-- The rest of a round.
rest_grows : (search : LeaderSearch) (outcome : Outcome) (outcomes : List Outcome)
    → search.failed + length (outcome ∷ outcomes) ≡ search.count → AllByRecursion IsVain (outcome ∷ outcomes)
    → EndsInVain search (search_after search (outcome ∷ outcomes))
rest_grows search outcome [] n vain =
    let last : is_last search ≡ true = eq-eqb (search.failed + 1) search.count (omega arith) in
    subst (λ (b : Bool). EndsOrGoesOn b search (after_outcome search search.next outcome)) last
    (vain_on search outcome vain.0)
rest_grows search outcome (second ∷ outcomes) n vain =
    let next : LeaderSearch = after_outcome search search.next outcome in
    let more : is_last search ≡ false = not_last (length outcomes) (omega arith) in
    let on : GoesOn search next =
    subst (λ (b : Bool). EndsOrGoesOn b search next) more (vain_on search outcome vain.0) in
    let failed = on.failed in
    let same : next.count ≡ search.count = tried_count search outcome in
    let rest : EndsInVain next (search_after next (second ∷ outcomes)) =
    rest_grows next second outcomes (omega arith) vain.1 in
    record {
      pause = rest.pause ∙ on.pause;
      longer = rest.longer ∙ ap longer_pause on.pause;
      anew = rest.anew;
    }
  where
    not_last : (n : ℕ) → search.failed + 1 < search.count → is_last search ≡ false
    not_last n h = grind (arith, nat_tests)

pub rounds_in_vain_grow : RoundsInVainGrow
rounds_in_vain_grow search [] is fresh n vain = absurd (let some = is.some in omega arith)
rounds_in_vain_grow search (outcome ∷ outcomes) is fresh n vain = rest_grows search outcome outcomes (omega arith) vain

-- ---- served

abbrev HasPause : ℕ → LeaderSearch → Type 0
HasPause pause search = with_jitter search.pause search.server_id ≡ pause

served_on : (search : LeaderSearch) (served pause : ℕ) → 0 < served → HasPause pause (after_service search served)
    → HasPause pause (cond (eqb served 0) (after_failure search) (after_service search served))
served_on search served pause some h =
    subst
    (λ (b : Bool). HasPause pause (cond b (after_failure search) (after_service search served)))
    (sym (more-neqb served some)) h
  where
    more-neqb : (n : ℕ) → 0 < n → eqb n 0 ≡ false
    more-neqb n h = grind (arith, nat_tests)

long_on : (search : LeaderSearch) (served : ℕ) → long_service ≤ served → HasPause 0 (after_service search served)
long_on search served h =
    subst (λ (b : Bool). with_jitter (cond b 0 least_pause) search.server_id ≡ 0) (sym (long served h)) none
  where
    long : (n : ℕ) → long_service ≤ n → leb long_service n ≡ true
    long n h = grind (arith, nat_tests)

    none : 0 + 0 * search.server_id / 2550 ≡ 0
    none = rw zero-mul refl

brief_on : (search : LeaderSearch) (served : ℕ) → served < long_service
    → HasPause (with_jitter least_pause search.server_id) (after_service search served)
brief_on search served h =
    subst
    (λ (b : Bool). with_jitter (cond b 0 least_pause) search.server_id ≡ with_jitter least_pause search.server_id)
    (sym (brief served h)) refl
  where
    brief : (n : ℕ) → n < long_service → leb long_service n ≡ false
    brief n h = grind (arith, nat_tests)

pub served_goes_on : ServedGoesOn
served_goes_on = record { long = long; brief = brief }
  where
    long : (search : LeaderSearch) (server : ℕ) (outcome : Outcome) → long_service ≤ service_of outcome
        → pause_before (after_outcome search server outcome) ≡ 0
    long search server NotLeading h = absurd (omega arith)
    long search server (Ended served) h = served_on search served 0 (omega arith) (long_on search served h)
    long search server (Silent served) h = served_on search served 0 (omega arith) (long_on search served h)
    long search server Refused h = absurd (omega arith)

    brief : (search : LeaderSearch) (server : ℕ) (outcome : Outcome) → 0 < service_of outcome
        → service_of outcome < long_service
        → pause_before (after_outcome search server outcome) ≡ with_jitter least_pause search.server_id
    brief search server NotLeading some h = absurd (omega arith)
    brief search server (Ended served) some h =
        served_on search served (with_jitter least_pause search.server_id) some (brief_on search served h)
    brief search server (Silent served) some h =
        served_on search served (with_jitter least_pause search.server_id) some (brief_on search served h)
    brief search server Refused some h = absurd (omega arith)
