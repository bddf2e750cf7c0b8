-- What holds of each search, over a list of outcomes: each is that of the server which was to be tried.
use Rattle.std.specs.Prelude.{◌≡◌, ℕ, ◌<◌, ◌≤◌, ◌+◌, ◌*◌, Bool, true, false, nat_le, List, [], ◌∷◌, ◌++◌, length, replicate, sum, count_by, IsPermutation}
use Rattle.std.specs.List.{range_with_len, AllByRecursion}
use Rattle.following.specs.declared.finding.Outcome.{Outcome}
use Rattle.following.specs.declared.finding.Outcome.TheVariants.{NotLeading, Ended, Silent, Refused}
use Rattle.following.specs.Finding.{LeaderSearch, IsSearch, least_pause, longest_pause, long_service, refusal_limit, with_jitter, longer_pause, first_search, candidate_of, after_outcome, service_of, is_hopeless}

abbrev pub search_after : LeaderSearch → List Outcome → LeaderSearch
search_after search [] = search
search_after search (outcome ∷ outcomes) = search_after (after_outcome search search.next outcome) outcomes

abbrev pub tried_servers : LeaderSearch → List Outcome → List ℕ
tried_servers search [] = []
tried_servers search (outcome ∷ outcomes) =
    search.next ∷ tried_servers (after_outcome search search.next outcome) outcomes

abbrev pub pause_before : LeaderSearch → ℕ
pause_before search = (candidate_of search).pause

-- The pause that each outcome is followed by.
abbrev pub pauses_after : LeaderSearch → List Outcome → List ℕ
pauses_after search [] = []
pauses_after search (outcome ∷ outcomes) =
    let next = after_outcome search search.next outcome in pause_before next ∷ pauses_after next outcomes

-- Nobody was served.
abbrev pub IsVain : Outcome → Type 0
IsVain outcome = service_of outcome ≡ 0

abbrev pub is_refusal : Outcome → Bool
is_refusal NotLeading = false
is_refusal (Ended _) = false
is_refusal (Silent _) = false
is_refusal Refused = true

-- ---- rounds

-- As many tries as there are servers try each of them once, whatever comes of them.
abbrev pub EachRoundTriesEach : Type 0
EachRoundTriesEach =
    (search : LeaderSearch) (outcomes : List Outcome) → IsSearch search → length outcomes ≡ search.count
    → IsPermutation (range_with_len 0 search.count) (tried_servers search outcomes)

-- Whatever came of a server, one that was lost by silence too, it is the last of the round that follows.
abbrev pub LostIsTriedLast : Type 0
LostIsTriedLast =
    (search : LeaderSearch) (outcome : Outcome) (outcomes : List Outcome) → IsSearch search
    → length outcomes ≡ search.count
    → (others : List ℕ)
    × (tried_servers (after_outcome search search.next outcome) outcomes ≡ others ++ search.next ∷ [])

-- ---- pauses

-- No pause is longer than the longest one and a tenth.
abbrev pub PausesAreBounded : Type 0
PausesAreBounded =
    (search : LeaderSearch) (outcomes : List Outcome) → IsSearch search
    → AllByRecursion (λ pause. 10 * pause ≤ 11 * longest_pause) (pauses_after search outcomes)

-- Nothing is tried in haste: as many tries as there are servers, in which nobody was served, cost a pause.
abbrev pub RoundsInVainPause : Type 0
RoundsInVainPause =
    (search : LeaderSearch) (outcomes : List Outcome) → IsSearch search → length outcomes ≡ search.count
    → AllByRecursion IsVain outcomes → least_pause ≤ sum (pauses_after search outcomes)

-- The pause after a round in vain, and the next round begins: its pause would be half as long again.
pub record EndsInVain (search next : LeaderSearch) : Type 0 where
  pub pause : next.pause ≡ search.round_pause
  pub longer : next.round_pause ≡ longer_pause search.round_pause
  pub anew : next.failed ≡ 0

abbrev pub RoundsInVainGrow : Type 0
RoundsInVainGrow =
    (search : LeaderSearch) (outcomes : List Outcome) → IsSearch search → search.failed ≡ 0
    → length outcomes ≡ search.count → AllByRecursion IsVain outcomes
    → EndsInVain search (search_after search outcomes)

-- The pauses of a server that is tried alone, and is served twice in between: for less than ten seconds, and for ten.
abbrev pub PausesAreWorked : Type 0
PausesAreWorked =
    (pauses_after (first_search 1 1) (replicate 10 NotLeading)
    ≡ 100 ∷ 150 ∷ 225 ∷ 337 ∷ 505 ∷ 757 ∷ 1135 ∷ 1702 ∷ 2000 ∷ 2000 ∷ [])
    × (pauses_after (first_search 1 1)
    (NotLeading ∷ NotLeading ∷ Ended 9999 ∷ NotLeading ∷ Silent 10000 ∷ NotLeading ∷ [])
    ≡ 100 ∷ 150 ∷ 100 ∷ 225 ∷ 0 ∷ 100 ∷ [])

-- After a leader that served clients for long the search goes on at once, and after one that hardly did, after the
-- least pause.
pub record ServedGoesOn : Type 0 where
  pub long : (search : LeaderSearch) (server : ℕ) (outcome : Outcome) → long_service ≤ service_of outcome
      → pause_before (after_outcome search server outcome) ≡ 0
  pub brief : (search : LeaderSearch) (server : ℕ) (outcome : Outcome) → 0 < service_of outcome
      → service_of outcome < long_service
      → pause_before (after_outcome search server outcome) ≡ with_jitter least_pause search.server_id

-- A pause and the part that is a server's own: up to a tenth, and more for a greater id.
abbrev pub JitterIsATenth : Type 0
JitterIsATenth =
    (pause id : ℕ) → id ≤ 255
    → (pause ≤ with_jitter pause id) × (10 * with_jitter pause id ≤ 11 * pause)

-- ---- refusals

-- While nobody is served it is hopeless exactly if five servers were refused.
abbrev pub HopelessAfterFive : Type 0
HopelessAfterFive =
    (search : LeaderSearch) (outcomes : List Outcome) → IsSearch search → AllByRecursion IsVain outcomes
    → is_hopeless (search_after search outcomes)
    ≡ nat_le refusal_limit (search.refusals + count_by is_refusal outcomes)

-- A leader that was served begins the count anew.
abbrev pub ServedBeginsAnew : Type 0
ServedBeginsAnew =
    (search : LeaderSearch) (server : ℕ) (outcome : Outcome) → 0 < service_of outcome
    → (after_outcome search server outcome).refusals ≡ 0
