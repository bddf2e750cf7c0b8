-- Which server is tried next, and how long to pause before. Times are in milliseconds.
use Rattle.std.specs.Prelude.{ℕ, ℤ, ◌<◌, ◌≤◌, ◌+◌, ◌*◌, ◌/◌, ◌%◌, Bool, ◌&&◌, ◌==◌, nat_le, min, unsigned_abs, Option, Some, None, if◌then◌else◌}
use Rattle.following.specs.declared.finding.Outcome.{Outcome}
use Rattle.following.specs.declared.finding.Outcome.TheVariants.{NotLeading, Ended, Silent, Refused}
use Rattle.following.specs.declared.finding.Candidate.{Candidate}

pub record LeaderSearch : Type 0 where
  -- the servers, which are numbered from 0 on, and the id of the one that searches
  pub count : ℕ
  pub server_id : ℕ
  -- the server to be tried, and the pause before
  pub next : ℕ
  pub pause : ℕ
  -- the tries of this round, all of which failed, and the pause after it if the others fail too
  pub failed : ℕ
  pub round_pause : ℕ
  -- the servers that were refused since clients were served
  pub refusals : ℕ

-- ---- bounds

abbrev pub least_pause : ℕ
least_pause = 100

abbrev pub longest_pause : ℕ
longest_pause = 2000

-- Served for so long, a leader counts as found for good.
abbrev pub long_service : ℕ
long_service = 10000

-- After so many refusals in a row none is tried any more.
abbrev pub refusal_limit : ℕ
refusal_limit = 5

pub record IsSearch (search : LeaderSearch) : Type 0 where
  pub some : 1 ≤ search.count
  pub few : search.count ≤ 64
  pub id : search.server_id ≤ 255
  pub within : search.next < search.count
  pub unfinished : search.failed < search.count
  pub pause : search.pause ≤ longest_pause
  pub short : least_pause ≤ search.round_pause
  pub long : search.round_pause ≤ longest_pause
  pub refusals : search.refusals ≤ refusal_limit

abbrev pub is_server_count : ℕ → Bool
is_server_count count = nat_le 1 count && nat_le count 64

-- ---- what is tried

-- A server's own part of each pause, up to a tenth of it, so that servers that lost one leader don't search in step.
abbrev pub with_jitter : ℕ → ℕ → ℕ
with_jitter pause server_id = pause + pause * server_id / 2550

abbrev pub candidate_of : LeaderSearch → Candidate
candidate_of search = record { server = search.next; pause = with_jitter search.pause search.server_id }

abbrev pub is_hopeless : LeaderSearch → Bool
is_hopeless search = nat_le refusal_limit search.refusals

-- ---- what becomes of it

abbrev pub first_search : ℕ → ℕ → LeaderSearch
first_search count server_id =
    record {
      count = count;
      server_id = server_id;
      next = 0;
      pause = 0;
      failed = 0;
      round_pause = least_pause;
      refusals = 0;
    }

abbrev pub new_search : ℕ → ℤ → Option LeaderSearch
new_search count server_id =
    if is_server_count count then Some (first_search count (unsigned_abs server_id)) else None

abbrev pub following_server : ℕ → ℕ → ℕ
following_server count server = (server + 1) % count

abbrev pub longer_pause : ℕ → ℕ
longer_pause pause = min (pause * 3 / 2) longest_pause

-- A try that fails is followed by the next one at once, but the last one of a round by a pause.
abbrev pub after_failure : LeaderSearch → LeaderSearch
after_failure search =
    if search.failed + 1 == search.count
    then record search { failed = 0; pause = search.round_pause; round_pause = longer_pause search.round_pause }
    else record search { failed = search.failed + 1; pause = 0 }

abbrev pub after_refusal : LeaderSearch → LeaderSearch
after_refusal search =
    record (after_failure search) { pause = search.round_pause; refusals = min (search.refusals + 1) refusal_limit }

-- A leader that was lost after it served for long is followed by the next try at once; one that hardly served, by the
-- least pause, so that one that ends again and again isn't tried in haste.
abbrev pub pause_after_service : ℕ → ℕ
pause_after_service served = if nat_le long_service served then 0 else least_pause

abbrev pub after_service : LeaderSearch → ℕ → LeaderSearch
after_service search served =
    record search {
      pause = pause_after_service served;
      failed = 0;
      round_pause = (if nat_le long_service served then least_pause else search.round_pause);
      refusals = 0;
    }

-- For how long clients were served.
abbrev pub service_of : Outcome → ℕ
service_of NotLeading = 0
service_of (Ended served) = served
service_of (Silent served) = served
service_of Refused = 0

abbrev pub after_try : LeaderSearch → Outcome → LeaderSearch
after_try search Refused = after_refusal search
after_try search outcome =
    if service_of outcome == 0 then after_failure search else after_service search (service_of outcome)

-- The next try is at the server after the one that was tried.
abbrev pub after_outcome : LeaderSearch → ℕ → Outcome → LeaderSearch
after_outcome search server outcome =
    record (after_try search outcome) { next = following_server search.count server }
