-- Rounds: each server once.
use Rattle.std.proofs.Common.{◌≡◌, ℕ, zero, suc, ◌+◌, ◌-◌, ◌%◌, ◌<◌, ◌≤◌, Bool, true, false, cond, eqb, List, [], ◌∷◌, ◌++◌, length, refl, sym, ◌∙◌, ap, subst, arith, add-zero, zero-add, suc-add}
use Rattle.std.specs.List.{range_with_len}
use Rattle.std.specs.List.Sorted.{IsPermutation}
use Rattle.std.proofs.lemmas.List.Sorted.{IsPermutation-append_comm}
use Rattle.std.proofs.Math.Nat.{mod-add-mod, mod-eq_of_lt, mod_self, add-mod_right, mod-lt}
use Rattle.following.specs.declared.finding.Outcome.{Outcome}
use Rattle.following.specs.declared.finding.Outcome.TheVariants.{NotLeading, Ended, Silent, Refused}
use Rattle.following.specs.Finding.{LeaderSearch, after_outcome, after_try, after_failure, after_service, following_server}
use Rattle.following.specs.Searches.{tried_servers, EachRoundTriesEach, LostIsTriedLast}

-- So many servers in turn, from this one on.
abbrev pub turn_from : ℕ → ℕ → ℕ → List ℕ
turn_from count server zero = []
turn_from count server (suc n) = server ∷ turn_from count (following_server count server) n

-- ---- what stays

one_of : (b : Bool) (search one other : LeaderSearch) → one.count ≡ search.count → other.count ≡ search.count
    → (cond b one other).count ≡ search.count
one_of true search one other p q = p
one_of false search one other p q = q

failed_count : (search : LeaderSearch) → (after_failure search).count ≡ search.count
failed_count search = one_of (eqb (search.failed + 1) search.count) search _ _ refl refl

pub tried_count : (search : LeaderSearch) (outcome : Outcome) → (after_try search outcome).count ≡ search.count
tried_count search NotLeading = failed_count search
tried_count search (Ended served) =
    one_of (eqb served 0) search (after_failure search) (after_service search served) (failed_count search) refl
tried_count search (Silent served) =
    one_of (eqb served 0) search (after_failure search) (after_service search served) (failed_count search) refl
tried_count search Refused = failed_count search

pub tried_servers-turn : (search : LeaderSearch) (outcomes : List Outcome)
    → tried_servers search outcomes ≡ turn_from search.count search.next (length outcomes)
tried_servers-turn search [] = refl
tried_servers-turn search (outcome ∷ outcomes) =
    ap (λ servers. search.next ∷ servers)
    (tried_servers-turn (after_outcome search search.next outcome) outcomes
    ∙ ap (λ count. turn_from count (following_server search.count search.next) (length outcomes))
    (tried_count search outcome))

-- ---- turns

-- The servers of a turn, and those behind it.
turn_from-add : (count server n m : ℕ) → server < count
    → turn_from count server (n + m) ≡ turn_from count server n ++ turn_from count ((server + n) % count) m
turn_from-add count server zero m h =
    let same : (server + 0) % count ≡ server = ap (λ it. it % count) (add-zero server) ∙ mod-eq_of_lt h in
    ap (turn_from count server) (zero-add m) ∙ ap (λ it. turn_from count it m) (sym same)
turn_from-add count server (suc n) m h =
    let next : ℕ = following_server count server in
    let there : (next + n) % count ≡ (server + suc n) % count =
    mod-add-mod (server + 1) count n ∙ ap (λ it. it % count) (steps server n) in
    let within : next < count = mod-lt (server + 1) (omega arith) in
    ap (turn_from count server) (suc-add n m)
    ∙ ap (λ servers. server ∷ servers)
    (turn_from-add count next n m within ∙ ap (λ it. turn_from count next n ++ turn_from count it m) there)
  where
    steps : (server n : ℕ) → server + 1 + n ≡ server + suc n
    steps server n = omega arith

-- A turn that doesn't pass the last server.
turn_from-range : (count server n : ℕ) → server + n ≤ count → turn_from count server n ≡ range_with_len server n
turn_from-range count server zero h = refl
turn_from-range count server (suc zero) h = refl
turn_from-range count server (suc (suc n)) h =
    let next : following_server count server ≡ server + 1 = mod-eq_of_lt (omega arith) in
    ap (λ servers. server ∷ servers)
    (ap (λ it. turn_from count it (suc n)) next ∙ turn_from-range count (server + 1) (suc n) (omega arith))

-- A whole round: to the last server, and on from the first one.
round-ranges : (count server : ℕ) → server < count
    → turn_from count server count ≡ range_with_len server (count - server) ++ range_with_len 0 server
round-ranges count server h =
    let behind : ℕ = count - server in
    let whole : behind + server ≡ count = omega arith in
    let at : (server + behind) % count ≡ 0 =
    ap (λ it. it % count) (let e : server + behind ≡ count = omega arith in e) ∙ mod_self count in
    ap (turn_from count server) (sym whole)
    ∙ turn_from-add count server behind server h
    ∙ ap (λ it. turn_from count server behind ++ turn_from count it server) at
    ∙ ap (λ servers. servers ++ turn_from count 0 server) (turn_from-range count server behind (omega arith))
    ∙ ap (λ servers. range_with_len server behind ++ servers) (turn_from-range count 0 server (omega arith))

-- All servers: those before one, and those from it on.
ranges : (first k n : ℕ) → range_with_len first (k + n) ≡ range_with_len first k ++ range_with_len (first + k) n
ranges first zero n = ap (range_with_len first) (zero-add n) ∙ ap (λ it. range_with_len it n) (sym (add-zero first))
ranges first (suc k) n =
    ap (range_with_len first) (suc-add k n)
    ∙ ap (λ servers. first ∷ servers)
    (ranges (first + 1) k n ∙ ap (λ it. range_with_len (first + 1) k ++ range_with_len it n) (steps first k))
  where
    steps : (first k : ℕ) → first + 1 + k ≡ first + suc k
    steps first k = omega arith

pub each_round_tries_each : EachRoundTriesEach
each_round_tries_each search outcomes is n =
    let server : ℕ = search.next in
    let count : ℕ = search.count in
    let tried : tried_servers search outcomes ≡ range_with_len server (count - server) ++ range_with_len 0 server =
    tried_servers-turn search outcomes
    ∙ ap (turn_from count server) n
    ∙ round-ranges count server is.within in
    let all : range_with_len 0 count ≡ range_with_len 0 server ++ range_with_len server (count - server) =
    ap (range_with_len 0) (let e : count ≡ server + (count - server) = omega arith in e)
    ∙ ranges 0 server (count - server)
    ∙ ap (λ it. range_with_len 0 server ++ range_with_len it (count - server)) (zero-add server) in
    subst (λ (servers : List ℕ). IsPermutation servers (tried_servers search outcomes)) (sym all)
    (subst (λ (servers : List ℕ).
    IsPermutation (range_with_len 0 server ++ range_with_len server (count - server)) servers) (sym tried)
    (IsPermutation-append_comm (range_with_len 0 server) (range_with_len server (count - server))))

pub lost_is_tried_last : LostIsTriedLast
lost_is_tried_last search outcome outcomes is n =
    let count : ℕ = search.count in
    let next : ℕ = following_server count search.next in
    let within : next < count = mod-lt (search.next + 1) (omega arith) in
    let last : (next + (count - 1)) % count ≡ search.next =
    mod-add-mod (search.next + 1) count (count - 1)
    ∙ ap (λ it. it % count) (let e : search.next + 1 + (count - 1) ≡ search.next + count = omega arith in e)
    ∙ add-mod_right search.next count
    ∙ mod-eq_of_lt is.within in (
      turn_from count next (count - 1),
      tried_servers-turn (after_outcome search search.next outcome) outcomes
          ∙ ap (λ it. turn_from it next (length outcomes)) (tried_count search outcome)
          ∙ ap (turn_from count next) (n ∙ (let e : count ≡ count - 1 + 1 = omega arith in e))
          ∙ turn_from-add count next (count - 1) 1 within
          ∙ ap (λ it. turn_from count next (count - 1) ++ it ∷ []) last,
    )
