-- The longest prefix that is taken.
use Rattle.std.proofs.Common.{◌≡◌, ◌≢◌, ℕ, zero, suc, ◌+◌, ◌-◌, ◌<◌, ◌≤◌, nat_eq, nat_lt, nat_le, List, [], ◌∷◌, ◌++◌, Bool, true, false, cond, not, ◌||◌, ◌&&◌, Option, Some, None, is_some, refl, sym, ap, ◌∙◌, subst, arith, length, take, append_assoc, min}
use Rattle.std.specs.List.{filter_map}
use Rattle.std.specs.Option.{option_and_then, option_map_or}
use Rattle.std.proofs.lemmas.Bool.Decides.{nat_tests}
use Rattle.std.proofs.lemmas.Bool.{eqb-true, eq-eqb}
use Rattle.std.proofs.lemmas.List.{length-append}
use Rattle.std.proofs.Math.Seq.{take-append-add, take-append_seam}
use mathlib.Core.Bool.{true≢false}
use Rattle.ephemerals.specs.Orders.{Bytes}
use Rattle.txn_codec.specs.declared.txn.Txn.{Txn}
use Rattle.data_tree.specs.Footprint.{footprint}
use Rattle.data_tree.specs.Commuting.{GroupedTxn, batch_of}
use Rattle.footprint.specs.Footprints.{is_barrier}
use Rattle.batcher.specs.Class.{TxnGroup}
use Rattle.batcher.specs.Limits.{LimitNumbers, are_limits}
use Rattle.batcher.specs.Groups.{group_with, group_count, only_group, group_for, group_of_next, tagged_txns_after, tagged_txns}
use Rattle.batcher.specs.Cut.{has_at_most, is_allowed, longest_of, cut, is_barrier_alone, is_batch, groups_if_tagged, groups_of}
use Rattle.batcher.specs.Laws.{IsLongest, CutsAreLongest}
use Rattle.batcher.specs.Inner.Taking.{group_within_limit, group_taken, tagged_front_after, BeginsWithBarrier}
use Rattle.batcher.proofs.Owning.{same, none, grouped-keeps, opened-behind}
use Rattle.batcher.proofs.Members.{batch_is, batch_of-behind, length-classes_of}

-- ---- tests of numbers

le_true : (a b : ℕ) → a ≤ b → nat_le a b ≡ true
le_true a b h = grind (arith, nat_tests)

le_false : (a b : ℕ) → b < a → nat_le a b ≡ false
le_false a b h = grind (arith, nat_tests)

lt_false : (a b : ℕ) → nat_lt a b ≡ false → b ≤ a
lt_false a b h = grind (arith, nat_tests)

lt_true : (a b : ℕ) → nat_lt a b ≡ true → a < b
lt_true a b h = grind (arith, nat_tests)

is_lt : (a b : ℕ) → a < b → nat_lt a b ≡ true
is_lt a b h = grind (arith, nat_tests)

le_of : (a b : ℕ) → nat_le a b ≡ true → a ≤ b
le_of a b h = grind (arith, nat_tests)

apart : (a b : ℕ) → nat_eq a b ≡ false → a ≢ b
apart a b h e = true≢false (sym (eq-eqb a b e) ∙ h)

and_false : (a : Bool) → (a && false) ≡ false
and_false true = refl
and_false false = refl

first_of : (a b : Bool) → (a && b) ≡ true → a ≡ true
first_of true b h = refl
first_of false b h = h

second_of : (a b : Bool) → (a && b) ≡ true → b ≡ true
second_of true b h = h
second_of false b h = absurd (true≢false (sym h))

both_low : (workers b c g h : Bool) → ((workers && (b && c)) && (g && h)) ≡ true → (b ≡ true) × (g ≡ true)
both_low workers b c g h ok = (
  first_of b c (second_of workers (b && c) (first_of (workers && (b && c)) (g && h) ok)),
  first_of g h (second_of (workers && (b && c)) (g && h) ok),
)

-- The limits are at least 1.
pub at_least_one : (limits : LimitNumbers) → are_limits limits ≡ true → (1 ≤ limits.batch) × (1 ≤ limits.groups)
at_least_one limits ok =
    let low = both_low (nat_le 1 limits.workers && nat_le limits.workers 64) (nat_le 1 limits.batch)
    (nat_le limits.batch 4096) (nat_le 1 limits.groups) (nat_le limits.groups 256) ok in
    (le_of 1 limits.batch low.0, le_of 1 limits.groups low.1)

-- ---- the longest

longest_is : {A : Type 0} (passes : List A → Bool) (xs : List A) (n m : ℕ) → m ≤ n → passes (take m xs) ≡ true
    → ((j : ℕ) → m < j → j ≤ n → passes (take j xs) ≡ false) → longest_of passes xs n ≡ take m xs
longest_is passes xs zero m le holds longer = nothing (omega arith)
  where
    nothing : 0 ≡ m → [] ≡ take m xs
    nothing e = ap (λ j. take j xs) e
longest_is passes xs (suc n) m le holds longer =
    by (λ lt. longest_is passes xs n m lt holds (λ j above below. longer j above (omega arith)))
    (nat_eq m (suc n)) refl
  where
    by : (m ≤ n → longest_of passes xs n ≡ take m xs) → (e : Bool) → nat_eq m (suc n) ≡ e
        → cond (passes (take (suc n) xs)) (take (suc n) xs) (longest_of passes xs n) ≡ take m xs
    by rest true e =
        let is : m ≡ suc n = eqb-true m (suc n) e in
        ap (λ b. cond b (take (suc n) xs) (longest_of passes xs n))
        (ap (λ j. passes (take j xs)) (sym is) ∙ holds)
        ∙ ap (λ j. take j xs) (sym is)
    by rest false e =
        let other : m ≢ suc n = apart m (suc n) e in
        ap (λ b. cond b (take (suc n) xs) (longest_of passes xs n)) (longer (suc n) (omega arith) (omega arith))
        ∙ rest (omega arith)

-- ---- grouping in two parts

grouped-append : (before : List GroupedTxn) (xs ys : List Txn)
    → tagged_txns_after before (xs ++ ys)
    ≡ option_and_then (λ mid. tagged_txns_after mid ys) (tagged_txns_after before xs)
grouped-append before [] ys = refl
grouped-append before (t ∷ xs) ys = by (λ k. grouped-append (before ++ (k, t) ∷ []) xs ys) (group_of_next before t)
  where
    by : ((k : ℕ) → tagged_txns_after (before ++ (k, t) ∷ []) (xs ++ ys)
        ≡ option_and_then (λ mid. tagged_txns_after mid ys) (tagged_txns_after (before ++ (k, t) ∷ []) xs))
        → (o : Option ℕ) → option_and_then (λ k. tagged_txns_after (before ++ (k, t) ∷ []) (xs ++ ys)) o
        ≡ option_and_then (λ mid. tagged_txns_after mid ys)
        (option_and_then (λ k. tagged_txns_after (before ++ (k, t) ∷ []) xs) o)
    by rest None = refl
    by rest (Some k) = rest k

opened_least : (n : ℕ) (before : List GroupedTxn) (txns : List Txn) (ts : List GroupedTxn) → n ≤ group_count before
    → tagged_txns_after before txns ≡ Some ts → n ≤ group_count ts
opened_least n before txns ts h is =
    grouped-keeps (λ bs. n ≤ group_count bs)
    (λ bs t k le _. let more = opened-behind bs (k, t) in omega arith) before txns ts h is

length-batch_of : (ts : List GroupedTxn) → length (batch_of ts) ≡ length ts
length-batch_of [] = refl
length-batch_of (t ∷ ts) = ap suc (length-batch_of ts)

-- ---- a transaction that isn't taken ends the prefix

module _ (limits : LimitNumbers) where
  -- A prefix that is taken.
  pub record IsTaken (front : List GroupedTxn) : Type 0 where
    pub grouped_is : tagged_txns (batch_of front) ≡ Some front
    pub short : length front ≤ limits.batch
    pub few : group_count front ≤ limits.groups

  too_many : (front : List GroupedTxn) (t : Txn) (xs : List Txn) (k : ℕ) → nat_lt k limits.groups ≡ false
      → has_at_most limits.groups (tagged_txns_after (front ++ (k, t) ∷ []) xs) ≡ false
  too_many front t xs k past = by (tagged_txns_after (front ++ (k, t) ∷ []) xs) refl
    where
      by : (o : Option (List GroupedTxn)) → tagged_txns_after (front ++ (k, t) ∷ []) xs ≡ o
          → has_at_most limits.groups o ≡ false
      by None e = refl
      by (Some ts) e =
          let more = opened-behind front (k, t) in
          let above : limits.groups ≤ k = lt_false k limits.groups past in
          let least : k + 1 ≤ group_count ts = opened_least (k + 1) (front ++ (k, t) ∷ []) xs ts (omega arith) e in
          le_false (group_count ts) limits.groups (omega arith)

  not_grouped : (front : List GroupedTxn) (t : Txn) (xs : List Txn)
      → group_within_limit limits.groups (group_of_next front t) ≡ None
      → has_at_most limits.groups (tagged_txns_after front (t ∷ xs)) ≡ false
  not_grouped front t xs = by (group_of_next front t)
    where
      past : (k : ℕ) (b : Bool) → nat_lt k limits.groups ≡ b → cond b (Some k) None ≡ None
          → nat_lt k limits.groups ≡ false
      past k true e is = absurd (none k is)
      past k false e is = e

      by : (o : Option ℕ) → group_within_limit limits.groups o ≡ None
          → has_at_most limits.groups (option_and_then (λ k. tagged_txns_after (front ++ (k, t) ∷ []) xs) o) ≡ false
      by None is = refl
      by (Some k) is = too_many front t xs k (past k (nat_lt k limits.groups) refl is)

  not_allowed : (front : List GroupedTxn) (t : Txn) (xs : List Txn) → tagged_txns (batch_of front) ≡ Some front
      → group_taken limits front t ≡ None → is_allowed limits (batch_of front ++ (t ∷ xs)) ≡ false
  not_allowed front t xs is = by (nat_lt (length front) limits.batch) refl
    where
      behind : tagged_txns (batch_of front ++ (t ∷ xs)) ≡ tagged_txns_after front (t ∷ xs)
      behind =
          grouped-append [] (batch_of front) (t ∷ xs)
          ∙ ap (option_and_then (λ mid. tagged_txns_after mid (t ∷ xs))) is

      by : (b : Bool) → nat_lt (length front) limits.batch ≡ b
          → cond b (group_within_limit limits.groups (group_of_next front t)) None ≡ None
          → is_allowed limits (batch_of front ++ (t ∷ xs)) ≡ false
      by true e stop =
          ap (λ o. nat_le (length (batch_of front ++ (t ∷ xs))) limits.batch && has_at_most limits.groups o) behind
          ∙ ap (λ b. nat_le (length (batch_of front ++ (t ∷ xs))) limits.batch && b) (not_grouped front t xs stop)
          ∙ and_false (nat_le (length (batch_of front ++ (t ∷ xs))) limits.batch)
      by false e stop =
          let full : limits.batch ≤ length front = lt_false (length front) limits.batch e in
          let long : length (batch_of front ++ (t ∷ xs)) ≡ length front + suc (length xs) =
          length-append (batch_of front) (t ∷ xs) ∙ ap (λ n. n + suc (length xs)) (length-batch_of front) in
          ap (λ b. b && has_at_most limits.groups (tagged_txns (batch_of front ++ (t ∷ xs))))
          (le_false (length (batch_of front ++ (t ∷ xs))) limits.batch (omega arith))

  -- ---- the prefix that is taken

  abbrev pub Stops : List GroupedTxn → List Txn → Type 0
  Stops front [] = Unit {0}
  Stops front (t ∷ ts) = group_taken limits front t ≡ None

  -- The prefix is taken of this list, and no more.
  pub record IsEnd (txns : List Txn) (front : List GroupedTxn) : Type 0 where
    pub rest : List Txn
    pub all : txns ≡ batch_of front ++ rest
    pub taken : IsTaken front
    pub stops : Stops front rest

  taken_next : (before : List GroupedTxn) (t : Txn) (k : ℕ) → IsTaken before → group_taken limits before t ≡ Some k
      → IsTaken (before ++ (k, t) ∷ [])
  taken_next before t k taken =
      by (nat_lt (length before) limits.batch) refl
    where
      next : group_of_next before t ≡ Some k
          → tagged_txns (batch_of (before ++ (k, t) ∷ [])) ≡ Some (before ++ (k, t) ∷ [])
      next e =
          ap tagged_txns (batch_of-behind before (k, t))
          ∙ grouped-append [] (batch_of before) (t ∷ [])
          ∙ ap (option_and_then (λ mid. tagged_txns_after mid (t ∷ []))) taken.grouped_is
          ∙ ap (option_and_then (λ j. tagged_txns_after (before ++ (j, t) ∷ []) [])) e

      made : group_of_next before t ≡ Some k → length before < limits.batch → k < limits.groups
          → IsTaken (before ++ (k, t) ∷ [])
      made e room fits =
          let more = opened-behind before (k, t) in
          let long = length-append before ((k, t) ∷ []) in
          let few = taken.few in
          record { grouped_is = next e; short = omega arith; few = omega arith }

      fitting : length before < limits.batch → (j : ℕ) → group_of_next before t ≡ Some j → (b : Bool)
          → nat_lt j limits.groups ≡ b → cond b (Some j) None ≡ Some k → IsTaken (before ++ (k, t) ∷ [])
      fitting room j e true lt is =
          made (e ∙ is) room (subst (λ i. i < limits.groups) (same is) (lt_true j limits.groups lt))
      fitting room j e false lt is = absurd (none k (sym is))

      known : length before < limits.batch → (o : Option ℕ) → group_of_next before t ≡ o
          → group_within_limit limits.groups o ≡ Some k
          → IsTaken (before ++ (k, t) ∷ [])
      known room None e is = absurd (none k (sym is))
      known room (Some j) e is = fitting room j e (nat_lt j limits.groups) refl is

      by : (b : Bool) → nat_lt (length before) limits.batch ≡ b
          → cond b (group_within_limit limits.groups (group_of_next before t)) None ≡ Some k
          → IsTaken (before ++ (k, t) ∷ [])
      by true e is = known (lt_true (length before) limits.batch e) (group_of_next before t) refl is
      by false e is = absurd (none k (sym is))

  pub taken_ends : (before : List GroupedTxn) (ts : List Txn) → IsTaken before
      → IsEnd (batch_of before ++ ts) (tagged_front_after limits before ts)
  taken_ends before [] taken = record { rest = []; all = refl; taken = taken; stops = tt }
  taken_ends before (t ∷ ts) taken =
      by (λ k next. taken_ends (before ++ (k, t) ∷ []) ts next) (group_taken limits before t) refl
    where
      shifted : (k : ℕ) → batch_of (before ++ (k, t) ∷ []) ++ ts ≡ batch_of before ++ (t ∷ ts)
      shifted k =
          ap (λ bs. bs ++ ts) (batch_of-behind before (k, t)) ∙ append_assoc (batch_of before) (t ∷ []) ts

      by : ((k : ℕ) → IsTaken (before ++ (k, t) ∷ [])
          → IsEnd (batch_of (before ++ (k, t) ∷ []) ++ ts) (tagged_front_after limits (before ++ (k, t) ∷ []) ts))
          → (o : Option ℕ) → group_taken limits before t ≡ o
          → IsEnd (batch_of before ++ (t ∷ ts))
          (option_map_or (λ k. tagged_front_after limits (before ++ (k, t) ∷ []) ts) o before)
      by rest None e = record { rest = t ∷ ts; all = refl; taken = taken; stops = e }
      by rest (Some k) e =
          subst (λ txns. IsEnd txns (tagged_front_after limits (before ++ (k, t) ∷ []) ts)) (shifted k)
          (rest k (taken_next before t k taken e))

  pub nothing_taken : are_limits limits ≡ true → IsTaken []
  nothing_taken ok = record { grouped_is = refl; short = omega arith; few = omega arith }

  longer_fails : (txns : List Txn) (front : List GroupedTxn) → (rest : List Txn) → txns ≡ batch_of front ++ rest
      → tagged_txns (batch_of front) ≡ Some front → Stops front rest
      → (n : ℕ) → length (batch_of front) < n → n ≤ length txns → is_allowed limits (take n txns) ≡ false
  longer_fails txns front [] all grouped_is stops n above below =
      let long = ap length all ∙ length-append (batch_of front) [] in absurd (omega arith)
  longer_fails txns front (t ∷ ts) all grouped_is stops n above below =
      ap (is_allowed limits) front_is ∙ not_allowed front t (take (n - length (batch_of front) - 1) ts) grouped_is stops
    where
      number : n ≡ length (batch_of front) + suc (n - length (batch_of front) - 1)
      number = omega arith

      front_is : take n txns ≡ batch_of front ++ (t ∷ take (n - length (batch_of front) - 1) ts)
      front_is =
          ap (take n) all
          ∙ ap (λ m. take m (batch_of front ++ (t ∷ ts))) number
          ∙ take-append-add (batch_of front) (t ∷ ts) (suc (n - length (batch_of front) - 1))

  allowed : (front : List GroupedTxn) → IsTaken front → is_allowed limits (batch_of front) ≡ true
  allowed front taken =
      let long = length-batch_of front in
      ap (λ o. nat_le (length (batch_of front)) limits.batch && has_at_most limits.groups o) taken.grouped_is
      ∙ ap (λ b. nat_le (length (batch_of front)) limits.batch && b)
      (le_true (group_count front) limits.groups taken.few)
      ∙ ap (λ b. b && true)
      (le_true (length (batch_of front)) limits.batch (subst (λ n. n ≤ limits.batch) (sym long) taken.short))

  pub ends_longest : (txns : List Txn) (front : List GroupedTxn) → IsEnd txns front
      → IsLongest limits txns (batch_of front)
  ends_longest txns front end =
      record {
        of = ap (take (length (batch_of front))) end.all ∙ take-append_seam (batch_of front) end.rest;
        allowed = allowed front end.taken;
        longer = longer_fails txns front end.rest end.all end.taken.grouped_is end.stops;
      }

  -- ---- the first is taken, unless it is a barrier

  no_met : (ps : List Bytes) → filter_map (group_with []) ps ≡ []
  no_met [] = refl
  no_met (p ∷ ps) = no_met ps

  pub first_taken : (t : Txn) → are_limits limits ≡ true → is_barrier t ≡ false → group_taken limits [] t ≡ Some 0
  first_taken t ok free =
      ap (λ b. cond b (group_within_limit limits.groups (group_of_next [] t)) None)
      (is_lt 0 limits.batch (at_least_one limits ok).0)
      ∙ ap (group_within_limit limits.groups)
      (ap (λ b. cond b None (group_for [] (footprint t))) free ∙ first_group (footprint t))
      ∙ ap (λ b. cond b (Some 0) None) (is_lt 0 limits.groups (at_least_one limits ok).1)
    where
      first_group : (ps : List Bytes) → group_for [] ps ≡ Some 0
      first_group [] = refl
      first_group (p ∷ ps) = ap (only_group 0) (no_met (p ∷ ps))

  taken_more : (before : List GroupedTxn) (ts : List Txn) → length before ≤ length (tagged_front_after limits before ts)
  taken_more before [] = omega arith
  taken_more before (t ∷ ts) = by (λ k. taken_more (before ++ (k, t) ∷ []) ts) (group_taken limits before t)
    where
      by : ((k : ℕ) → length (before ++ (k, t) ∷ []) ≤ length (tagged_front_after limits (before ++ (k, t) ∷ []) ts))
          → (o : Option ℕ)
          → length before ≤ length (option_map_or (λ k. tagged_front_after limits (before ++ (k, t) ∷ []) ts) o before)
      by rest None = omega arith
      by rest (Some k) = let long = length-append before ((k, t) ∷ []) in let more = rest k in omega arith

  pub some_taken : (t : Txn) (ts : List Txn) → are_limits limits ≡ true → is_barrier t ≡ false
      → 1 ≤ length (tagged_front_after limits [] (t ∷ ts))
  some_taken t ts ok free =
      subst (λ o. 1 ≤ length (option_map_or (λ k. tagged_front_after limits ((k, t) ∷ []) ts) o []))
      (sym (first_taken t ok free))
      (taken_more ((0, t) ∷ []) ts)

  -- ---- the cut

  pub cut_is : (t : Txn) (ts : List Txn) → are_limits limits ≡ true → is_barrier t ≡ false
      → cut limits (t ∷ ts) ≡ batch_of (tagged_front_after limits [] (t ∷ ts))
  cut_is t ts ok free =
      ap (λ b. cond b (t ∷ []) (longest_of (is_allowed limits) (t ∷ ts) (length (t ∷ ts)))) free
      ∙ longest_is (is_allowed limits) (t ∷ ts) (length (t ∷ ts)) (length front)
      within_all (ap (is_allowed limits) longest.of ∙ longest.allowed) longest.longer
      ∙ longest.of
    where
      front : List Txn
      front = batch_of (tagged_front_after limits [] (t ∷ ts))

      end : IsEnd (t ∷ ts) (tagged_front_after limits [] (t ∷ ts))
      end = taken_ends [] (t ∷ ts) (nothing_taken ok)

      longest : IsLongest limits (t ∷ ts) front
      longest = ends_longest (t ∷ ts) (tagged_front_after limits [] (t ∷ ts)) end

      within_all : length front ≤ length (t ∷ ts)
      within_all = let long = ap length end.all ∙ length-append front end.rest in omega arith

pub cuts_are_longest : CutsAreLongest
cuts_are_longest limits t ts ok free =
    subst (λ front. IsLongest limits (t ∷ ts) front × (1 ≤ length front)) (sym (cut_is limits t ts ok free)) (
      ends_longest limits (t ∷ ts) (tagged_front_after limits [] (t ∷ ts))
          (taken_ends limits [] (t ∷ ts) (nothing_taken limits ok)),
      subst (λ n. 1 ≤ n) (sym (length-batch_of (tagged_front_after limits [] (t ∷ ts))))
          (some_taken limits t ts ok free),
    )

-- If nothing is taken there is a barrier at the front, or nothing.
pub begins_with_barrier : (limits : LimitNumbers) (txns : List Txn) → are_limits limits ≡ true
    → length (tagged_front_after limits [] txns) ≡ 0 → BeginsWithBarrier txns
begins_with_barrier limits [] ok none = tt
begins_with_barrier limits (t ∷ ts) ok none = by (is_barrier t) refl
  where
    by : (b : Bool) → is_barrier t ≡ b → b ≡ true
    by true e = refl
    by false e = let some = some_taken limits t ts ok e in absurd (omega arith)

-- If something is taken, that is the cut.
pub taken_is_cut : (limits : LimitNumbers) (txns : List Txn) → are_limits limits ≡ true
    → 1 ≤ length (tagged_front_after limits [] txns) → batch_of (tagged_front_after limits [] txns) ≡ cut limits txns
taken_is_cut limits [] ok some = absurd (omega arith)
taken_is_cut limits (t ∷ ts) ok some = by (is_barrier t) refl
  where
    no_group : (b : Bool) → cond b (group_within_limit limits.groups None) None ≡ None
    no_group true = refl
    no_group false = refl

    nothing : is_barrier t ≡ true → tagged_front_after limits [] (t ∷ ts) ≡ []
    nothing e =
        ap (λ o. option_map_or (λ k. tagged_front_after limits ((k, t) ∷ []) ts) o [])
        (ap (λ b. cond (nat_lt 0 limits.batch)
        (group_within_limit limits.groups (cond b None (group_for [] (footprint t)))) None) e
        ∙ no_group (nat_lt 0 limits.batch))

    by : (b : Bool) → is_barrier t ≡ b → batch_of (tagged_front_after limits [] (t ∷ ts)) ≡ cut limits (t ∷ ts)
    by true e = let few = ap length (nothing e) in absurd (omega arith)
    by false e = sym (cut_is limits t ts ok e)

-- The transactions taken are a prefix.
pub taken_is_front : (limits : LimitNumbers) (txns : List Txn) → are_limits limits ≡ true
    → take (length (batch_of (tagged_front_after limits [] txns))) txns ≡ batch_of (tagged_front_after limits [] txns)
taken_is_front limits txns ok =
    (ends_longest limits txns (tagged_front_after limits [] txns)
    (taken_ends limits [] txns (nothing_taken limits ok))).of

pub taken_is_grouped : (limits : LimitNumbers) (txns : List Txn) → are_limits limits ≡ true
    → tagged_txns (batch_of (tagged_front_after limits [] txns)) ≡ Some (tagged_front_after limits [] txns)
taken_is_grouped limits txns ok = (taken_ends limits [] txns (nothing_taken limits ok)).taken.grouped_is

-- ---- a barrier alone

-- If nothing can be taken, the first transaction, if there is one, is cut.
pub record IsAlone (limits : LimitNumbers) (txns : List Txn) (n : ℕ) : Type 0 where
  pub taken : take n txns ≡ cut limits txns
  pub no_groups : [] ≡ groups_of (cut limits txns)
  pub allowed : is_batch (cut limits txns) ≡ true

pub alone : (limits : LimitNumbers) (txns : List Txn) (n : ℕ) → n ≡ min (length txns) 1 → BeginsWithBarrier txns
    → IsAlone limits txns n
alone limits [] n is barrier = record { taken = ap (λ j. take j []) is; no_groups = refl; allowed = refl }
alone limits (t ∷ ts) n is barrier =
    record {
      taken = ap (λ j. take j (t ∷ ts)) one ∙ sym first;
      no_groups = sym (ap groups_of first ∙ ap (λ b. groups_if_tagged (of_first b)) barrier);
      allowed = ap is_batch first ∙ ap (λ b. b || is_some (tagged_txns (t ∷ []))) barrier;
    }
  where
    one : n ≡ 1
    one = omega arith

    of_first : Bool → Option (List GroupedTxn)
    of_first b =
        option_and_then (λ k. Some ((k, t) ∷ [])) (cond b None (group_for [] (footprint t)))

    first : cut limits (t ∷ ts) ≡ t ∷ []
    first = ap (λ b. cond b (t ∷ []) (longest_of (is_allowed limits) (t ∷ ts) (length (t ∷ ts)))) barrier

alone_when_empty : (txns : List Txn) (n : ℕ) → n ≡ length txns → groups_of txns ≡ [] → is_batch txns ≡ true
    → not (nat_eq n 0) ≡ is_barrier_alone txns
alone_when_empty [] n is groups batch = ap (λ m. not (nat_eq m 0)) is
alone_when_empty (t ∷ ts) n is groups batch =
    ap (λ m. not (nat_eq m 0)) is
    ∙ ap not (some_length (length ts))
    ∙ sym (by (is_barrier_alone (t ∷ ts)) (tagged_txns (t ∷ ts)) refl groups batch)
  where
    some_length : (m : ℕ) → nat_eq (suc m) 0 ≡ false
    some_length m = grind (arith, nat_tests)

    opened_some : (gs : List GroupedTxn) → batch_of gs ≡ t ∷ ts → 1 ≤ group_count gs
    opened_some [] e = let l = ap length e in absurd (omega arith)
    opened_some (g ∷ gs) e = omega arith

    by : (b : Bool) → (o : Option (List GroupedTxn)) → tagged_txns (t ∷ ts) ≡ o → groups_if_tagged o ≡ []
        → (b || is_some o) ≡ true
        → b ≡ true
    by true o e none batch = refl
    by false None e none batch = absurd (true≢false (sym batch))
    by false (Some gs) e none batch =
        let l = sym (length-classes_of gs) ∙ ap length none in
        let m = opened_some gs (batch_is [] (t ∷ ts) gs e) in
        absurd (omega arith)

pub alone_is_barrier : (txns : List Txn) (m n : ℕ) (groups : List TxnGroup) → groups ≡ groups_of txns
    → m ≡ length groups
    → nat_eq m 0 ≡ true → n ≡ length txns → is_batch txns ≡ true → not (nat_eq n 0) ≡ is_barrier_alone txns
alone_is_barrier txns m n groups are long none is batch =
    alone_when_empty txns n is (sym are ∙ empty groups (sym long ∙ eqb-true m 0 none)) batch
  where
    empty : (cs : List TxnGroup) → length cs ≡ 0 → cs ≡ []
    empty [] e = refl
    empty (c ∷ cs) e = absurd (omega arith)
