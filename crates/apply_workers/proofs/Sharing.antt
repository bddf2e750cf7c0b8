-- Groups that were advanced by steps, put together.
use Rattle.std.proofs.Common.{◌≡◌, ℕ, zero, suc, ◌+◌, ◌<◌, ◌≤◌, ◌==◌, List, [], ◌∷◌, ◌++◌, Bool, true, false, true≢false, cond, Option, Some, None, map, length, take, drop, All, refl, sym, ap, ◌∙◌, subst, arith, inl, inr, ◌⊎◌, length-append, length-drop}
use Rattle.std.specs.List.{AllByRecursion}
use Rattle.std.specs.Option.{option_and_then}
use Rattle.std.proofs.lemmas.List.Elements.{All-drop}
use Rattle.std.proofs.lemmas.Bool.{eq-eqb, eqb-true, eqb-false, cases_lt}
use Rattle.txn_codec.specs.declared.txn.Txn.{Txn}
use Rattle.data_tree.specs.State.{State}
use Rattle.data_tree.specs.Cells.{effect_in_cells, outcomes_in_cells}
use Rattle.data_tree.specs.Footprint.{footprint}
use Rattle.data_tree.specs.Commuting.{GroupedTxn, txns_of_group, entries_of_group, batch_of}
use Rattle.data_tree.specs.declared.outcome.Outcome.{Outcome}
use Rattle.batcher.specs.Cut.{groups_of, groups_if_tagged, is_batch, is_barrier_alone}
use Rattle.batcher.specs.Groups.{group_count, tagged_txns, tagged_txns_after, group_for, places_from, txn_group_at, txn_groups_of}
use Rattle.batcher.specs.Laws.{EachIsInAGroup}
use Rattle.apply_workers.specs.Places.{at_places}
use Rattle.apply_workers.specs.Homing.{split_by_group, with_all_cells, with_timeouts_set, IsSplitByGroup}
use Rattle.apply_workers.specs.Schedule.{GroupState, with_rest_done, outcomes_of, in_batch_order, batch_result_with, batch_result}
use Rattle.apply_workers.specs.Schedules.{one_by_one}
use Rattle.apply_workers.specs.Hands.{GroupProgress, group_state_of, group_states_from, AreWithinGroups}
use Rattle.apply_workers.proofs.BatchPaths.{nothing_at}
use Rattle.apply_workers.proofs.Loops.{nothing_left, places_length}
use Rattle.apply_workers.proofs.Places.{at_its_places, txns_at_places, own_txns, places_below, batch_length}
use Rattle.apply_workers.proofs.Returning.{classes_from, has_groups}

-- ---- a list in the batch's order, made from what each group has

-- Each group has one for each of its transactions.
abbrev Fits : List GroupedTxn → (ℕ → List Outcome) → Type 0
Fits ts of = (k : ℕ) → length (of k) ≡ length (txns_of_group k ts)

-- The rest of it after the first transaction.
abbrev behind : GroupedTxn → (ℕ → List Outcome) → ℕ → List Outcome
behind t of k = cond (t.0 == k) (drop 1 (of k)) (of k)

one_less : (xs : List Outcome) (n : ℕ) → length xs ≡ suc n → length (drop 1 xs) ≡ n
one_less [] n e = absurd (omega arith)
one_less (x ∷ xs) n e = omega arith

just_one : (xs : List Outcome) (n : ℕ) → length xs ≡ suc n → length (take 1 xs) ≡ 1
just_one [] n e = absurd (omega arith)
just_one (x ∷ xs) n e = refl

whole_again : (xs : List Outcome) → take 1 xs ++ drop 1 xs ≡ xs
whole_again [] = refl
whole_again (x ∷ xs) = refl

fits_behind : (t : GroupedTxn) (ts : List GroupedTxn) (of : ℕ → List Outcome) → Fits (t ∷ ts) of → Fits ts (behind t of)
fits_behind t ts of fits k = by (t.0 == k) (fits k)
  where
    by : (b : Bool) → length (of k) ≡ length (cond b (t.1 ∷ txns_of_group k ts) (txns_of_group k ts))
        → length (cond b (drop 1 (of k)) (of k)) ≡ length (txns_of_group k ts)
    by true e = one_less (of k) (length (txns_of_group k ts)) e
    by false e = e

has_first : (t : GroupedTxn) (ts : List GroupedTxn) (of : ℕ → List Outcome) → Fits (t ∷ ts) of
    → length (of t.0) ≡ suc (length (txns_of_group t.0 ts))
has_first t ts of fits =
    fits t.0
    ∙ ap (λ b. length (cond b (t.1 ∷ txns_of_group t.0 ts) (txns_of_group t.0 ts))) (eq-eqb t.0 t.0 refl)

in_order_length : (ts : List GroupedTxn) (of : ℕ → List Outcome) → Fits ts of
    → length (in_batch_order ts of) ≡ length ts
in_order_length [] of fits = refl
in_order_length (t ∷ ts) of fits =
    let all = length-append (take 1 (of t.0)) (in_batch_order ts (behind t of)) in
    let one = just_one (of t.0) (length (txns_of_group t.0 ts)) (has_first t ts of fits) in
    let rest = in_order_length ts (behind t of) (fits_behind t ts of fits) in
    omega arith

first_of : (k : ℕ) (t : GroupedTxn) (ts : List GroupedTxn) (xs rest : List Outcome) (n : ℕ) → length xs ≡ suc n
    → entries_of_group k (t ∷ ts) (take 1 xs ++ rest)
    ≡ cond (t.0 == k) (take 1 xs ++ entries_of_group k ts rest) (entries_of_group k ts rest)
first_of k t ts [] rest n e = absurd (omega arith)
first_of k t ts (x ∷ xs) rest n e = refl

own_in_order : (k : ℕ) (ts : List GroupedTxn) (of : ℕ → List Outcome) → Fits ts of
    → entries_of_group k ts (in_batch_order ts of) ≡ of k
own_in_order k [] of fits = sym (nothing_left (of k) (fits k))
own_in_order k (t ∷ ts) of fits =
    first_of k t ts (of t.0) rest (length (txns_of_group t.0 ts)) (has_first t ts of fits)
    ∙ by (t.0 == k) refl (own_in_order k ts (behind t of) (fits_behind t ts of fits))
  where
    rest : List Outcome
    rest = in_batch_order ts (behind t of)

    by : (b : Bool) → (t.0 == k) ≡ b → entries_of_group k ts rest ≡ cond b (drop 1 (of k)) (of k)
        → cond b (take 1 (of t.0) ++ entries_of_group k ts rest) (entries_of_group k ts rest) ≡ of k
    by true e own =
        ap (λ xs. take 1 (of t.0) ++ xs) own
        ∙ ap (λ j. take 1 (of j) ++ drop 1 (of k)) (eqb-true t.0 k e)
        ∙ whole_again (of k)
    by false e own = own

-- ---- each group's outcomes

outcomes_length : (cells : State) (txns : List Txn) → length (outcomes_in_cells cells txns) ≡ length txns
outcomes_length cells [] = refl
outcomes_length cells (t ∷ ts) = omega (arith, outcomes_length (effect_in_cells cells t).state ts)

places_within : (k : ℕ) (ts : List GroupedTxn) → All (λ p. p < length ts) (places_from 0 k ts)
places_within k ts =
    let same : 0 + length ts ≡ length ts = omega arith in
    subst (λ n. All (λ p. p < n) (places_from 0 k ts)) same (places_below 0 k ts)

places_count : (k : ℕ) (ts : List GroupedTxn) → length (places_from 0 k ts) ≡ length (txns_of_group k ts)
places_count k ts =
    sym (places_length (batch_of ts) (places_from 0 k ts)
    (subst (λ n. All (λ p. p < n) (places_from 0 k ts)) (sym (batch_length ts)) (places_within k ts)))
    ∙ ap (λ us. length us) (txns_at_places k ts)

-- A finished group has an outcome for each of its transactions.
finished_length : (txns : List Txn) (ts : List GroupedTxn) → batch_of ts ≡ txns → (k : ℕ) (h : GroupProgress)
    → length h.outcomes ≤ length (places_from 0 k ts)
    → length (with_rest_done (group_state_of txns k (txn_group_at ts k) h)).outcomes ≡ length (txns_of_group k ts)
finished_length txns ts is k h l =
    let left = drop (length h.outcomes) (places_from 0 k ts) in
    let all = length-append h.outcomes (outcomes_in_cells h.cells (at_places txns left)) in
    let answers = outcomes_length h.cells (at_places txns left) in
    let count = places_length txns left (subst (λ n. All (λ p. p < n) left)
    (sym (batch_length ts) ∙ ap (λ us. length us) is)
    (All-drop (λ p. p < length ts) (length h.outcomes) (places_from 0 k ts) (places_within k ts))) in
    let behind = length-drop (length h.outcomes) (places_from 0 k ts) in
    let places = places_count k ts in
    omega arith

abbrev finished_from : List Txn → List GroupedTxn → ℕ → ℕ → List GroupProgress → List GroupState
finished_from txns ts j m hs = map with_rest_done (group_states_from txns j (classes_from ts j m) hs)

answers_of : (txns : List Txn) (ts : List GroupedTxn) → batch_of ts ≡ txns → (j m : ℕ) (hs : List GroupProgress)
    → AreWithinGroups (classes_from ts j m) hs → (k : ℕ) → j ≤ k → k < j + m
    → length (outcomes_of k (finished_from txns ts j m hs)) ≡ length (txns_of_group k ts)
answers_of txns ts is j zero hs held k l n = absurd (omega arith)
answers_of txns ts is j (suc m) [] held k l n = absurd held
answers_of txns ts is j (suc m) (h ∷ hs) held k l n =
    by (j == k) refl (answers_of txns ts is (j + 1) m hs held.1 k)
  where
    rest : List Outcome
    rest = outcomes_of k (finished_from txns ts (j + 1) m hs)

    by : (b : Bool) → (j == k) ≡ b → (j + 1 ≤ k → k < j + 1 + m → length rest ≡ length (txns_of_group k ts))
        → length (cond b (with_rest_done (group_state_of txns j (txn_group_at ts j) h)).outcomes rest)
        ≡ length (txns_of_group k ts)
    by true e more =
        finished_length txns ts is j h held.0 ∙ ap (λ i. length (txns_of_group i ts)) (eqb-true j k e)
    by false e more = let other = eqb-false j k e in more (omega arith) (omega arith)

nothing_above : (txns : List Txn) (ts : List GroupedTxn) (j m : ℕ) (hs : List GroupProgress) (k : ℕ) → j + m ≤ k
    → outcomes_of k (finished_from txns ts j m hs) ≡ []
nothing_above txns ts j zero hs k l = refl
nothing_above txns ts j (suc m) [] k l = refl
nothing_above txns ts j (suc m) (h ∷ hs) k l = by (j == k) refl (nothing_above txns ts (j + 1) m hs k (omega arith))
  where
    rest : List Outcome
    rest = outcomes_of k (finished_from txns ts (j + 1) m hs)

    by : (b : Bool) → (j == k) ≡ b → rest ≡ []
        → cond b (with_rest_done (group_state_of txns j (txn_group_at ts j) h)).outcomes rest ≡ []
    by true e none = let same = eqb-true j k e in absurd (omega arith)
    by false e none = none

all_fit : (txns : List Txn) (ts : List GroupedTxn) → batch_of ts ≡ txns
    → AllByRecursion (λ (t : GroupedTxn). t.0 < group_count ts) ts → (hs : List GroupProgress)
    → AreWithinGroups (txn_groups_of ts) hs
    → Fits ts (λ k. outcomes_of k (finished_from txns ts 0 (group_count ts) hs))
all_fit txns ts is below hs held k = by (cases_lt k (group_count ts))
  where
    by : (k < group_count ts) ⊎ (group_count ts ≤ k)
        → length (outcomes_of k (finished_from txns ts 0 (group_count ts) hs)) ≡ length (txns_of_group k ts)
    by (inl l) = answers_of txns ts is 0 (group_count ts) hs held k (omega arith) (omega arith)
    by (inr l) =
        ap (λ os. length os) (nothing_above txns ts 0 (group_count ts) hs k (omega arith))
        ∙ sym (ap (λ us. length us) (sym (own_txns k ts) ∙ nothing_at (group_count ts) k ts (batch_of ts) below l))

-- From group j on, where each has its own outcomes.
shares_from : (txns : List Txn) (ts : List GroupedTxn) (whole : List Outcome) → length whole ≡ length ts
    → (of : ℕ → List Outcome) → ((k : ℕ) → entries_of_group k ts whole ≡ of k) → (j m : ℕ) (hs : List GroupProgress)
    → AreWithinGroups (classes_from ts j m) hs
    → ((k : ℕ) → j ≤ k → k < j + m → of k ≡ outcomes_of k (finished_from txns ts j m hs))
    → map (λ (g : GroupState). g.outcomes) (finished_from txns ts j m hs) ≡ split_by_group whole (classes_from ts j m)
shares_from txns ts whole count of own j zero hs held each = refl
shares_from txns ts whole count of own j (suc m) [] held each = absurd held
shares_from txns ts whole count of own j (suc m) (h ∷ hs) held each = λ i.
    first i ∷ shares_from txns ts whole count of own (j + 1) m hs held.1 more i
  where
    mine : List Outcome
    mine = (with_rest_done (group_state_of txns j (txn_group_at ts j) h)).outcomes

    rest : List GroupState
    rest = finished_from txns ts (j + 1) m hs

    first : mine ≡ at_places whole (places_from 0 j ts)
    first =
        sym (at_its_places j ts whole count
        ∙ own j
        ∙ each j (omega arith) (omega arith)
        ∙ ap (λ b. cond b mine (outcomes_of j rest)) (eq-eqb j j refl))

    more : (k : ℕ) → j + 1 ≤ k → k < j + 1 + m → of k ≡ outcomes_of k rest
    more k l n = each k (omega arith) (omega arith) ∙ ap (λ b. cond b mine (outcomes_of k rest)) (by (j == k) refl)
      where
        by : (b : Bool) → (j == k) ≡ b → (j == k) ≡ false
        by false e = e
        by true e = let same = eqb-true j k e in absurd (omega arith)

-- ---- the batch

pub record IsBrought (tree : State) (txns : List Txn) (groups : List GroupState) : Type 0 where
  pub state : with_timeouts_set txns
      (with_all_cells (map (λ (g : GroupState). g.cells) (map with_rest_done groups)) tree)
      ≡ (batch_result tree txns groups).state
  pub shares : IsSplitByGroup txns (batch_result tree txns groups).outcomes
      (map (λ (g : GroupState). g.outcomes) (map with_rest_done groups))

abbrev Brought : State → List Txn → List GroupProgress → Option (List GroupedTxn) → Type 0
Brought tree txns hs o =
    let groups = group_states_from txns 0 (groups_if_tagged o) hs in
    let ended = batch_result_with tree txns o groups in
    (with_timeouts_set txns (with_all_cells (map (λ (g : GroupState). g.cells) (map with_rest_done groups)) tree)
    ≡ ended.state)
    × ((length ended.outcomes ≡ length txns)
    × (map (λ (g : GroupState). g.outcomes) (map with_rest_done groups)
    ≡ split_by_group ended.outcomes (groups_if_tagged o)))

pub are_brought : EachIsInAGroup → (tree : State) (txns : List Txn) → is_batch txns ≡ true
    → is_barrier_alone txns ≡ false → (hs : List GroupProgress) → AreWithinGroups (groups_of txns) hs
    → IsBrought tree txns (group_states_from txns 0 (groups_of txns) hs)
are_brought each tree txns batch alone hs held =
    let found = has_groups txns batch alone in by found.0 found.1
  where
    by : (ts : List GroupedTxn) → tagged_txns txns ≡ Some ts
        → IsBrought tree txns (group_states_from txns 0 (groups_of txns) hs)
    by ts e =
        let of_ts = each txns ts e in
        let mine = subst (λ o. AreWithinGroups (groups_if_tagged o) hs) e held in
        let of : ℕ → List Outcome = λ k. outcomes_of k (finished_from txns ts 0 (group_count ts) hs) in
        let fits = all_fit txns ts of_ts.0 of_ts.1 hs mine in
        let count = in_order_length ts of fits in
        let all : Brought tree txns hs (tagged_txns txns) =
        subst (Brought tree txns hs) (sym e) (
          ap (λ us. with_timeouts_set us (with_all_cells
              (map (λ (g : GroupState). g.cells) (finished_from txns ts 0 (group_count ts) hs))
              tree))
              (sym of_ts.0),
          (
            count ∙ sym (batch_length ts) ∙ ap (λ us. length us) of_ts.0,
            shares_from txns ts (in_batch_order ts of) count of (λ k. own_in_order k ts of fits) 0 (group_count ts) hs
                mine
                (λ k l n. refl),
          ),
        ) in
        record { state = all.0; shares = record { count = all.1.0; each = all.1.1 } }

-- A single barrier has no groups.
no_groups : (txns : List Txn) → is_barrier_alone txns ≡ true → tagged_txns txns ≡ None
no_groups [] e = absurd (true≢false (sym e))
no_groups (t ∷ []) e =
    ap (λ b. option_and_then (λ k. tagged_txns_after ((k, t) ∷ []) []) (cond b None (group_for [] (footprint t)))) e
no_groups (t ∷ u ∷ ts) e = absurd (true≢false (sym e))

pub barrier_ends : (tree : State) (txns : List Txn) (groups : List GroupState) → is_barrier_alone txns ≡ true
    → one_by_one tree txns ≡ batch_result tree txns groups
barrier_ends tree txns groups e = ap (λ o. batch_result_with tree txns o groups) (sym (no_groups txns e))
