-- A draft that gains a transaction.
use Rattle.std.proofs.Common.{◌≡◌, ◌≢◌, ℕ, zero, suc, ◌+◌, ◌-◌, ◌<◌, ◌≤◌, nat_eq, nat_lt, List, [], ◌∷◌, ◌++◌, Bool, true, false, cond, ◌||◌, Option, Some, None, is_some, Result, Ok, Err, OnOk, set, get_or, refl, sym, ap, ◌∙◌, subst, arith, length, drop, take, map, Bor}
use Rattle.std.specs.List.{zip}
use Rattle.std.specs.Option.{option_map_or}
use Rattle.batcher.specs.Inner.Owners.{get_by_path, AreBeside, HaveNumbered}
use Rattle.std.proofs.lemmas.Bool.Decides.{nat_tests}
use mathlib.Core.Bool.{true≢false}
use Rattle.std.proofs.lemmas.List.{length-append, length-map, length-take, map-append}
use Rattle.ephemerals.specs.Orders.{Bytes}
use Rattle.txn_codec.specs.declared.txn.Txn.{Txn}
use Rattle.data_tree.specs.Footprint.{has_path, footprint}
use Rattle.data_tree.specs.Commuting.{GroupedTxn, batch_of}
use Rattle.footprint.specs.Footprints.{is_barrier}
use Rattle.batcher.specs.Class.{TxnGroup, empty_group}
use Rattle.batcher.specs.Limits.{LimitNumbers, are_limits}
use Rattle.batcher.specs.declared.draft.Draft.{Draft}
use Rattle.batcher.specs.declared.owners.Owners.{Owners}
use Rattle.batcher.specs.declared.met.Met.TheVariants.{Nothing}
use Rattle.batcher.specs.Groups.{group_with, group_count, group_for, group_of_next, tagged_txns, paths_in, txn_groups_of}
use Rattle.batcher.specs.Front.{IsFrontOf}
use Rattle.batcher.specs.Cut.{cut, is_barrier_alone, is_batch, groups_if_tagged, groups_of}
use Rattle.batcher.specs.Inner.Joining.{unowned_paths, with_txn_at, with_member, all_met, met_group}
use Rattle.batcher.specs.Inner.Taking.{group_within_limit, group_taken, tagged_front_after, HasTaken, BeginsWithBarrier}
use Rattle.batcher.specs.Inner.Drafts.{txns_in, tagged_in, IsDraft}
use Rattle.batcher.proofs.Steps.{IsNext}
use Rattle.batcher.proofs.Owning.{none}
use Rattle.batcher.proofs.Members.{GainsPath, classes_of-behind, length-classes_of}
use Rattle.batcher.proofs.Unowned.{others_are_there, owner_now}
use Rattle.batcher.proofs.Taking.{begins_with_barrier, taken_is_cut, taken_is_front, taken_is_grouped}
use Rattle.batcher.proofs.Meeting.{or_true, met_is, group_for-below}

-- ---- transactions with their groups

zip-behind : (ks : List ℕ) (ts : List Txn) (k : ℕ) (t : Txn) → length ks ≡ length ts
    → zip (ks ++ k ∷ []) (ts ++ t ∷ []) ≡ zip ks ts ++ (k, t) ∷ []
zip-behind [] [] k t same = refl
zip-behind [] (u ∷ us) k t same = absurd (omega arith)
zip-behind (j ∷ js) [] k t same = absurd (omega arith)
zip-behind (j ∷ js) (u ∷ us) k t same = ap (λ r. (j, u) ∷ r) (zip-behind js us k t (omega arith))

batch_of-zip : (ks : List ℕ) (ts : List Txn) → length ks ≡ length ts → batch_of (zip ks ts) ≡ ts
batch_of-zip [] [] same = refl
batch_of-zip [] (u ∷ us) same = absurd (omega arith)
batch_of-zip (j ∷ js) [] same = absurd (omega arith)
batch_of-zip (j ∷ js) (u ∷ us) same = ap (λ r. u ∷ r) (batch_of-zip js us (omega arith))

length-zip : (ks : List ℕ) (ts : List Txn) → length ks ≡ length ts → length (zip ks ts) ≡ length ts
length-zip [] [] same = refl
length-zip [] (u ∷ us) same = absurd (omega arith)
length-zip (j ∷ js) [] same = absurd (omega arith)
length-zip (j ∷ js) (u ∷ us) same = ap suc (length-zip js us (omega arith))

pub batch_in : (draft : Draft) → IsDraft draft → batch_of (tagged_in draft) ≡ txns_in draft
batch_in draft is = batch_of-zip draft.numbers.items (txns_in draft) is.numbers

pub length_in : (draft : Draft) → IsDraft draft → length (tagged_in draft) ≡ length (txns_in draft)
length_in draft is = length-zip draft.numbers.items (txns_in draft) is.numbers

-- There are as many as are stored.
pub count_in : (draft : Draft) → length (txns_in draft) ≡ length draft.txns.items
count_in draft = length-map draft.txns.items (λ t. t.now)

-- One more is stored.
pub txns_more : (old new : Draft) (t : Bor Txn) → new.txns.items ≡ old.txns.items ++ t ∷ []
    → txns_in new ≡ txns_in old ++ t.now ∷ []
txns_more old new t is = ap (map (λ (t : Bor Txn). t.now)) is
    ∙ map-append (λ (t : Bor Txn). t.now) old.txns.items (t ∷ [])

pub opened_in : (draft : Draft) → IsDraft draft → length draft.groups.items ≡ group_count (tagged_in draft)
opened_in draft is = ap length is.groups ∙ length-classes_of (tagged_in draft)

-- ---- the group for a transaction

pub for_no_path : (draft : Draft) → IsDraft draft → (paths : List Bytes) → nat_eq (length paths) 0 ≡ true
    → group_for (tagged_in draft) paths ≡ Some (length draft.groups.items - 1)
for_no_path draft is [] e = ap (λ n. Some (n - 1)) (sym (opened_in draft is))
for_no_path draft is (p ∷ ps) e = absurd (true≢false (sym e ∙ not_zero (length ps)))
  where
    not_zero : (n : ℕ) → nat_eq (suc n) 0 ≡ false
    not_zero n = grind (arith, nat_tests)

pub for_paths : (draft : Draft) → IsDraft draft → (paths : List Bytes) → nat_eq (length paths) 0 ≡ false
    → met_group (length draft.groups.items) (all_met (get_by_path draft.owners) Nothing paths)
    ≡ group_for (tagged_in draft) paths
for_paths draft is [] e = absurd (true≢false e)
for_paths draft is (p ∷ ps) e =
    ap (λ n. met_group n (all_met (get_by_path draft.owners) Nothing (p ∷ ps))) (opened_in draft is)
    ∙ met_is (tagged_in draft) (get_by_path draft.owners) is.owners p ps

-- No transaction.
pub no_draft : (draft : Draft) → draft.txns.items ≡ [] → draft.numbers.items ≡ [] → AreBeside draft.owners
    → ((path : Bytes) → get_by_path draft.owners path ≡ None) → draft.groups.items ≡ [] → IsDraft draft
no_draft draft txns numbers beside none groups =
    record {
      numbers = ap length numbers ∙ sym (ap length none_in);
      beside = beside;
      owners = λ path. none path ∙ sym (ap (λ ts. group_with ts path) tagged);
      groups = groups ∙ sym (ap txn_groups_of tagged);
    }
  where
    none_in : txns_in draft ≡ []
    none_in = ap (map (λ (t : Bor Txn). t.now)) txns

    tagged : tagged_in draft ≡ []
    tagged = λ i. zip (numbers i) (none_in i)

-- More paths have a number.
pub numbered_draft : (draft : Draft) (owners : Owners) → IsDraft draft → HaveNumbered draft.owners owners
    → IsDraft (record draft { owners = owners })
numbered_draft draft owners is kept =
    record {
      numbers = is.numbers;
      beside = kept.beside;
      owners = λ q. kept.owners q ∙ is.owners q;
      groups = is.groups;
    }

-- The paths that no group owns are the same.
pub unowned_as_before : (old new : Owners) (paths : List Bytes) → HaveNumbered old new
    → unowned_paths (get_by_path old) paths ≡ unowned_paths (get_by_path new) paths
unowned_as_before old new paths kept =
    sym (ap (λ (f : Bytes → Option ℕ). unowned_paths f paths) (λ i q. kept.owners q i))

by_the_paths : (before : List GroupedTxn) (t : Txn) → is_barrier t ≡ false
    → group_of_next before t ≡ group_for before (footprint t)
by_the_paths before t free = ap (λ b. cond b None (group_for before (footprint t))) free

lt_test : (a b : ℕ) → a < b → nat_lt a b ≡ true
lt_test a b h = grind (arith, nat_tests)

ge_test : (a b : ℕ) → b ≤ a → nat_lt a b ≡ false
ge_test a b h = grind (arith, nat_tests)

module _ (limits : LimitNumbers) (draft : Draft) (is : IsDraft draft) (t : Txn) where
  taken_when : (b : Bool) → nat_lt (length (tagged_in draft)) limits.batch ≡ b
      → group_taken limits (tagged_in draft) t
      ≡ cond b (group_within_limit limits.groups (group_of_next (tagged_in draft) t)) None
  taken_when b e = ap (λ b. cond b (group_within_limit limits.groups (group_of_next (tagged_in draft) t)) None) e

  pub full_takes_none : limits.batch ≤ length draft.txns.items → group_taken limits (tagged_in draft) t ≡ None
  full_takes_none full =
      let long = length_in draft is ∙ count_in draft in
      taken_when false (ge_test (length (tagged_in draft)) limits.batch (omega arith))

  module _ (room : length draft.txns.items < limits.batch) where
    with_room : group_taken limits (tagged_in draft) t
        ≡ group_within_limit limits.groups (group_of_next (tagged_in draft) t)
    with_room =
        let long = length_in draft is ∙ count_in draft in
        taken_when true (lt_test (length (tagged_in draft)) limits.batch (omega arith))

    pub barrier_not_taken : is_barrier t ≡ true → group_taken limits (tagged_in draft) t ≡ None
    barrier_not_taken e =
        with_room ∙ ap (λ b. group_within_limit limits.groups
        (cond b None (group_for (tagged_in draft) (footprint t)))) e

    module _ (free : is_barrier t ≡ false) (paths : List Bytes) (has : paths ≡ footprint t) where
      by_paths : group_taken limits (tagged_in draft) t
          ≡ group_within_limit limits.groups (group_for (tagged_in draft) paths)
      by_paths =
          with_room
          ∙ ap (group_within_limit limits.groups) (by_the_paths (tagged_in draft) t free)
          ∙ ap (λ ps. group_within_limit limits.groups (group_for (tagged_in draft) ps)) (sym has)

      pub without_group : group_for (tagged_in draft) paths ≡ None → group_taken limits (tagged_in draft) t ≡ None
      without_group e = by_paths ∙ ap (group_within_limit limits.groups) e

      pub past_the_last : (k : ℕ) → group_for (tagged_in draft) paths ≡ Some k → limits.groups ≤ k
          → group_taken limits (tagged_in draft) t ≡ None
      past_the_last k e past =
          by_paths ∙ ap (group_within_limit limits.groups) e
          ∙ ap (λ b. cond b (Some k) None) (ge_test k limits.groups past)

      pub into_group : (k : ℕ) → group_for (tagged_in draft) paths ≡ Some k → k < limits.groups
          → group_taken limits (tagged_in draft) t ≡ Some k
      into_group k e fits =
          by_paths ∙ ap (group_within_limit limits.groups) e
          ∙ ap (λ b. cond b (Some k) None) (lt_test k limits.groups fits)

-- ---- one more transaction

pub record Gained (old new : Draft) (k : ℕ) (t : Txn) : Type 0 where
  pub draft : IsDraft new
  pub taken : tagged_in new ≡ tagged_in old ++ (k, t) ∷ []

pub gained : (old new : Draft) (k : ℕ) (t : Txn) (paths : List Bytes) → IsDraft old
    → group_for (tagged_in old) (footprint t) ≡ Some k → paths ≡ unowned_paths (get_by_path old.owners) (footprint t)
    → new.numbers.items ≡ old.numbers.items ++ k ∷ [] → txns_in new ≡ txns_in old ++ t ∷ []
    → AreBeside new.owners
    → ((q : Bytes) → get_by_path new.owners q ≡ cond (has_path paths q) (Some k) (get_by_path old.owners q))
    → new.groups.items ≡ with_member old.groups.items k (length (txns_in old)) paths → Gained old new k t
gained old new k t paths is for are numbers txns beside owners groups =
    record {
      draft = record {
        numbers = let m = ap length numbers in let n = ap length txns in
            let o = length-append old.numbers.items (k ∷ []) in let p = length-append (txns_in old) (t ∷ []) in
            let q = is.numbers in omega arith;
        beside = beside;
        owners = λ q.
            owners q ∙ ap (cond (has_path paths q) (Some k)) (is.owners q)
            ∙ ap (λ ps. cond (has_path ps q) (Some k) (group_with (tagged_in old) q)) unowned
            ∙ owner_now (tagged_in old) k t q
            ∙ ap (λ ts. group_with ts q) (sym taken);
        groups = groups
            ∙ ap (λ cs. with_member cs k (length (txns_in old)) paths) is.groups
            ∙ ap (λ n. with_member (txn_groups_of (tagged_in old)) k n paths) (sym (length_in old is))
            ∙ sym (classes_of-behind (tagged_in old) k t paths gains below)
            ∙ ap txn_groups_of (sym taken);
      };
      taken = taken;
    }
  where
    unowned : paths ≡ unowned_paths (group_with (tagged_in old)) (footprint t)
    unowned = are ∙ ap (λ (f : Bytes → Option ℕ). unowned_paths f (footprint t)) (λ i path. is.owners path i)

    gains : (q : Bytes) → GainsPath k (tagged_in old) paths t q
    gains q =
        ap (λ ps. has_path (paths_in k (tagged_in old)) q || has_path ps q) unowned
        ∙ others_are_there (tagged_in old) (footprint t) k for q

    below : k ≤ group_count (tagged_in old)
    below = group_for-below (tagged_in old) (footprint t) k for

    taken : tagged_in new ≡ tagged_in old ++ (k, t) ∷ []
    taken = (λ i. zip (numbers i) (txns i)) ∙ zip-behind old.numbers.items (txns_in old) k t is.numbers

-- ---- a list of transactions

takes_next : (limits : LimitNumbers) (before : List GroupedTxn) (t : Txn) (k : ℕ) (ts : List Txn)
    → group_taken limits before t ≡ Some k
    → tagged_front_after limits before (t ∷ ts) ≡ tagged_front_after limits (before ++ (k, t) ∷ []) ts
takes_next limits before t k ts is =
    ap (λ o. option_map_or (λ j. tagged_front_after limits (before ++ (j, t) ∷ []) ts) o before) is

takes_no_more : (limits : LimitNumbers) (before : List GroupedTxn) (t : Txn) (ts : List Txn)
    → group_taken limits before t ≡ None → tagged_front_after limits before (t ∷ ts) ≡ before
takes_no_more limits before t ts is =
    ap (λ o. option_map_or (λ j. tagged_front_after limits (before ++ (j, t) ∷ []) ts) o before) is

module _ (limits : LimitNumbers) (txns : List Txn) (i : ℕ) (t : Txn) (next : IsNext txns i t) where
  pub next_taken : (old new all : List GroupedTxn) (b : Bool) → b ≡ true → HasTaken limits old t b new
      → tagged_front_after limits old (drop i txns) ≡ all → tagged_front_after limits new (drop (i + 1) txns) ≡ all
  next_taken old new all false e has is = absurd (true≢false (sym e))
  next_taken old new all true e has is =
      ap (λ ts. tagged_front_after limits ts (drop (i + 1) txns)) has.1.1
      ∙ sym (takes_next limits old t has.0 (drop (i + 1) txns) has.1.0)
      ∙ sym (ap (tagged_front_after limits old) next)
      ∙ is

  pub next_not_taken : (old new all : List GroupedTxn) (b : Bool) → b ≡ false → HasTaken limits old t b new
      → tagged_front_after limits old (drop i txns) ≡ all → new ≡ all
  next_not_taken old new all true e has is = absurd (true≢false e)
  next_not_taken old new all false e has is =
      has.1
      ∙ sym (takes_no_more limits old t (drop (i + 1) txns) has.0)
      ∙ sym (ap (tagged_front_after limits old) next)
      ∙ is

-- ---- the batch of a draft

module _ (limits : LimitNumbers) (txns : List Txn) (draft : Draft) (is : IsDraft draft) where
  module _ (taken : tagged_in draft ≡ tagged_front_after limits [] txns) (ok : are_limits limits ≡ true) where
    txns_are : (txns_in draft) ≡ batch_of (tagged_front_after limits [] txns)
    txns_are = sym (batch_in draft is) ∙ ap batch_of taken

    grouped_are : tagged_txns (txns_in draft) ≡ Some (tagged_front_after limits [] txns)
    grouped_are = ap tagged_txns txns_are ∙ taken_is_grouped limits txns ok

    groups_are : draft.groups.items ≡ groups_of (txns_in draft)
    groups_are = is.groups ∙ ap txn_groups_of taken ∙ sym (ap groups_if_tagged grouped_are)

    are_a_batch : is_batch (txns_in draft) ≡ true
    are_a_batch =
        ap (λ o. is_barrier_alone (txns_in draft) || is_some o) grouped_are
        ∙ or_true (is_barrier_alone (txns_in draft))

    long : length (tagged_front_after limits [] txns) ≡ length (txns_in draft)
    long = ap length (sym taken) ∙ length_in draft is

    pub nothing_but_barrier : (n : ℕ) → n ≡ length draft.txns.items → n ≡ 0 → BeginsWithBarrier txns
    nothing_but_barrier n is none = begins_with_barrier limits txns ok (long ∙ count_in draft ∙ sym is ∙ none)

    module _ (n : ℕ) (count : n ≡ length draft.txns.items) (some : n ≢ 0) where
      the_cut : txns_in draft ≡ cut limits txns
      the_cut =
          let above : 1 ≤ n = not_zero n some in
          txns_are
          ∙ taken_is_cut limits txns ok (subst (λ m. 1 ≤ m) (count ∙ sym (count_in draft) ∙ sym long) above)
        where
          not_zero : (n : ℕ) → n ≢ 0 → 1 ≤ n
          not_zero zero some = absurd (some refl)
          not_zero (suc n) some = omega arith

      -- The draft's transactions are at the front of the list.
      pub front_is : take n txns ≡ cut limits txns
      front_is =
          ap (λ m. take m txns) (count ∙ sym (count_in draft) ∙ ap length txns_are)
          ∙ taken_is_front limits txns ok
          ∙ sym txns_are
          ∙ the_cut

      front_within : n ≤ length txns
      front_within =
          let all = length-take n txns in
          let same = ap length front_is ∙ ap length (sym the_cut) ∙ count_in draft ∙ sym count in
          omega arith

      taken_is : txns_in draft ≡ take n txns
      taken_is = the_cut ∙ sym front_is

      pub is_front : IsFrontOf (record { count = n; groups = draft.groups.items }) txns
      is_front = record {
        within = front_within;
        groups = groups_are ∙ ap groups_of taken_is;
        batch = ap is_batch (sym taken_is) ∙ are_a_batch;
      }

-- ---- a group in a list of groups

put_joined : (cs : List TxnGroup) (k place : ℕ) (ps : List Bytes) (old : TxnGroup) → k < length cs
    → old ≡ get_or cs k old
    → set cs k (with_txn_at old place ps) ≡ with_member cs k place ps
put_joined [] k place ps old within is = absurd (omega arith)
put_joined (c ∷ cs) zero place ps old within is = λ i. with_txn_at (is i) place ps ∷ cs
put_joined (c ∷ cs) (suc k) place ps old within is = ap (λ r. c ∷ r) (put_joined cs k place ps old (omega arith) is)

pub put_within : {A E : Type 0} (r : Result A E) (cs : List TxnGroup) (k place : ℕ) (ps : List Bytes)
    (old new : TxnGroup)
    → k < length cs → old ≡ get_or cs k old → OnOk r (new ≡ with_txn_at old place ps)
    → OnOk r (set cs k new ≡ with_member cs k place ps)
put_within (Ok x) cs k place ps old new within is joins = ap (set cs k) joins ∙ put_joined cs k place ps old within is
put_within (Err e) cs k place ps old new within is joins = tt

pub put_behind : (cs : List TxnGroup) (k place : ℕ) (ps : List Bytes) (new : TxnGroup) → length cs ≤ k
    → new ≡ with_txn_at empty_group place ps → cs ++ new ∷ [] ≡ with_member cs k place ps
put_behind [] k place ps new past is = ap (λ c. c ∷ []) is
put_behind (c ∷ cs) zero place ps new past is = absurd (omega arith)
put_behind (c ∷ cs) (suc k) place ps new past is = ap (λ r. c ∷ r) (put_behind cs k place ps new (omega arith) is)
