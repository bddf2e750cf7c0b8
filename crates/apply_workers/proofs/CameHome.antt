-- The cells and outcomes of all groups, and the places of their outcomes.
use Rattle.std.proofs.Common.{◌≡◌, ℕ, suc, ◌+◌, ◌<◌, ◌≤◌, List, [], ◌∷◌, ◌++◌, true, false, Option, Some, None, Result, Ok, Err, IfOk, map, length, get_or, set, All, refl, sym, ap, ◌∙◌, subst, subst₂, arith, append_assoc, length-set}
use Rattle.std.proofs.lemmas.Option.{none-some}
use mathlib.Core.Option.{some}
use Rattle.std.specs.List.{AllByRecursion}
use Rattle.std.specs.Option.{option_and_then}
use Rattle.apply_board.specs.declared.group.Group.{Group}
use Rattle.apply_board.specs.declared.group.Group.TheVariants.{Home}
use Rattle.apply_board.specs.Closing.{AreHome}
use Rattle.txn_codec.specs.declared.txn.Txn.{Txn}
use Rattle.data_tree.specs.State.{State}
use Rattle.data_tree.specs.Cells.{without_cells}
use Rattle.data_tree.specs.Commuting.{GroupedTxn}
use Rattle.data_tree.specs.declared.outcome.Outcome.{Outcome}
use Rattle.batcher.specs.Class.{TxnGroup}
use Rattle.batcher.specs.Groups.{group_count, tagged_txns, tagged_txns_after, group_of_next, txn_groups_of}
use Rattle.batcher.specs.Cut.{groups_of, groups_if_tagged, is_batch, is_barrier_alone}
use Rattle.apply_workers.specs.declared.group_work.Work.{Work}
use Rattle.apply_workers.specs.declared.group_work.Finished.{Finished}
use Rattle.apply_workers.specs.declared.group_work.Finished.TheVariants.{Done}
use Rattle.apply_workers.specs.Works.{cells_of, txns_of, IsOfWork}
use Rattle.apply_workers.specs.Taking.{cells_of_each}
use Rattle.apply_workers.specs.Homing.{split_by_group, after_each, outcomes_of_each, IsSplitByGroup}
use Rattle.apply_workers.specs.Inner.{finished_groups, put_at, put_each_at}
use Rattle.apply_workers.proofs.Places.{class_below, shares_are_whole}
use Rattle.apply_workers.proofs.Returning.{has_groups, classes_length}

pub if_ok : {A E : Type 0} {P Q : A → Type 0} (r : Result A E) → ((a : A) → P a → Q a) → IfOk r P → IfOk r Q
if_ok (Ok a) f h = f a h
if_ok (Err e) f h = tt

-- ---- groups that were given back

homes_behind : (cs : List State) (os : List (List Outcome)) (c : State) (o : List Outcome) → length cs ≡ length os
    → finished_groups (cs ++ c ∷ []) (os ++ o ∷ []) ≡ finished_groups cs os ++ Home (Done c o) ∷ []
homes_behind [] [] c o l = refl
homes_behind [] (p ∷ ps) c o l = absurd (omega arith)
homes_behind (d ∷ ds) [] c o l = absurd (omega arith)
homes_behind (d ∷ ds) (p ∷ ps) c o l = λ i. Home (Done d p) ∷ homes_behind ds ps c o (omega arith) i

pub one_more_home : (cs cs' : List State) (os os' : List (List Outcome)) (c : State) (o : List Outcome)
    (group : Group Work Finished) (old rest groups : List (Group Work Finished)) → old ≡ group ∷ rest
    → group ≡ Home (Done c o) → cs' ≡ cs ++ c ∷ [] → os' ≡ os ++ o ∷ [] → length cs ≡ length os
    → finished_groups cs os ++ old ≡ groups → finished_groups cs' os' ++ rest ≡ groups
one_more_home cs cs' os os' c o group old rest groups next is left answered l before =
    subst₂ (λ ds ps. finished_groups ds ps ++ rest ≡ groups) (sym left) (sym answered)
    (ap (λ gs. gs ++ rest) (homes_behind cs os c o l)
    ∙ append_assoc (finished_groups cs os) (Home (Done c o) ∷ []) rest
    ∙ ap (λ g. finished_groups cs os ++ g ∷ rest) (sym is)
    ∙ ap (λ gs. finished_groups cs os ++ gs) (sym next)
    ∙ before)

homes_length : (cs : List State) (os : List (List Outcome)) → length cs ≡ length os
    → length (finished_groups cs os) ≡ length cs
homes_length [] os l = refl
homes_length (c ∷ cs) [] l = absurd (omega arith)
homes_length (c ∷ cs) (o ∷ os) l = omega (arith, homes_length cs os (omega arith))

abbrev home_of : Finished → Group Work Finished
home_of finished = Home finished

same_home : (c : State) (o : List Outcome) (finished : Finished) → some (home_of (Done c o)) ≡ some (home_of finished)
    → Done c o ≡ finished
same_home c o finished e = cc

-- What each work leaves, and its outcomes.
record AreDone (works : List Work) (cs : List State) (os : List (List Outcome)) : Type 0 where
  left : cs ≡ after_each (map cells_of works) (map txns_of works)
  answered : os ≡ outcomes_of_each (map cells_of works) (map txns_of works)

all_done : (works : List Work) (cs : List State) (os : List (List Outcome)) → length cs ≡ length works
    → length cs ≡ length os → AreHome IsOfWork works (finished_groups cs os) → AreDone works cs os
all_done [] [] [] l m h = record { left = refl; answered = refl }
all_done [] [] (o ∷ os) l m h = absurd (omega arith)
all_done [] (c ∷ cs) os l m h = absurd (omega arith)
all_done (w ∷ ws) [] os l m h = absurd (omega arith)
all_done (w ∷ ws) (c ∷ cs) [] l m h = absurd (omega arith)
all_done (w ∷ ws) (c ∷ cs) (o ∷ os) l m h =
    let first = h 0 w refl in
    let done = subst (IsOfWork w) (sym (same_home c o first.0 first.1)) first.2 in
    let rest = all_done ws cs os (omega arith) (omega arith) (λ k v e. h (suc k) v e) in
    record { left = λ i. done.state i ∷ rest.left i; answered = λ i. done.outcomes i ∷ rest.answered i }

-- All groups were given back, with their cells after their transactions and their outcomes.
pub record CameHome (taken : List State) (todo : List (List Txn)) (cs : List State) (os : List (List Outcome)) : Type 0
  where
    pub left : cs ≡ after_each taken todo
    pub answered : os ≡ outcomes_of_each taken todo

pub came_home : (works : List Work) (groups : List (Group Work Finished)) (taken : List State) (todo : List (List Txn))
    (cs : List State) (os : List (List Outcome)) → length groups ≡ length works → AreHome IsOfWork works groups
    → groups ≡ finished_groups cs os → length cs ≡ length os → map cells_of works ≡ taken → map txns_of works ≡ todo
    → CameHome taken todo cs os
came_home works groups taken todo cs os l home is m cells txns =
    let count : length cs ≡ length works = sym (homes_length cs os m) ∙ ap (λ gs. length gs) (sym is) ∙ l in
    let done = all_done works cs os count m (subst (AreHome IsOfWork works) is home) in
    record {
      left = done.left ∙ subst₂ (λ a b. after_each (map cells_of works) (map txns_of works) ≡ after_each a b) cells txns
          refl;
      answered = done.answered
          ∙ subst₂ (λ a b. outcomes_of_each (map cells_of works) (map txns_of works) ≡ outcomes_of_each a b) cells txns
          refl;
    }

pub cells_length : (cs : List TxnGroup) (s : State) → length (cells_of_each cs s) ≡ length cs
cells_length [] s = refl
cells_length (c ∷ cs) s = omega (arith, cells_length cs (without_cells c.paths s))

-- ---- groups and their places

behind_length : (before : List GroupedTxn) (t : GroupedTxn) → length (before ++ t ∷ []) ≡ length before + 1
behind_length [] t = refl
behind_length (b ∷ bs) t = omega (arith, behind_length bs t)

grouped_length : (before : List GroupedTxn) (txns : List Txn) (ts : List GroupedTxn)
    → tagged_txns_after before txns ≡ Some ts
    → length ts ≡ length before + length txns
grouped_length before [] ts e = let same : before ≡ ts = cc in omega (arith, ap (λ us. length us) same)
grouped_length before (t ∷ txns) ts e =
    by (λ k. grouped_length (before ++ (k, t) ∷ []) txns ts) (group_of_next before t) e
  where
    by : ((k : ℕ) → tagged_txns_after (before ++ (k, t) ∷ []) txns ≡ Some ts
        → length ts ≡ length (before ++ (k, t) ∷ []) + length txns)
        → (o : Option ℕ) → option_and_then (λ k. tagged_txns_after (before ++ (k, t) ∷ []) txns) o ≡ Some ts
        → length ts ≡ length before + length (t ∷ txns)
    by rest None is = absurd (none-some ts is)
    by rest (Some k) is = let r = rest k is in let l = behind_length before (k, t) in omega arith

below : (ts : List GroupedTxn) (n : ℕ) → group_count ts ≤ n → AllByRecursion (λ (t : GroupedTxn). t.0 < n) ts
below [] n h = tt
below (t ∷ ts) n h = (omega arith, below ts n (omega arith))

-- A group's places are places of the batch.
pub members_within : (txns : List Txn) (i : ℕ) (d : TxnGroup) → i < length (groups_of txns)
    → All (λ p. p < length txns) (get_or (groups_of txns) i d).members
members_within txns i d l = by (tagged_txns txns) refl l
  where
    by : (o : Option (List GroupedTxn)) → tagged_txns txns ≡ o → i < length (groups_if_tagged o)
        → All (λ p. p < length txns) (get_or (groups_if_tagged o) i d).members
    by None e n = absurd (omega arith)
    by (Some ts) e n =
        let count = classes_length ts 0 (group_count ts) in
        subst (λ m. All (λ p. p < m) (get_or (txn_groups_of ts) i d).members)
        (grouped_length [] txns ts e ∙ omega arith) (class_below ts 0 (group_count ts) i d (omega arith))

module _ {A : Type 0} where
  pub put_none : (all : List A) (ps : List ℕ) → put_at all ps [] ≡ all
  put_none all [] = refl
  put_none all (p ∷ ps) = refl

  pub put_no_share : (all : List A) (cs : List TxnGroup) → put_each_at all cs [] ≡ all
  put_no_share all [] = refl
  put_no_share all (c ∷ cs) = refl

  pub put_length : (all : List A) (ps : List ℕ) (xs : List A) → length (put_at all ps xs) ≡ length all
  put_length all [] xs = refl
  put_length all (p ∷ ps) [] = refl
  put_length all (p ∷ ps) (x ∷ xs) = put_length (set all p x) ps xs ∙ length-set all p x

  pub one_share_more : (all new : List A) (cs cs' : List TxnGroup) (c : TxnGroup) (shares shares' : List (List A))
      (xs whole : List A) → cs ≡ c ∷ cs' → shares ≡ xs ∷ shares' → new ≡ put_at all c.members xs
      → put_each_at all cs shares ≡ whole → put_each_at new cs' shares' ≡ whole
  one_share_more all new cs cs' c shares shares' xs whole next share put before =
      ap (λ l. put_each_at l cs' shares') put
      ∙ subst₂ (λ ds ss. put_each_at all ds ss ≡ whole) next share before

  -- The shares at their places are the whole list.
  pub all_placed : (txns : List Txn) → is_batch txns ≡ true → is_barrier_alone txns ≡ false → (whole xs : List A)
      (shares : List (List A)) → length xs ≡ length txns → IsSplitByGroup txns whole shares
      → put_each_at xs (groups_of txns) shares ≡ whole
  all_placed txns batch alone whole xs shares l are =
      let found = has_groups txns batch alone in
      let ts = found.0 in
      let is : groups_of txns ≡ txn_groups_of ts = ap groups_if_tagged found.1 in
      let count : length ts ≡ length txns = grouped_length [] txns ts found.1 ∙ omega arith in
      ap (λ ss. put_each_at xs (groups_of txns) ss) are.each
      ∙ subst (λ cs. put_each_at xs cs (split_by_group whole cs) ≡ whole) (sym is)
      (shares_are_whole (group_count ts) ts whole xs (below ts (group_count ts) (omega arith)) (are.count ∙ sym count)
      (l ∙ sym count))
