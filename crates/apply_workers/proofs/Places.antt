-- The elements at groups' places, and a list made from the groups' shares.
use Rattle.std.proofs.Common.{◌≡◌, ℕ, zero, suc, ◌+◌, ◌<◌, ◌≤◌, ◌==◌, List, [], ◌∷◌, ◌++◌, Bool, true, false, cond, Some, map, length, get_or, set, All, inl, inr, ◌⊎◌, refl, sym, ap, ◌∙◌, subst, arith, append_assoc, length-append, eq-or-lt_of_le}
use Rattle.std.proofs.lemmas.Bool.{eq-eqb}
use Rattle.std.specs.List.{cons_option, slice_get, range_with_len, AllByRecursion}
use Rattle.data_tree.specs.Commuting.{GroupedTxn, txns_of_group, entries_of_group, batch_of}
use Rattle.batcher.specs.Groups.{places_from, txn_group_at}
use Rattle.batcher.specs.Class.{TxnGroup}
use Rattle.apply_workers.specs.Places.{at_places}
use Rattle.apply_workers.specs.Homing.{split_by_group}
use Rattle.apply_workers.specs.Inner.{put_at, put_each_at}

-- ---- the elements at a group's places

get_behind : {A : Type 0} (front : List A) (x : A) (xs : List A) → slice_get (front ++ x ∷ xs) (length front) ≡ Some x
get_behind [] x xs = refl
get_behind (y ∷ ys) x xs = get_behind ys x xs

at_places_behind : {A : Type 0} (k n : ℕ) (ts : List GroupedTxn) (front xs : List A) → n ≡ length front
    → length xs ≡ length ts → at_places (front ++ xs) (places_from n k ts) ≡ entries_of_group k ts xs
at_places_behind k n [] front xs e l = refl
at_places_behind k n (t ∷ ts) front [] e l = absurd (omega arith)
at_places_behind {A} k n (t ∷ ts) front (x ∷ xs) e l =
    let longer = length-append front (x ∷ []) in
    by (t.0 == k)
    (subst (λ (all : List A). at_places all (places_from (n + 1) k ts) ≡ entries_of_group k ts xs)
    (append_assoc front (x ∷ []) xs)
    (at_places_behind k (n + 1) ts (front ++ x ∷ []) xs (omega arith) (omega arith)))
  where
    by : (b : Bool) → at_places (front ++ x ∷ xs) (places_from (n + 1) k ts) ≡ entries_of_group k ts xs
        → at_places (front ++ x ∷ xs) (cond b (n ∷ places_from (n + 1) k ts) (places_from (n + 1) k ts))
        ≡ cond b (x ∷ entries_of_group k ts xs) (entries_of_group k ts xs)
    by true r =
        ap (λ o. cons_option o (at_places (front ++ x ∷ xs) (places_from (n + 1) k ts)))
        (subst (λ m. slice_get (front ++ x ∷ xs) m ≡ Some x) (sym e) (get_behind front x xs))
        ∙ (λ i. x ∷ r i)
    by false r = r

pub at_its_places : {A : Type 0} (k : ℕ) (ts : List GroupedTxn) (xs : List A) → length xs ≡ length ts
    → at_places xs (places_from 0 k ts) ≡ entries_of_group k ts xs
at_its_places k ts xs l = at_places_behind k 0 ts [] xs refl l

pub own_txns : (k : ℕ) (ts : List GroupedTxn) → entries_of_group k ts (batch_of ts) ≡ txns_of_group k ts
own_txns k [] = refl
own_txns k (t ∷ ts) = by (t.0 == k) (own_txns k ts)
  where
    by : (b : Bool) → entries_of_group k ts (batch_of ts) ≡ txns_of_group k ts
        → cond b (t.1 ∷ entries_of_group k ts (batch_of ts)) (entries_of_group k ts (batch_of ts))
        ≡ cond b (t.1 ∷ txns_of_group k ts) (txns_of_group k ts)
    by true r = λ i. t.1 ∷ r i
    by false r = r

pub batch_length : (ts : List GroupedTxn) → length (batch_of ts) ≡ length ts
batch_length [] = refl
batch_length (t ∷ ts) = omega (arith, batch_length ts)

pub txns_at_places : (k : ℕ) (ts : List GroupedTxn) → at_places (batch_of ts) (places_from 0 k ts) ≡ txns_of_group k ts
txns_at_places k ts = at_its_places k ts (batch_of ts) (batch_length ts) ∙ own_txns k ts

-- ---- a group's places are within the batch

-- One more at the front.
begins : (m n : ℕ) (ps : List ℕ) → n < m → All (λ p. p < m) ps → All (λ p. p < m) (n ∷ ps)
begins m n ps l h zero d i = l
begins m n ps l h (suc j) d i = h j d (omega arith)

pub places_below : (n k : ℕ) (ts : List GroupedTxn) → All (λ p. p < n + length ts) (places_from n k ts)
places_below n k [] = λ i d l. absurd (omega arith)
places_below n k (t ∷ ts) = by (t.0 == k)
    (λ i d l. let h = places_below (n + 1) k ts i d l in omega arith)
  where
    by : (b : Bool) → All (λ p. p < n + length (t ∷ ts)) (places_from (n + 1) k ts)
        → All (λ p. p < n + length (t ∷ ts)) (cond b (n ∷ places_from (n + 1) k ts) (places_from (n + 1) k ts))
    by true h = begins (n + length (t ∷ ts)) n (places_from (n + 1) k ts) (omega arith) h
    by false h = h

pub class_below : (ts : List GroupedTxn) (j m i : ℕ) (d : TxnGroup) → i < m
    → All (λ p. p < length ts) (get_or (map (txn_group_at ts) (range_with_len j m)) i d).members
class_below ts j zero i d l = absurd (omega arith)
class_below ts j (suc m) zero d l = subst (λ n. All (λ p. p < n) (places_from 0 j ts)) (omega arith)
    (places_below 0 j ts)
class_below ts j (suc m) (suc i) d l = class_below ts (j + 1) m i d (omega arith)

-- ---- shares that are put at their places

module _ {A : Type 0} where
  -- The group's elements of ws in place of those of xs.
  abbrev filled : ℕ → List GroupedTxn → List A → List A → List A
  filled k [] ws xs = xs
  filled k (t ∷ ts) [] xs = xs
  filled k (t ∷ ts) (w ∷ ws) [] = []
  filled k (t ∷ ts) (w ∷ ws) (x ∷ xs) = cond (t.0 == k) w x ∷ filled k ts ws xs

  filled_length : (k : ℕ) (ts : List GroupedTxn) (ws xs : List A) → length (filled k ts ws xs) ≡ length xs
  filled_length k [] ws xs = refl
  filled_length k (t ∷ ts) [] xs = refl
  filled_length k (t ∷ ts) (w ∷ ws) [] = refl
  filled_length k (t ∷ ts) (w ∷ ws) (x ∷ xs) = omega (arith, filled_length k ts ws xs)

  set_behind : (front : List A) (x y : A) (xs : List A) → set (front ++ x ∷ xs) (length front) y ≡ front ++ y ∷ xs
  set_behind [] x y xs = refl
  set_behind (z ∷ zs) x y xs = λ i. z ∷ set_behind zs x y xs i

  put_behind : (k n : ℕ) (ts : List GroupedTxn) (front ws xs : List A) → n ≡ length front → length ws ≡ length ts
      → length xs ≡ length ts
      → put_at (front ++ xs) (places_from n k ts) (entries_of_group k ts ws) ≡ front ++ filled k ts ws xs
  put_behind k n [] front ws xs e l m = refl
  put_behind k n (t ∷ ts) front [] xs e l m = absurd (omega arith)
  put_behind k n (t ∷ ts) front (w ∷ ws) [] e l m = absurd (omega arith)
  put_behind k n (t ∷ ts) front (w ∷ ws) (x ∷ xs) e l m = by (t.0 == k) (λ y.
      let longer = length-append front (y ∷ []) in
      ap (λ all. put_at all (places_from (n + 1) k ts) (entries_of_group k ts ws))
      (sym (append_assoc front (y ∷ []) xs))
      ∙ put_behind k (n + 1) ts (front ++ y ∷ []) ws xs (omega arith) (omega arith) (omega arith)
      ∙ append_assoc front (y ∷ []) (filled k ts ws xs))
    where
      by : (b : Bool)
          → ((y : A) → put_at (front ++ y ∷ xs) (places_from (n + 1) k ts) (entries_of_group k ts ws)
          ≡ front ++ y ∷ filled k ts ws xs)
          → put_at (front ++ x ∷ xs) (cond b (n ∷ places_from (n + 1) k ts) (places_from (n + 1) k ts))
          (cond b (w ∷ entries_of_group k ts ws) (entries_of_group k ts ws))
          ≡ front ++ cond b w x ∷ filled k ts ws xs
      by true rest =
          ap (λ all. put_at all (places_from (n + 1) k ts) (entries_of_group k ts ws))
          (subst (λ i. set (front ++ x ∷ xs) i w ≡ front ++ w ∷ xs) (sym e) (set_behind front x w xs))
          ∙ rest w
      by false rest = rest x

  -- The same for this many groups, from group j on.
  abbrev filled_from : ℕ → ℕ → List GroupedTxn → List A → List A → List A
  filled_from j zero ts ws xs = xs
  filled_from j (suc m) ts ws xs = filled_from (j + 1) m ts ws (filled j ts ws xs)

  put_all : (j m : ℕ) (ts : List GroupedTxn) (ws xs : List A) → length ws ≡ length ts → length xs ≡ length ts
      → put_each_at xs (map (txn_group_at ts) (range_with_len j m))
      (split_by_group ws (map (txn_group_at ts) (range_with_len j m)))
      ≡ filled_from j m ts ws xs
  put_all j zero ts ws xs l n = refl
  put_all j (suc m) ts ws xs l n =
      ap (λ share. put_each_at (put_at xs (places_from 0 j ts) share) (map (txn_group_at ts) (range_with_len (j + 1) m))
      (split_by_group ws (map (txn_group_at ts) (range_with_len (j + 1) m)))) (at_its_places j ts ws l)
      ∙ ap (λ all. put_each_at all (map (txn_group_at ts) (range_with_len (j + 1) m))
      (split_by_group ws (map (txn_group_at ts) (range_with_len (j + 1) m)))) (put_behind j 0 ts [] ws xs refl l n)
      ∙ put_all (j + 1) m ts ws (filled j ts ws xs) l (filled_length j ts ws xs ∙ n)

  -- The element of a transaction of group i.
  abbrev item_from : ℕ → ℕ → ℕ → A → A → A
  item_from j zero i w x = x
  item_from j (suc m) i w x = item_from (j + 1) m i w (cond (i == j) w x)

  first_item : (j m : ℕ) (t : GroupedTxn) (ts : List GroupedTxn) (w x : A) (ws xs : List A)
      → filled_from j m (t ∷ ts) (w ∷ ws) (x ∷ xs) ≡ item_from j m t.0 w x ∷ filled_from j m ts ws xs
  first_item j zero t ts w x ws xs = refl
  first_item j (suc m) t ts w x ws xs = first_item (j + 1) m t ts w (cond (t.0 == j) w x) ws (filled j ts ws xs)

  item_stays : (j m i : ℕ) (w x : A) → x ≡ w → item_from j m i w x ≡ w
  item_stays j zero i w x e = e
  item_stays j (suc m) i w x e = item_stays (j + 1) m i w (cond (i == j) w x) (by (i == j))
    where
      by : (b : Bool) → cond b w x ≡ w
      by true = refl
      by false = e

  item_is : (j m i : ℕ) (w x : A) → j ≤ i → i < j + m → item_from j m i w x ≡ w
  item_is j zero i w x l n = absurd (omega arith)
  item_is j (suc m) i w x l n = by (eq-or-lt_of_le l)
      (λ k. item_is (j + 1) m i w (cond (i == j) w x) (omega arith) (omega arith))
    where
      by : (j ≡ i) ⊎ (j < i) → (j < i → item_from j (suc m) i w x ≡ w) → item_from j (suc m) i w x ≡ w
      by (inl e) rest = item_stays (j + 1) m i w (cond (i == j) w x) (ap (λ b. cond b w x) (eq-eqb i j (sym e)))
      by (inr k) rest = rest k

  none_filled : (j m : ℕ) → filled_from j m [] [] [] ≡ []
  none_filled j zero = refl
  none_filled j (suc m) = none_filled (j + 1) m

  all_filled : (n : ℕ) (ts : List GroupedTxn) (ws xs : List A) → AllByRecursion (λ (t : GroupedTxn). t.0 < n) ts
      → length ws ≡ length ts → length xs ≡ length ts → filled_from 0 n ts ws xs ≡ ws
  all_filled n [] [] [] below l m = none_filled 0 n
  all_filled n [] (w ∷ ws) xs below l m = absurd (omega arith)
  all_filled n [] [] (x ∷ xs) below l m = absurd (omega arith)
  all_filled n (t ∷ ts) [] xs below l m = absurd (omega arith)
  all_filled n (t ∷ ts) (w ∷ ws) [] below l m = absurd (omega arith)
  all_filled n (t ∷ ts) (w ∷ ws) (x ∷ xs) below l m =
      let first = below.0 in
      first_item 0 n t ts w x ws xs
      ∙ (λ i. item_is 0 n t.0 w x (omega arith) (omega arith) i ∷ filled_from 0 n ts ws xs)
      ∙ (λ i. w ∷ all_filled n ts ws xs below.1 (omega arith) (omega arith) i)

  pub shares_are_whole : (n : ℕ) (ts : List GroupedTxn) (ws xs : List A)
      → AllByRecursion (λ (t : GroupedTxn). t.0 < n) ts
      → length ws ≡ length ts → length xs ≡ length ts
      → put_each_at xs (map (txn_group_at ts) (range_with_len 0 n))
      (split_by_group ws (map (txn_group_at ts) (range_with_len 0 n)))
      ≡ ws
  shares_are_whole n ts ws xs below l m = put_all 0 n ts ws xs l m ∙ all_filled n ts ws xs below l m
