-- A map from unsigned numbers, read as a finite map.
use Rattle.std.proofs.Common.{◌≡◌, ◌≢◌, ℕ, suc, ◌<◌, Bool, true, false, cond, List, [], ◌∷◌, map, length, Option, Some, None, refl, sym, ap, ◌∙◌, arith}
use Rattle.std.specs.Prelude.{IfSome, is_some}
use Rattle.std.specs.declared.cmp.Ordering.TheVariants.{Less, Equal, Greater}
use Rattle.std.specs.BTreeMap as tree
use Rattle.std.specs.BTreeMap.{BTreeMap, is_at}
use Rattle.std.specs.List.{All, AllByRecursion}
use Rattle.std.specs.List.Sorted.{IsStrictlySortedBy}
use Rattle.std.specs.Map.{lookup}
use Rattle.std.specs.Ordering.{eq_by_cmp, nat_cmp, is_eq}
use Rattle.std.specs.Cmp.{nat_cmp_total, eq_by_cmp_equiv}
use Rattle.std.proofs.lemmas.Cmp.{tied_itself}
use Rattle.std.proofs.lemmas.Map.Lookups.{exact_unsigned}
use Rattle.std.proofs.lemmas.Map.Keys.{sorted_head, sorted_tail}
use Rattle.std.specs.FinMap as finmap
use Rattle.std.specs.FinMap.Entries.{by_order}
use Rattle.std.specs.declared.cmp.Ordering.{Ordering}
use mathlib.Core.Bool.{true≢false}

pub same_key : (k : ℕ) → eq_by_cmp nat_cmp k k ≡ true
same_key k = ap is_eq (tied_itself nat_cmp_total k)

pub eq_is : (r : Ordering) → is_eq r ≡ true → r ≡ Equal
eq_is Less e = absurd (true≢false (sym e))
eq_is Equal e = refl
eq_is Greater e = absurd (true≢false (sym e))

each_of_all : {A : Type 0} (P : A → Type 0) (xs : List A) → All P xs → AllByRecursion P xs
each_of_all P [] h = tt
each_of_all P (x ∷ xs) h = (
  h 0 x (omega arith),
  each_of_all P xs (λ k d lt. let next : suc k < length (x ∷ xs) = omega arith in
      h (suc k) d next),
)

sorted_push : (k : ℕ) (new : List ℕ) → AllByRecursion (λ x. nat_cmp k x ≡ Less) new → IsStrictlySortedBy nat_cmp new
    → IsStrictlySortedBy nat_cmp (k ∷ new)
unfolding IsStrictlySortedBy
sorted_push k new h s = (h, s)

sorted_nothing : IsStrictlySortedBy nat_cmp []
unfolding IsStrictlySortedBy
sorted_nothing = tt

module _ {X : Type 0} where
  find-lookup : (es : List (ℕ × X)) (q : ℕ) → finmap.find nat_cmp q es ≡ lookup (is_at (nat_cmp q)) es
  find-lookup [] q = refl
  find-lookup (e ∷ es) q = ap (cond (eq_by_cmp nat_cmp q e.0) (Some e.1)) (find-lookup es q)

  abbrev pub seen : List (ℕ × X) → finmap.FinMap nat_cmp X
  seen es = finmap.from_entries es

  pub get-seen : (m : BTreeMap ℕ X) (q : ℕ) → finmap.get (seen m.entries) q ≡ tree.get nat_cmp m q
  get-seen m q = finmap.get-from_entries nat_cmp_total m.entries q ∙ find-lookup m.entries q

  get-updated : (k : ℕ) (m n : BTreeMap ℕ X) (w : Option X) → tree.UpdatesBy nat_cmp (nat_cmp k) m n w → (q : ℕ)
      → finmap.get (seen n.entries) q ≡ cond (eq_by_cmp nat_cmp q k) w (finmap.get (seen m.entries) q)
  get-updated k m n w u q =
      get-seen n q ∙ u.0 q
      ∙ ap (λ b. cond b w (tree.get nat_cmp m q)) ((eq_by_cmp_equiv nat_cmp_total).symm k q)
      ∙ ap (cond (eq_by_cmp nat_cmp q k) w) (sym (get-seen m q))

  pub seen-insert : (k : ℕ) (m n : BTreeMap ℕ X) (v : X) → tree.UpdatesBy nat_cmp (nat_cmp k) m n (Some v)
      → seen n.entries ≡ finmap.insert (seen m.entries) k v
  seen-insert k m n v u = finmap.same_map nat_cmp_total exact_unsigned _ _
      (λ q. get-updated k m n (Some v) u q ∙ sym (finmap.get-insert nat_cmp_total (seen m.entries) k v q))

  pub seen-remove : (k : ℕ) (m n : BTreeMap ℕ X) → tree.UpdatesBy nat_cmp (nat_cmp k) m n None
      → seen n.entries ≡ finmap.remove (seen m.entries) k
  seen-remove k m n u = finmap.same_map nat_cmp_total exact_unsigned _ _
      (λ q. get-updated k m n None u q ∙ sym (finmap.get-remove nat_cmp_total (seen m.entries) k q))

  -- ---- keys in order

  put_first : (e : ℕ × X) (es : List (ℕ × X)) → AllByRecursion (λ y. nat_cmp e.0 y ≡ Less) (map (λ (x : ℕ × X). x.0) es)
      → finmap.put nat_cmp e.0 e.1 es ≡ e ∷ es
  put_first e [] h = refl
  put_first e (c ∷ cs) h = ap (λ r. by_order r (e ∷ c ∷ cs) ((c.0, e.1) ∷ cs) (c ∷ finmap.put nat_cmp e.0 e.1 cs)) h.0

  no_entries : (xs : List (ℕ × X)) → length xs ≡ 0 → xs ≡ []
  no_entries [] e = refl
  no_entries (x ∷ xs) e = absurd (omega arith)

  entries-sorted : (es : List (ℕ × X)) → IsStrictlySortedBy nat_cmp (map (λ (x : ℕ × X). x.0) es)
      → finmap.entries (seen es) ≡ es
  entries-sorted [] s = no_entries (finmap.entries (finmap.empty {R = nat_cmp}))
      (sym (finmap.len-entries (finmap.empty {R = nat_cmp})) ∙ finmap.len-empty nat_cmp X)
  entries-sorted (e ∷ es) s =
      finmap.entries-insert nat_cmp_total (seen es) e.0 e.1
      ∙ ap (finmap.put nat_cmp e.0 e.1) (entries-sorted es (sorted_tail nat_cmp e.0 (map (λ (x : ℕ × X). x.0) es) s))
      ∙ put_first e es (sorted_head nat_cmp e.0 (map (λ (x : ℕ × X). x.0) es) s)

  pub keys-sorted : (es : List (ℕ × X)) → IsStrictlySortedBy nat_cmp (map (λ (x : ℕ × X). x.0) es)
      → finmap.keys (seen es) ≡ map (λ (x : ℕ × X). x.0) es
  keys-sorted es s = ap (map (λ (x : ℕ × X). x.0)) (entries-sorted es s)

  -- The first entry is removed.
  pub keys-popped : (r : Option (ℕ × X)) (old new : List (ℕ × X)) → IfSome r (λ p. old ≡ p ∷ new)
      → IfSome r (λ p. All (λ y. nat_cmp p.0 y ≡ Less) (map (λ (x : ℕ × X). x.0) new))
      → IsStrictlySortedBy nat_cmp (map (λ (x : ℕ × X). x.0) new)
      → IfSome r (λ p. finmap.keys (seen old) ≡ p.0 ∷ finmap.keys (seen new))
  keys-popped None old new is above sorted = tt
  keys-popped (Some p) old new is above sorted =
      ap (λ es. finmap.keys (seen es)) is
      ∙ keys-sorted (p ∷ new) (sorted_push p.0 (map (λ (x : ℕ × X). x.0) new)
      (each_of_all (λ y. nat_cmp p.0 y ≡ Less) (map (λ (x : ℕ × X). x.0) new) above) sorted)
      ∙ ap (λ ks. p.0 ∷ ks) (sym (keys-sorted new sorted))

  absent_above : (n : ℕ) (es : List (ℕ × X)) → AllByRecursion (λ y. nat_cmp n y ≡ Less) (map (λ (x : ℕ × X). x.0) es)
      → finmap.find nat_cmp n es ≡ None
  absent_above n [] h = refl
  absent_above n (e ∷ es) h =
      ap (λ r. cond (is_eq r) (Some e.1) (finmap.find nat_cmp n es)) h.0 ∙ absent_above n es h.1

  taken_out : (b : Bool) (v : X) (o : Option X) → (b ≡ true → o ≡ None) → o ≡ cond b None (cond b (Some v) o)
  taken_out true v o h = h refl
  taken_out false v o h = refl

  found_by : (n q : ℕ) (es : List (ℕ × X)) → finmap.find nat_cmp n es ≡ None → eq_by_cmp nat_cmp q n ≡ true
      → finmap.find nat_cmp q es ≡ None
  found_by n q es none same = ap (λ k. finmap.find nat_cmp k es) (exact_unsigned q n (eq_is (nat_cmp q n) same)) ∙ none

  popped-removed : (p : ℕ × X) (new : List (ℕ × X)) → AllByRecursion (λ y. nat_cmp p.0 y ≡ Less)
      (map (λ (x : ℕ × X). x.0) new) → seen new ≡ finmap.remove (seen (p ∷ new)) p.0
  popped-removed p new above = finmap.same_map nat_cmp_total exact_unsigned _ _ (λ q.
      finmap.get-from_entries nat_cmp_total new q
      ∙ taken_out (eq_by_cmp nat_cmp q p.0) p.1 (finmap.find nat_cmp q new)
      (found_by p.0 q new (absent_above p.0 new above))
      ∙ ap (cond (eq_by_cmp nat_cmp q p.0) None) (sym (finmap.get-from_entries nat_cmp_total (p ∷ new) q))
      ∙ sym (finmap.get-remove nat_cmp_total (seen (p ∷ new)) p.0 q))

  -- The first entry is removed, and no other.
  pub first-removed : (r : Option (ℕ × X)) (old new : List (ℕ × X)) → IfSome r (λ p. old ≡ p ∷ new)
      → IfSome r (λ p. All (λ y. nat_cmp p.0 y ≡ Less) (map (λ (x : ℕ × X). x.0) new))
      → IfSome r (λ p. seen new ≡ finmap.remove (seen old) p.0)
  first-removed None old new is above = tt
  first-removed (Some p) old new is above =
      popped-removed p new (each_of_all (λ y. nat_cmp p.0 y ≡ Less) (map (λ (x : ℕ × X). x.0) new) above)
      ∙ ap (λ es. finmap.remove (seen es) p.0) (sym is)

  -- ---- one key

  pub get-inserted : (m : finmap.FinMap nat_cmp X) (k : ℕ) (v : X) → finmap.get (finmap.insert m k v) k ≡ Some v
  get-inserted m k v = finmap.get-insert nat_cmp_total m k v k ∙ ap (λ b. cond b (Some v) (finmap.get m k)) (same_key k)

  pub get-removed : (m : finmap.FinMap nat_cmp X) (k : ℕ) → finmap.get (finmap.remove m k) k ≡ None
  get-removed m k = finmap.get-remove nat_cmp_total m k k ∙ ap (λ b. cond b None (finmap.get m k)) (same_key k)

  was_there : (b : Bool) (o : Option X) (v : X) → cond b None o ≡ Some v → o ≡ Some v
  was_there true o v e = absurd (true≢false (sym (ap is_some e)))
  was_there false o v e = e

  -- An entry that is there after a removal was there before.
  pub still_there : (m : finmap.FinMap nat_cmp X) (n k : ℕ) (v : X) → finmap.get (finmap.remove m n) k ≡ Some v
      → finmap.get m k ≡ Some v
  still_there m n k v e = was_there (eq_by_cmp nat_cmp k n) (finmap.get m k) v
      (sym (finmap.get-remove nat_cmp_total m n k) ∙ e)

  apart : (m : finmap.FinMap nat_cmp X) (n k : ℕ) (new : Option X) → k ≢ n → cond (eq_by_cmp nat_cmp k n) new
      (finmap.get m k) ≡ finmap.get m k
  apart m n k new other = by (eq_by_cmp nat_cmp k n) refl
    where
      by : (b : Bool) → eq_by_cmp nat_cmp k n ≡ b → cond b new (finmap.get m k) ≡ finmap.get m k
      by true same = absurd (other (exact_unsigned k n (eq_is (nat_cmp k n) same)))
      by false differ = refl

  -- A removal or an insertion leaves every other key.
  pub get-kept : (m : finmap.FinMap nat_cmp X) (n k : ℕ) → k ≢ n → finmap.get (finmap.remove m n) k ≡ finmap.get m k
  get-kept m n k other = finmap.get-remove nat_cmp_total m n k ∙ apart m n k None other

  pub get-beside : (m : finmap.FinMap nat_cmp X) (n k : ℕ) (v : X) → k ≢ n → finmap.get (finmap.insert m n v) k
      ≡ finmap.get m k
  get-beside m n k v other = finmap.get-insert nat_cmp_total m n v k ∙ apart m n k (Some v) other

  over : (b : Bool) (v w : X) (o : Option X) → cond b (Some v) (cond b (Some w) o) ≡ cond b (Some v) o
  over true v w o = refl
  over false v w o = refl

  pub insert-insert : (m : finmap.FinMap nat_cmp X) (k : ℕ) (v w : X) → finmap.insert (finmap.insert m k w) k v
      ≡ finmap.insert m k v
  insert-insert m k v w = finmap.same_map nat_cmp_total exact_unsigned _ _ (λ q.
      finmap.get-insert nat_cmp_total (finmap.insert m k w) k v q
      ∙ ap (cond (eq_by_cmp nat_cmp q k) (Some v)) (finmap.get-insert nat_cmp_total m k w q)
      ∙ over (eq_by_cmp nat_cmp q k) v w (finmap.get m q)
      ∙ sym (finmap.get-insert nat_cmp_total m k v q))

  kept : (b : Bool) (v : X) (o : Option X) → (b ≡ true → o ≡ Some v) → cond b (Some v) o ≡ o
  kept true v o h = sym (h refl)
  kept false v o h = refl

  pub insert-same : (m : finmap.FinMap nat_cmp X) (k : ℕ) (v : X) → finmap.get m k ≡ Some v → finmap.insert m k v ≡ m
  insert-same m k v there = finmap.same_map nat_cmp_total exact_unsigned _ _ (λ q.
      finmap.get-insert nat_cmp_total m k v q
      ∙ kept (eq_by_cmp nat_cmp q k) v (finmap.get m q)
      (λ e. ap (finmap.get m) (exact_unsigned q k (eq_is (nat_cmp q k) e)) ∙ there))

pub keys-empty : (X : Type 0) → finmap.keys (finmap.empty {X = X} {R = nat_cmp}) ≡ []
keys-empty X = keys-sorted {X = X} [] sorted_nothing

pub entries-empty : (X : Type 0) → finmap.entries (finmap.empty {X = X} {R = nat_cmp}) ≡ []
entries-empty X = entries-sorted {X = X} [] sorted_nothing
