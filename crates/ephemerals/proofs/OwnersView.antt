-- The owners, as they are stored: with a number for each session.
use Rattle.std.proofs.Common.{◌≡◌, ℕ, ℤ, pos, List, [], ◌∷◌, Bool, true, false, not, ◌||◌, ◌&&◌, refl, sym, ap, ◌∙◌, map}
use Rattle.std.specs.Prelude.{if◌then◌else◌}
use Rattle.std.specs.declared.cmp.Ordering.{Ordering}
use Rattle.std.specs.List.{list_any}
use Rattle.std.specs.Ordering.{eq_by_cmp, int_cmp, int_eq, nat_cmp}
use Rattle.std.proofs.lemmas.Map.Lookups.{exact_bytes}
use Rattle.std.specs.FinSet as set
use Rattle.pairs.specs.Pairs.{TextPairs, text_cmp, same_text, same_number, texts_at, without_text, without_number, pairs_of_text}
use Rattle.pairs.specs.Pairs as numbered
use Rattle.pairs.proofs.Totals as texts
use Rattle.pairs.proofs.Ties.{tied_then}
use Rattle.pairs.proofs.NumbersOf.{contains-texts, contains-without_text, contains-without_number}
use Rattle.pairs.proofs.SetCounts.{contains-kept, len-image}
use Rattle.ephemerals.specs.Orders.{Bytes, path_cmp, pair_cmp}
use Rattle.ephemerals.specs.Pairs.{with_pair, without_pair, paths_of_session, without_session}
use Rattle.ephemerals.specs.Inner.Steps.{pairs_on, without_path}
use Rattle.ephemerals.specs.Inner.OwnersView.{number_of_session, session_of_number, owners_in}
use Rattle.ephemerals.proofs.Totals.{path_total, pair_total}
use Rattle.ephemerals.proofs.Ties.{same_session}
use Rattle.ephemerals.proofs.SessionPaths.{contains-owned, contains-without}
use Rattle.ephemerals.proofs.Steps.{same_pairs, contains-pairs_on, contains-without_path}
use Rattle.ephemerals.proofs.Numbers.{same-number, number-session, session-number}

abbrev number_cmp : Bytes × ℕ → Bytes × ℕ → Ordering
number_cmp = numbered.pair_cmp text_cmp nat_cmp

abbrev owner_pair : Bytes × ℕ → ℤ × Bytes
owner_pair p = (session_of_number p.1, p.0)

-- Whether a pair is this owner's, by either order.
same-pair : (v : ℤ) (q : Bytes) (p : Bytes × ℕ)
    → eq_by_cmp pair_cmp (v, q) (owner_pair p) ≡ eq_by_cmp number_cmp (q, number_of_session v) p
same-pair v q p =
    tied_then (int_cmp v (session_of_number p.1)) (path_cmp q p.0)
    ∙ ap (λ b. b && eq_by_cmp path_cmp q p.0) (same-number v p.1)
    ∙ and_comm (eq_by_cmp nat_cmp (number_of_session v) p.1) (eq_by_cmp path_cmp q p.0)
    ∙ sym (tied_then (text_cmp q p.0) (nat_cmp (number_of_session v) p.1))
  where
    and_comm : (a b : Bool) → (a && b) ≡ (b && a)
    and_comm true true = refl
    and_comm true false = refl
    and_comm false true = refl
    and_comm false false = refl

any-owner : (v : ℤ) (q : Bytes) (ps : List (Bytes × ℕ))
    → list_any (eq_by_cmp pair_cmp (v, q)) (map owner_pair ps) ≡ list_any (eq_by_cmp number_cmp (q, number_of_session v)) ps
any-owner v q [] = refl
any-owner v q (p ∷ ps) = λ i. same-pair v q p i || any-owner v q ps i

-- The law of this view, from which all others follow.
pub contains-owners : (pairs : TextPairs) (v : ℤ) (q : Bytes)
    → set.contains (owners_in pairs) (v, q) ≡ set.contains pairs (q, number_of_session v)
contains-owners pairs v q =
    set.contains-from_list pair_total (map owner_pair (set.items pairs)) (v, q)
    ∙ any-owner v q (set.items pairs)
    ∙ sym (set.contains-items pairs (q, number_of_session v))

-- ---- what the operations on the pairs are to the owners

pub owners-empty : owners_in set.empty ≡ set.empty
owners-empty = same_pairs _ _ (λ v q.
    contains-owners set.empty v q
    ∙ set.contains-empty number_cmp (q, number_of_session v)
    ∙ sym (set.contains-empty pair_cmp (v, q)))

-- A pair and one that is added or removed, by either order.
changed : (v k : ℤ) (q p : Bytes)
    → eq_by_cmp number_cmp (q, number_of_session v) (p, number_of_session k) ≡ eq_by_cmp pair_cmp (v, q) (k, p)
changed v k q p =
    sym (same-pair v q (p, number_of_session k)) ∙ ap (λ w. eq_by_cmp pair_cmp (v, q) (w, p)) (session-number k)

pub owners-insert : (pairs : TextPairs) (k : ℤ) (p : Bytes)
    → owners_in (set.insert pairs (p, number_of_session k)) ≡ set.insert (owners_in pairs) (k, p)
owners-insert pairs k p = same_pairs _ _ (λ v q.
    contains-owners (set.insert pairs (p, number_of_session k)) v q
    ∙ set.contains-insert texts.pair_total pairs (p, number_of_session k) (q, number_of_session v)
    ∙ (λ i. changed v k q p i || sym (contains-owners pairs v q) i)
    ∙ sym (set.contains-insert pair_total (owners_in pairs) (k, p) (v, q)))

pub owners-remove : (pairs : TextPairs) (k : ℤ) (p : Bytes)
    → owners_in (set.remove pairs (p, number_of_session k)) ≡ set.remove (owners_in pairs) (k, p)
owners-remove pairs k p = same_pairs _ _ (λ v q.
    contains-owners (set.remove pairs (p, number_of_session k)) v q
    ∙ set.contains-remove texts.pair_total pairs (p, number_of_session k) (q, number_of_session v)
    ∙ (λ i. not (changed v k q p i) && sym (contains-owners pairs v q) i)
    ∙ sym (set.contains-remove pair_total (owners_in pairs) (k, p) (v, q)))

pub owners-union : (pairs others : TextPairs)
    → owners_in (set.union pairs others) ≡ set.union (owners_in pairs) (owners_in others)
owners-union pairs others = same_pairs _ _ (λ v q.
    contains-owners (set.union pairs others) v q
    ∙ set.contains-union texts.pair_total pairs others (q, number_of_session v)
    ∙ (λ i. sym (contains-owners pairs v q) i || sym (contains-owners others v q) i)
    ∙ sym (set.contains-union pair_total (owners_in pairs) (owners_in others) (v, q)))

pub owners-at : (p : Bytes) (pairs : TextPairs) → owners_in (pairs_of_text p pairs) ≡ pairs_on p (owners_in pairs)
owners-at p pairs = same_pairs _ _ (λ v q.
    contains-owners (pairs_of_text p pairs) v q
    ∙ contains-kept texts.pair_total texts.pair_exact pairs (λ (r : Bytes × ℕ). same_text p r.0) (q, number_of_session v)
    ∙ ap (λ b. b && eq_by_cmp path_cmp p q) (sym (contains-owners pairs v q))
    ∙ sym (contains-pairs_on p (owners_in pairs) v q))

pub owners-without_text : (p : Bytes) (pairs : TextPairs)
    → owners_in (without_text p pairs) ≡ without_path p (owners_in pairs)
owners-without_text p pairs = same_pairs _ _ (λ v q.
    contains-owners (without_text p pairs) v q
    ∙ contains-without_text p pairs (q, number_of_session v)
    ∙ ap (λ b. b && not (eq_by_cmp path_cmp p q)) (sym (contains-owners pairs v q))
    ∙ sym (contains-without_path p (owners_in pairs) v q))

-- Whether two sessions are one, by their numbers.
same_numbers : (k v : ℤ) → same_number (number_of_session k) (number_of_session v) ≡ int_eq v k
same_numbers k v =
    sym (same-number k (number_of_session v))
    ∙ ap (eq_by_cmp int_cmp k) (session-number v)
    ∙ sym (same_session v k)

pub owners-without_number : (k : ℤ) (pairs : TextPairs)
    → owners_in (without_number (number_of_session k) pairs) ≡ without_session k (owners_in pairs)
owners-without_number k pairs = same_pairs _ _ (λ v q.
    contains-owners (without_number (number_of_session k) pairs) v q
    ∙ contains-without_number (number_of_session k) pairs (q, number_of_session v)
    ∙ (λ i. sym (contains-owners pairs v q) i && not (same_numbers k v i))
    ∙ sym (contains-without k (owners_in pairs) (v, q)))

-- Session 0 gains and loses nothing.
pub owners-with : (pairs new : TextPairs) (k : ℤ) (p : Bytes) → int_eq k (pos 0) ≡ false
    → new ≡ set.insert pairs (p, number_of_session k) → owners_in new ≡ with_pair (owners_in pairs) k p
owners-with pairs new k p apart is =
    ap owners_in is
    ∙ owners-insert pairs k p
    ∙ ap (λ b. if b then owners_in pairs else set.insert (owners_in pairs) (k, p)) (sym apart)

pub owners-without : (pairs new : TextPairs) (k : ℤ) (p : Bytes) → int_eq k (pos 0) ≡ false
    → new ≡ set.remove pairs (p, number_of_session k) → owners_in new ≡ without_pair (owners_in pairs) k p
owners-without pairs new k p apart is =
    ap owners_in is
    ∙ owners-remove pairs k p
    ∙ ap (λ b. if b then owners_in pairs else set.remove (owners_in pairs) (k, p)) (sym apart)

-- ---- what is found of a session, and the count

pub owners-paths : (k : ℤ) (pairs : TextPairs)
    → texts_at (number_of_session k) pairs ≡ paths_of_session k (owners_in pairs)
owners-paths k pairs = set.same_set path_total exact_bytes _ _ (λ q.
    contains-texts (number_of_session k) pairs q
    ∙ sym (contains-owners pairs k q)
    ∙ sym (contains-owned k (owners_in pairs) q))

pub owners-len : (pairs : TextPairs) → set.len (owners_in pairs) ≡ set.len pairs
owners-len pairs = len-image texts.pair_total texts.pair_exact pair_total owner_pair alike pairs
  where
    alike : (a b : Bytes × ℕ) → eq_by_cmp pair_cmp (owner_pair a) (owner_pair b) ≡ eq_by_cmp number_cmp a b
    alike a b =
        same-pair (session_of_number a.1) a.0 b
        ∙ ap (λ n. eq_by_cmp number_cmp (a.0, n) b) (number-session a.1)

pub owners-subset : (pairs others : TextPairs) → set.is_subset pairs others ≡ true
    → set.is_subset (owners_in pairs) (owners_in others) ≡ true
owners-subset pairs others within =
    set.contains-is_subset pair_total (owners_in pairs) (owners_in others) (λ r has.
    contains-owners others r.0 r.1
    ∙ set.is_subset-contains texts.pair_total pairs others within (r.1, number_of_session r.0)
    (sym (contains-owners pairs r.0 r.1) ∙ has))
