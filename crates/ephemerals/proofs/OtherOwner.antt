-- One owner in place of another.
use Rattle.std.proofs.Common.{◌≡◌, ℤ, pos, Bool, true, false, not, ◌||◌, ◌&&◌, refl, sym, ap, ◌∙◌, if◌then◌else◌}
use mathlib.Core.Bool.{true≢false}
use Rattle.std.specs.Ordering.{eq_by_cmp, is_eq, int_eq}
use Rattle.std.specs.Cmp.{int_cmp_total, tied_itself}
use Rattle.std.proofs.lemmas.Map.Views.{tells_apart}
use Rattle.std.specs.FinSet as set
use Rattle.ephemerals.specs.Orders.{Bytes, pair_cmp, OwnerPairs}
use Rattle.ephemerals.specs.Pairs.{with_pair, without_pair, with_other_owner}
use Rattle.ephemerals.proofs.Totals.{pair_total, pair_exact}
use Rattle.ephemerals.proofs.Ties.{same_session}

pub with_other_owner-same : (pairs : OwnerPairs) (k : ℤ) (p : Bytes)
    → with_pair pairs k p ≡ with_other_owner pairs p k k
with_other_owner-same pairs k p = by (int_eq k (pos 0))
  where
    again : set.insert pairs (k, p) ≡ set.insert (set.remove pairs (k, p)) (k, p)
    again = set.same_set pair_total pair_exact _ _ (λ q.
        set.contains-insert pair_total pairs (k, p) q
        ∙ or_not (eq_by_cmp pair_cmp q (k, p)) (set.contains pairs q)
        ∙ ap (λ b. eq_by_cmp pair_cmp q (k, p) || b) (sym (set.contains-remove pair_total pairs (k, p) q))
        ∙ sym (set.contains-insert pair_total (set.remove pairs (k, p)) (k, p) q))
      where
        or_not : (a b : Bool) → (a || b) ≡ (a || (not a && b))
        or_not true b = refl
        or_not false b = refl

    by : (b : Bool)
        → (if b then pairs else set.insert pairs (k, p))
        ≡ (if b then (if b then pairs else set.remove pairs (k, p))
        else set.insert (if b then pairs else set.remove pairs (k, p)) (k, p))
    by true = refl
    by false = again

pub with_other_owner-apart : (pairs : OwnerPairs) (old new : ℤ) (p : Bytes) → int_eq old new ≡ false
    → without_pair (with_pair pairs new p) old p ≡ with_other_owner pairs p old new
with_other_owner-apart pairs old new p apart = by (int_eq old (pos 0)) (int_eq new (pos 0))
  where
    swap : (t u b : Bool) → (t ≡ true → u ≡ true → ⊥) → (not t && (u || b)) ≡ (u || (not t && b))
    swap true true b h = absurd (h refl refl)
    swap true false b h = refl
    swap false true b h = refl
    swap false false b h = refl

    clash : (q : ℤ × Bytes) → eq_by_cmp pair_cmp q (old, p) ≡ true → eq_by_cmp pair_cmp q (new, p) ≡ true → ⊥
    clash q a b =
        let one : (old, p) ≡ (new, p) =
        sym (tells_apart pair_exact q (old, p) a)
        ∙ tells_apart pair_exact q (new, p) b in
        true≢false
        (sym (same_session old old ∙ ap is_eq (tied_itself int_cmp_total old))
        ∙ ap (λ (r : ℤ × Bytes). int_eq old r.0) one ∙ apart)

    both : set.remove (set.insert pairs (new, p)) (old, p) ≡ set.insert (set.remove pairs (old, p)) (new, p)
    both = set.same_set pair_total pair_exact _ _ (λ q.
        set.contains-remove pair_total (set.insert pairs (new, p)) (old, p) q
        ∙ ap (λ b. not (eq_by_cmp pair_cmp q (old, p)) && b) (set.contains-insert pair_total pairs (new, p) q)
        ∙ swap (eq_by_cmp pair_cmp q (old, p)) (eq_by_cmp pair_cmp q (new, p)) (set.contains pairs q) (clash q)
        ∙ ap (λ b. eq_by_cmp pair_cmp q (new, p) || b) (sym (set.contains-remove pair_total pairs (old, p) q))
        ∙ sym (set.contains-insert pair_total (set.remove pairs (old, p)) (new, p) q))

    by : (a b : Bool)
        → (if a then (if b then pairs else set.insert pairs (new, p))
        else set.remove (if b then pairs else set.insert pairs (new, p)) (old, p))
        ≡ (if b then (if a then pairs else set.remove pairs (old, p))
        else set.insert (if a then pairs else set.remove pairs (old, p)) (new, p))
    by true true = refl
    by true false = refl
    by false true = refl
    by false false = both
