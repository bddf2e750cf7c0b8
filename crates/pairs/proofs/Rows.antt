-- Sets of no number and of one.
use Rattle.std.proofs.Common.{◌≡◌, ◌≢◌, ℕ, Bool, true, false, ◌||◌, refl, sym, ap, ◌∙◌, ◌+◌}
use Rattle.std.specs.Prelude.{◌==◌}
use Rattle.std.proofs.Math.Bool.{or-false}
use Rattle.std.specs.Ordering.{eq_by_cmp, is_eq, nat_cmp}
use Rattle.std.specs.Cmp.{nat_cmp_total, eq_by_cmp_equiv, unsigned_ties, tied_itself}
use Rattle.std.proofs.lemmas.Map.Lookups.{exact_unsigned}
use Rattle.std.proofs.lemmas.Map.Views.{tells_apart}
use Rattle.std.specs.FinSet as set
use Rattle.values.proofs.SetSteps.{insert-present, remove-insert}
use Rattle.pairs.specs.Pairs.{Numbers}
use Rattle.pairs.proofs.SetCounts.{len-insert-new, remove-absent}
use Rattle.pairs.proofs.Keys.{with-value}

abbrev pub only_of : ℕ → Numbers
only_of n = set.insert set.empty n

pub only-member : (only n : ℕ) → (only == n) ≡ set.contains (only_of only) n
only-member only n =
    unsigned_ties only n
    ∙ (eq_by_cmp_equiv nat_cmp_total).symm only n
    ∙ sym (set.contains-insert nat_cmp_total set.empty only n
    ∙ ap (λ b. eq_by_cmp nat_cmp n only || b) (set.contains-empty nat_cmp n)
    ∙ or-false (eq_by_cmp nat_cmp n only))

pub only-len : (only : ℕ) → 1 ≡ set.len (only_of only)
only-len only =
    sym (len-insert-new nat_cmp_total exact_unsigned set.empty only (set.contains-empty nat_cmp only)
    ∙ ap (λ n. n + 1) (set.len-empty nat_cmp))

pub only-full : (only : ℕ) → only_of only ≢ set.empty
only-full only = with-value nat_cmp_total set.empty only

pub has-only : (only n : ℕ) → only ≡ n → set.contains (only_of only) n ≡ true
has-only only n e =
    ap (set.contains (only_of only)) (sym e)
    ∙ set.contains-insert nat_cmp_total set.empty only only
    ∙ ap (λ r. is_eq r || set.contains (set.empty {R = nat_cmp}) only) (tied_itself nat_cmp_total only)

pub lacks-other : (only n : ℕ) → (only ≡ n → ⊥) → set.contains (only_of only) n ≡ false
lacks-other only n apart = sym (only-member only n) ∙ by (only == n) refl
  where
    by : (b : Bool) → (only == n) ≡ b → (only == n) ≡ false
    by true e = absurd (apart (tells_apart exact_unsigned only n (sym (unsigned_ties only n) ∙ e)))
    by false e = e

pub remove-only : (only n : ℕ) → only ≡ n → set.empty ≡ set.remove (only_of only) n
remove-only only n e =
    sym (remove-insert nat_cmp_total exact_unsigned set.empty only (set.contains-empty nat_cmp only))
    ∙ ap (set.remove (only_of only)) e

pub remove-other : (only n : ℕ) → (only ≡ n → ⊥) → only_of only ≡ set.remove (only_of only) n
remove-other only n apart =
    remove-absent nat_cmp_total exact_unsigned (only_of only) n (lacks-other only n apart)

pub insert-only : (only n : ℕ) → only ≡ n → only_of only ≡ set.insert (only_of only) n
insert-only only n e =
    insert-present nat_cmp_total exact_unsigned (only_of only) n (has-only only n e)

pub remove-none : (n : ℕ) → set.empty ≡ set.remove (set.empty {R = nat_cmp}) n
remove-none n = remove-absent nat_cmp_total exact_unsigned set.empty n (set.contains-empty nat_cmp n)

pub union-none : (s : Numbers) → s ≡ set.union s set.empty
union-none s = set.same_set nat_cmp_total exact_unsigned _ _ (λ q.
    sym (set.contains-union nat_cmp_total s set.empty q
    ∙ ap (λ b. set.contains s q || b) (set.contains-empty nat_cmp q)
    ∙ or-false (set.contains s q)))

pub union-only : (s : Numbers) (only : ℕ) → set.insert s only ≡ set.union s (only_of only)
union-only s only = set.same_set nat_cmp_total exact_unsigned _ _ (λ q.
    set.contains-insert nat_cmp_total s only q
    ∙ by (eq_by_cmp nat_cmp q only) (set.contains s q)
    ∙ ap (λ b. set.contains s q || b)
    (sym (set.contains-insert nat_cmp_total set.empty only q
    ∙ ap (λ b. eq_by_cmp nat_cmp q only || b) (set.contains-empty nat_cmp q)))
    ∙ sym (set.contains-union nat_cmp_total s (only_of only) q))
  where
    by : (t b : Bool) → (t || b) ≡ (b || (t || false))
    by true true = refl
    by true false = refl
    by false true = refl
    by false false = refl
