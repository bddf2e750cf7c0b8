-- The places of connections in the list of syncs.
use Rattle.std.proofs.Common.{◌≡◌, ◌≢◌, ℕ, zero, suc, ◌==◌, Bool, true, false, cond, List, [], ◌∷◌, ◌++◌, map, length, get_or, Option, Some, None, refl, sym, ap, ◌∙◌, arith}
use Rattle.std.proofs.lemmas.Bool.{eqb-true, eqb-false}
use Rattle.values.proofs.Keyed.{some-some}
use Rattle.forwarding.specs.Pending.{without_owner}
use Rattle.forwarding.specs.Agreement.{places_of}

pub same_number : (n : ℕ) → (n == n) ≡ true
same_number n = by (n == n) refl
  where
    by : (b : Bool) → (n == n) ≡ b → (n == n) ≡ true
    by true e = e
    by false e = absurd (eqb-false n n e refl)

pub other_number : (m n : ℕ) → m ≢ n → (n == m) ≡ false
other_number m n apart = by (n == m) refl
  where
    by : (b : Bool) → (n == m) ≡ b → (n == m) ≡ false
    by true e = absurd (apart (sym (eqb-true n m e)))
    by false e = e

-- ---- a sync is pushed

pub pushed_here : (n : ℕ) (syncs : List (Option ℕ)) → places_of n (syncs ++ Some n ∷ []) ≡ suc (places_of n syncs)
pushed_here n [] = ap (λ b. cond b (suc 0) 0) (same_number n)
pushed_here n (None ∷ rest) = pushed_here n rest
pushed_here n (Some m ∷ rest) =
    elim (m == n) as (λ b. cond b (suc (places_of n (rest ++ Some n ∷ []))) (places_of n (rest ++ Some n ∷ []))
    ≡ suc (cond b (suc (places_of n rest)) (places_of n rest))) [
      | true ↦ ap suc (pushed_here n rest)
      | false ↦ pushed_here n rest
    ]

pub pushed_elsewhere : (n m : ℕ) (syncs : List (Option ℕ)) → m ≢ n
    → places_of m (syncs ++ Some n ∷ []) ≡ places_of m syncs
pushed_elsewhere n m [] apart = ap (λ b. cond b (suc 0) 0) (other_number m n apart)
pushed_elsewhere n m (None ∷ rest) apart = pushed_elsewhere n m rest apart
pushed_elsewhere n m (Some k ∷ rest) apart =
    elim (k == m) as (λ b. cond b (suc (places_of m (rest ++ Some n ∷ []))) (places_of m (rest ++ Some n ∷ []))
    ≡ cond b (suc (places_of m rest)) (places_of m rest)) [
      | true ↦ ap suc (pushed_elsewhere n m rest apart)
      | false ↦ pushed_elsewhere n m rest apart
    ]

-- ---- the first is taken

pub taken_here : (n : ℕ) (rest : List (Option ℕ)) → places_of n (Some n ∷ rest) ≡ suc (places_of n rest)
taken_here n rest = ap (λ b. cond b (suc (places_of n rest)) (places_of n rest)) (same_number n)

pub taken_elsewhere : (n m : ℕ) (rest : List (Option ℕ)) → m ≢ n → places_of m (Some n ∷ rest) ≡ places_of m rest
taken_elsewhere n m rest apart = ap (λ b. cond b (suc (places_of m rest)) (places_of m rest)) (other_number m n apart)

-- ---- a connection goes

pub dropped_here : (n : ℕ) (syncs : List (Option ℕ)) → places_of n (map (without_owner n) syncs) ≡ 0
dropped_here n [] = refl
dropped_here n (None ∷ rest) = dropped_here n rest
dropped_here n (Some m ∷ rest) =
    elim (m == n) as (λ b. (m == n) ≡ b → places_of n (cond b None (Some m) ∷ map (without_owner n) rest) ≡ 0) [
      | true ↦ λ e. dropped_here n rest
      | false ↦ λ e. ap (λ b. cond b (suc (places_of n (map (without_owner n) rest)))
          (places_of n (map (without_owner n) rest))) e ∙ dropped_here n rest
    ] refl

pub dropped_elsewhere : (n m : ℕ) (syncs : List (Option ℕ)) → m ≢ n
    → places_of m (map (without_owner n) syncs) ≡ places_of m syncs
dropped_elsewhere n m [] apart = refl
dropped_elsewhere n m (None ∷ rest) apart = dropped_elsewhere n m rest apart
dropped_elsewhere n m (Some k ∷ rest) apart =
    elim (k == n) as (λ b. (k == n) ≡ b → places_of m (cond b None (Some k) ∷ map (without_owner n) rest)
    ≡ places_of m (Some k ∷ rest)) [
      | true ↦ λ e. dropped_elsewhere n m rest apart
          ∙ sym (ap (λ b. cond b (suc (places_of m rest)) (places_of m rest))
          (other_number m k (λ same. apart (same ∙ eqb-true k n e))))
      | false ↦ λ e. ap (λ x. cond (k == m) (suc x) x) (dropped_elsewhere n m rest apart)
    ] refl

pub dropped_length : (n : ℕ) (syncs : List (Option ℕ)) → length (map (without_owner n) syncs) ≡ length syncs
dropped_length n [] = refl
dropped_length n (x ∷ rest) = ap suc (dropped_length n rest)

-- The place of another connection stays where it is.
pub dropped_in_place : (n m : ℕ) (syncs : List (Option ℕ)) (place : ℕ) → m ≢ n → get_or syncs place None ≡ Some m
    → get_or (map (without_owner n) syncs) place None ≡ Some m
dropped_in_place n m [] place apart e = e
dropped_in_place n m (None ∷ rest) zero apart e = e
dropped_in_place n m (Some k ∷ rest) zero apart e =
    let same : k ≡ m = some-some e in
    ap (λ b. cond b None (Some k)) (other_number n k (λ f. apart (sym same ∙ sym f))) ∙ e
dropped_in_place n m (x ∷ rest) (suc place) apart e = dropped_in_place n m rest place apart e

-- A connection without a place changes nothing.
pub dropped_nothing : (n : ℕ) (syncs : List (Option ℕ)) → places_of n syncs ≡ 0 → map (without_owner n) syncs ≡ syncs
dropped_nothing n [] h = refl
dropped_nothing n (None ∷ rest) h = ap (λ xs. None ∷ xs) (dropped_nothing n rest h)
dropped_nothing n (Some m ∷ rest) h =
    elim (m == n) as (λ b. cond b (suc (places_of n rest)) (places_of n rest) ≡ 0
    → cond b None (Some m) ∷ map (without_owner n) rest ≡ Some m ∷ rest) [
      | true ↦ λ e. absurd (omega arith)
      | false ↦ λ e. ap (λ xs. Some m ∷ xs) (dropped_nothing n rest e)
    ] h
