-- The loop over a count: the items so far, and then what is read of the rest.
use Rattle.std.proofs.Common.{◌≡◌, ℕ, suc, ◌+◌, ◌-◌, ◌<◌, ◌≤◌, List, [], ◌∷◌, ◌++◌, Result, Ok, Err, refl, sym, ap, ◌∙◌, append_assoc, arith}
use Rattle.std.proofs.lemmas.List.{append-nil}
use Rattle.values.specs.declared.fault.Fault.{Fault}
use Rattle.values.specs.declared.fault.ReadError.{ReadError}
use Rattle.values.specs.declared.fault.ReadError.TheVariants as errors
use Rattle.jute.specs.Reads.{IsFailureOf}
use Rattle.jute.specs.Format.{◌>>=◌, read_n}

abbrev pub with_front : {A : Type 0} → List A → Result (List A × List ℕ) Fault → Result (List A × List ℕ) Fault
with_front front r = r >>= λ x. Ok (front ++ x.0, x.1)

regroup : {A : Type 0} (front : List A) (n : A) (r : Result (List A × List ℕ) Fault)
    → with_front front (r >>= λ others. Ok (n ∷ others.0, others.1)) ≡ with_front (front ++ n ∷ []) r
regroup {A} front n (Ok x) = ap (λ (ns : List A). Ok (ns, x.1)) (simp append_assoc)
regroup front n (Err f) = refl

module _ {A : Type 0} (r : List ℕ → Result (A × List ℕ) Fault) (front : List A) (count i : ℕ) (bytes : List ℕ)
    (total : Result (List A × List ℕ) Fault) where
  pub goes_on : (n : A) (after : List ℕ) → i < count → r bytes ≡ Ok (n, after)
      → with_front front (read_n r (count - i) bytes) ≡ total
      → with_front (front ++ n ∷ []) (read_n r (count - (i + 1)) after) ≡ total
  unfolding read_n
  goes_on n after lt h so_far =
      let k : count - i ≡ suc (count - (i + 1)) = omega arith in
      let one : with_front front (read_n r (count - i) bytes) ≡ with_front (front ++ n ∷ [])
      (read_n r (count - (i + 1)) after) = rw (k, h) (regroup front n (read_n r (count - (i + 1)) after)) in
      sym one ∙ so_far

  pub stops : (e : Fault) → i < count → r bytes ≡ Err e → with_front front (read_n r (count - i) bytes) ≡ total
      → total ≡ Err e
  unfolding read_n
  stops e lt h so_far =
      let k : count - i ≡ suc (count - (i + 1)) = omega arith in
      let one : with_front front (read_n r (count - i) bytes) ≡ Err e = rw (k, h) refl in
      sym so_far ∙ one

  pub is_done : count ≤ i → with_front front (read_n r (count - i) bytes) ≡ total → total ≡ Ok (front, bytes)
  unfolding read_n
  is_done le so_far =
      let k : count - i ≡ 0 = omega arith in
      let one : with_front front (read_n r (count - i) bytes) ≡ Ok (
        front,
        bytes,
      ) = rw k (ap (λ (ns : List A). Ok (ns, bytes)) (append-nil front)) in
      sym so_far ∙ one

  pub ends : (e : ReadError) → i < count → IsFailureOf e (r bytes)
      → with_front front (read_n r (count - i) bytes) ≡ total
      → IsFailureOf e total
  ends errors.NoMemory lt h so_far = tt
  ends (errors.Fault e) lt h so_far = stops e lt h so_far
