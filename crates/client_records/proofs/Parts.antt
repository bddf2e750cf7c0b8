-- The loop over the parts of a multiRead: the parts so far, and then what is read of the rest.
use Rattle.std.proofs.Common.{◌≡◌, ℕ, suc, ◌+◌, ◌-◌, ◌<◌, ◌≤◌, List, [], ◌∷◌, ◌++◌, Some, None, Result, Ok, Err, refl, sym, ap, ◌∙◌, append_assoc, arith}
use Rattle.std.proofs.lemmas.List.{append-nil}
use Rattle.values.specs.declared.fault.Fault.{Fault}
use Rattle.values.specs.declared.fault.Fault.TheVariants.{Short}
use Rattle.values.specs.declared.fault.ReadError.{ReadError}
use Rattle.values.specs.declared.fault.ReadError.TheVariants as errors
use Rattle.jute.specs.Reads.{IsFailureOf}
use Rattle.jute.specs.Format.{◌>>=◌}
use Rattle.client_records.specs.declared.multi.ReadPart.{ReadPart}
use Rattle.client_records.specs.Multi.{part_or_end, parts_within}

abbrev pub with_front : List ReadPart → Result (List ReadPart × List ℕ) Fault → Result (List ReadPart × List ℕ) Fault
with_front front r = r >>= λ x. Ok (front ++ x.0, x.1)

regroup : (front : List ReadPart) (p : ReadPart) (r : Result (List ReadPart × List ℕ) Fault)
    → with_front front (r >>= λ others. Ok (p ∷ others.0, others.1)) ≡ with_front (front ++ p ∷ []) r
regroup front p (Ok x) = ap (λ (ps : List ReadPart). Ok (ps, x.1)) (simp append_assoc)
regroup front p (Err f) = refl

module _ (front : List ReadPart) (count i : ℕ) (bytes : List ℕ) (total : Result (List ReadPart × List ℕ) Fault) where
  pub goes_on : (p : ReadPart) (after : List ℕ) → i < count → part_or_end bytes ≡ Ok (Some p, after)
      → with_front front (parts_within (count - i) bytes) ≡ total
      → with_front (front ++ p ∷ []) (parts_within (count - (i + 1)) after) ≡ total
  unfolding parts_within
  goes_on p after lt h so_far =
      let k : count - i ≡ suc (count - (i + 1)) = omega arith in
      let one : with_front front (parts_within (count - i) bytes) ≡ with_front (front ++ p ∷ [])
      (parts_within (count - (i + 1)) after) = rw (k, h) (regroup front p (parts_within (count - (i + 1)) after)) in
      sym one ∙ so_far

  pub is_end : (after : List ℕ) → i < count → part_or_end bytes ≡ Ok (None, after)
      → with_front front (parts_within (count - i) bytes) ≡ total → total ≡ Ok (front, after)
  unfolding parts_within
  is_end after lt h so_far =
      let k : count - i ≡ suc (count - (i + 1)) = omega arith in
      let one : with_front front (parts_within (count - i) bytes) ≡ Ok (
        front,
        after,
      ) = rw (k, h) (ap (λ (ps : List ReadPart). Ok (ps, after)) (append-nil front)) in
      sym so_far ∙ one

  stops : (e : Fault) → i < count → part_or_end bytes ≡ Err e → with_front front (parts_within (count - i) bytes) ≡ total
      → total ≡ Err e
  unfolding parts_within
  stops e lt h so_far =
      let k : count - i ≡ suc (count - (i + 1)) = omega arith in
      let one : with_front front (parts_within (count - i) bytes) ≡ Err e = rw (k, h) refl in
      sym so_far ∙ one

  pub ends : (e : ReadError) → i < count → IsFailureOf e (part_or_end bytes)
      → with_front front (parts_within (count - i) bytes) ≡ total → IsFailureOf e total
  ends errors.NoMemory lt h so_far = tt
  ends (errors.Fault e) lt h so_far = stops e lt h so_far

  pub runs_out : count ≤ i → with_front front (parts_within (count - i) bytes) ≡ total → total ≡ Err Short
  unfolding parts_within
  runs_out le so_far =
      let k : count - i ≡ 0 = omega arith in
      let one : with_front front (parts_within (count - i) bytes) ≡ Err Short = rw k refl in
      sym so_far ∙ one
