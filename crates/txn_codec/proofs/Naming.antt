-- The results of `decode_txn`, and the field that a refusal names.
use Rattle.std.proofs.Common.{◌≡◌, ℕ, true, false, cond, eqb, List, [], length, Result, Ok, Err, refl, sym, ap, subst, ◌∙◌, inl, inr}
use Rattle.std.specs.Prelude.{◌≢◌, IfOk, IfErr}
use Rattle.values.specs.declared.fault.Fault.{Fault}
use Rattle.values.specs.declared.fault.Fault.TheVariants.{TrailingBytes}
use Rattle.values.specs.declared.fault.ReadError.{ReadError}
use Rattle.values.specs.declared.fault.ReadError.TheVariants as errors
use Rattle.settings.specs.declared.dialect.Dialect.{Dialect}
use Rattle.jute.specs.Laws.{IsBytes}
use Rattle.jute.specs.Reads.{ReadsOwnedWhole}
use Rattle.jute.specs.Sums.{whole_value as whole_by}
use Rattle.jute.proofs.Public.{bind_err, guard_refused, not_refused, whole_found, whole_again}
use Rattle.txn_codec.specs.declared.txn.Txn.{Txn}
use Rattle.txn_codec.specs.Refusals.{AgainstIn, HasTrailing, IfFault}
use Rattle.txn_codec.specs.Spelling.{txn_in, value_of_whole}
use Rattle.txn_codec.proofs.Bodies.{txn_at_end}

left_over : (rest : List ℕ) → eqb (length rest) 0 ≡ false → rest ≢ []
left_over rest h none = let empty : eqb (length rest) 0 ≡ true = ap (λ (l : List ℕ). eqb (length l) 0) none in absurd cc

module _ (dialect : Dialect) where
  -- ---- read and spelled transactions

  pub spelled_again : (bytes : List ℕ) (t : Txn) → (txn_in dialect).Spells t bytes
      → value_of_whole (txn_in dialect) bytes ≡ Ok t
  spelled_again bytes t s = whole_again (txn_in dialect) bytes t ((txn_at_end dialect).again t bytes s)

  pub written_again : (t : Txn) → (txn_in dialect).Fits t
      → value_of_whole (txn_in dialect) ((txn_in dialect).written t) ≡ Ok t
  written_again t h = spelled_again ((txn_in dialect).written t) t ((txn_at_end dialect).writes t h)

  refused_spells : (bytes : List ℕ) (e : Fault) → value_of_whole (txn_in dialect) bytes ≡ Err e → (t : Txn)
      → (txn_in dialect).Spells t bytes → ⊥
  refused_spells bytes e h t s = not_refused t e (sym (spelled_again bytes t s) ∙ h)

  -- ---- refusals

  -- Where a transaction was read, every field is spelled.
  fine_read : (bytes rest : List ℕ) (t : Txn) → (txn_in dialect).read bytes ≡ Ok (t, rest) → (e : Fault)
      → (txn_in dialect).against e bytes → ⊥
  fine_read bytes rest t h e against =
      not_refused (t, rest) e (sym h ∙ (txn_at_end dialect).named.answers bytes e against)

  pub refusal_names : (bytes : List ℕ) (e : Fault) → IsBytes bytes → value_of_whole (txn_in dialect) bytes ≡ Err e
      → AgainstIn dialect e bytes
  unfolding whole_by
  refusal_names bytes e fits h =
      elim (bind_err ((txn_in dialect).read bytes)
      (λ (v : Txn × List ℕ). cond (eqb (length v.1) 0) (Ok v.0) (Err TrailingBytes)) e
      h) [
        | inl first ↦ inl ((txn_at_end dialect).named.names bytes e fits first)
        | inr later ↦
            let t = (txn_at_end dialect).takes bytes later.0.0 later.0.1 fits later.1 in
            let g = guard_refused (eqb (length later.0.1) 0) TrailingBytes e later.0.0 later.2 in
            inr (
              sym g.1,
              record {
                behind = (later.0.0, t.text, later.0.1, t.parts, t.spells, left_over later.0.1 g.0);
                fine = fine_read bytes later.0.1 later.0.0 later.1;
                none = refused_spells bytes e h;
              },
            )
      ]

  field_answers : (bytes : List ℕ) (e : Fault) → (txn_in dialect).against e bytes
      → value_of_whole (txn_in dialect) bytes ≡ Err e
  unfolding whole_by
  field_answers bytes e h = rw ((txn_at_end dialect).named.answers bytes e h) refl

  trailing_answers : (r : Result Txn Fault) (bytes : List ℕ) → IsBytes bytes → value_of_whole (txn_in dialect) bytes ≡ r
      → HasTrailing dialect bytes
      → r ≡ Err TrailingBytes
  trailing_answers (Ok t) bytes fits h s =
      absurd (s.none t (whole_found (txn_in dialect) (txn_at_end dialect).takes bytes t fits h))
  trailing_answers (Err e) bytes fits h s = elim (refusal_names bytes e fits h) [
    | inl first ↦ absurd (s.fine e first)
    | inr last ↦ ap (λ (d : Fault). Err d) last.0
  ]

  pub naming_answers : (bytes : List ℕ) (e : Fault) → IsBytes bytes → AgainstIn dialect e bytes
      → value_of_whole (txn_in dialect) bytes ≡ Err e
  naming_answers bytes e fits (inl h) = field_answers bytes e h
  naming_answers bytes e fits (inr h) = trailing_answers (value_of_whole (txn_in dialect) bytes) bytes fits refl h.1
      ∙ ap (λ (d : Fault). Err d) (sym h.0)

  -- ---- the contracts of the code

  pub decoded : (bytes : List ℕ) (r : Result Txn ReadError) → IsBytes bytes
      → ReadsOwnedWhole (value_of_whole (txn_in dialect) bytes) r
      → IfOk r (λ t. (txn_in dialect).Spells t bytes)
  decoded bytes (Ok t) fits given = whole_found (txn_in dialect) (txn_at_end dialect).takes bytes t fits given
  decoded bytes (Err e) fits given = tt

  pub decoded_only : (bytes : List ℕ) (r : Result Txn ReadError) (t : Txn)
      → ReadsOwnedWhole (value_of_whole (txn_in dialect) bytes) r
      → (txn_in dialect).Spells t bytes → ReadsOwnedWhole (Ok t) r
  decoded_only bytes r t given s = subst (λ (x : Result Txn Fault). ReadsOwnedWhole x r) (spelled_again bytes t s) given

  pub refused_is_named : (bytes : List ℕ) (r : Result Txn ReadError) → IsBytes bytes
      → ReadsOwnedWhole (value_of_whole (txn_in dialect) bytes) r
      → IfErr r (λ e. IfFault e (λ fault. AgainstIn dialect fault bytes))
  refused_is_named bytes (Ok t) fits given = tt
  refused_is_named bytes (Err errors.NoMemory) fits given = tt
  refused_is_named bytes (Err (errors.Fault e)) fits given = refusal_names bytes e fits given

  pub refused_spells_none : (bytes : List ℕ) (r : Result Txn ReadError)
      → ReadsOwnedWhole (value_of_whole (txn_in dialect) bytes) r
      → IfErr r (λ e. IfFault e (λ fault. (t : Txn) → (txn_in dialect).Spells t bytes → ⊥))
  refused_spells_none bytes (Ok t) given = tt
  refused_spells_none bytes (Err errors.NoMemory) given = tt
  refused_spells_none bytes (Err (errors.Fault e)) given = refused_spells bytes e given
