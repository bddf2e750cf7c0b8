-- Values that are judged after they are read.
use Rattle.std.proofs.Common.{◌≡◌, ℕ, ◌≤◌, List, [], ◌++◌, length, Option, Some, None, Result, Ok, Err, refl, subst, arith, inl, inr}
use Rattle.values.specs.declared.fault.Fault.{Fault}
use Rattle.jute.specs.Format.{◌>>=◌, Format, IsSomeAnd, back_bytes, judged_format, judged_at, case_of, or_empty, or_null}
use Rattle.jute.specs.Laws.{IsBytes, TakesSpelling, TakesSpellings, NamesFaults, IsLawful, IsSound, IsSoundAtEnd}
use Rattle.jute.specs.Pieces.{ReadsInPieces, TakesSomeBytes}
use Rattle.jute.proofs.Steps.{bind_ok, ok_is, bind_err, not_refused, behind_read, then_stands, plain_stands, then_leaves, plain_leaves, then_eats}

-- ---- the value that is written in place of one that was read

-- It is read as the same value, fits if the other one does, and isn't longer.
abbrev pub IsBack : {A B : Type 0} → (A → Result B Fault) → Format A → A → B → Option A → Type 0
IsBack to f a v None = ⊥
IsBack to f a v (Some b) = (to b ≡ Ok v) × (f.Fits a → f.Fits b) × (length (f.written b) ≤ length (f.written a))

abbrev pub Returns : {A B : Type 0} → (A → Result B Fault) → (B → Option A) → Format A → Type 0
Returns {A = A} {B = B} to back f = (a : A) (v : B) → to a ≡ Ok v → IsBack to f a v (back v)

-- The value that was read is written.
returns_same : {A B : Type 0} (to : A → Result B Fault) (back : B → Option A) (f : Format A)
    → ((a : A) (v : B) → to a ≡ Ok v → back v ≡ Some a) → Returns to back f
returns_same to back f same a v e = rw (same a v e) (e, λ h. h, omega arith)

module _ {A B : Type 0} (to : A → Result B Fault) (f : Format A) where
  back_fits : (a : A) (v : B) (o : Option A) → IsBack to f a v o → f.Fits a
      → IsSomeAnd o (λ b. (to b ≡ Ok v) × f.Fits b)
  back_fits a v None i h = absurd i
  back_fits a v (Some b) i h = (i.0, i.1 h)

  back_shorter : (a : A) (v : B) (o : Option A) → IsBack to f a v o → length (back_bytes f o) ≤ length (f.written a)
  back_shorter a v None i = absurd i
  back_shorter a v (Some b) i = i.2

  back_writes : ((a : A) → f.Fits a → f.Spells a (f.written a)) → (v : B) (o : Option A)
      → IsSomeAnd o (λ a. (to a ≡ Ok v) × f.Fits a) → (a : A) × (to a ≡ Ok v) × f.Spells a (back_bytes f o)
  back_writes w v None h = absurd h
  back_writes w v (Some a) h = (a, h.0, w a h.1)

  back_writable : ((a : A) → f.Fits a → f.Writable a) → (v : B) (o : Option A)
      → IsSomeAnd o (λ a. (to a ≡ Ok v) × f.Fits a) → IsSomeAnd o f.Writable
  back_writable w v None h = absurd h
  back_writable w v (Some a) h = w a h.1

-- ---- laws

pub judged_takes : {A B : Type 0} (to : A → Result B Fault) (back : B → Option A) (f : Format A) → TakesSpellings f
    → TakesSpellings (judged_format to back f)
unfolding judged_at
judged_takes {A} {B} to back f tf bytes v rest fits e =
    let a = bind_ok (f.read bytes) (λ (a : A × List ℕ). to a.0 >>= λ (v : B). Ok (v, a.1)) (v, rest) e in
    let b = bind_ok (to a.0.0) (λ (v : B). Ok (v, a.0.1)) (v, rest) a.2 in
    let t = tf bytes a.0.0 a.0.1 fits a.1 in
    let whole : TakesSpelling (judged_format to back f) bytes b.0 a.0.1 =
    record { text = t.text; parts = t.parts; spells = (a.0.0, b.1, t.spells); rest_fits = t.rest_fits } in
    subst (λ (y : B × List ℕ). TakesSpelling (judged_format to back f) bytes y.0 y.1)
    (ok_is (b.0, a.0.1) (v, rest) b.2) whole

pub judged_reads : {A B : Type 0} (to : A → Result B Fault) (f : Format A) (a : A) (v : B) (bytes rest : List ℕ)
    → f.read bytes ≡ Ok (a, rest) → to a ≡ Ok v → judged_at to f.read bytes ≡ Ok (v, rest)
unfolding judged_at
judged_reads to f a v bytes rest h k = rw (h, k) refl

judged_refuses : {A B : Type 0} (to : A → Result B Fault) (f : Format A) (bytes : List ℕ) (e : Fault)
    → f.read bytes ≡ Err e → judged_at to f.read bytes ≡ Err e
unfolding judged_at
judged_refuses to f bytes e h = rw h refl

judged_refuses_value : {A B : Type 0} (to : A → Result B Fault) (f : Format A) (a : A) (bytes rest : List ℕ) (e : Fault)
    → f.read bytes ≡ Ok (a, rest) → to a ≡ Err e → judged_at to f.read bytes ≡ Err e
unfolding judged_at
judged_refuses_value to f a bytes rest e h k = rw (h, k) refl

judged_names : {A B : Type 0} (to : A → Result B Fault) (back : B → Option A) (f : Format A)
    → TakesSpellings f → NamesFaults f
    → (bytes : List ℕ) (e : Fault) → IsBytes bytes → judged_at to f.read bytes ≡ Err e
    → (judged_format to back f).against e bytes
unfolding judged_at
judged_names {A} {B} to back f tf nf bytes e fits h =
    elim (bind_err (f.read bytes) (λ (a : A × List ℕ). to a.0 >>= λ (v : B). Ok (v, a.1)) e h) [
      | inl first ↦ inl (nf.names bytes e fits first)
      | inr later ↦
          let t = tf bytes later.0.0 later.0.1 fits later.1 in
          elim (bind_err (to later.0.0) (λ (v : B). Ok (v, later.0.1)) e later.2) [
            | inl second ↦ inr (later.0.0, t.text, later.0.1, t.parts, t.spells, second)
            | inr never ↦ absurd (not_refused (never.0, later.0.1) e never.2)
          ]
    ]

pub judged_named : {A B : Type 0} (to : A → Result B Fault) (back : B → Option A) (f : Format A) → IsLawful f
    → NamesFaults f
    → NamesFaults (judged_format to back f)
judged_named to back f lf nf = record {
  names = λ bytes e fits h. judged_names to back f lf.takes nf bytes e fits h;
  answers = λ bytes e s. elim s [
    | inl first ↦ judged_refuses to f bytes e (nf.answers bytes e first)
    | inr b ↦ judged_refuses_value to f b.0 bytes b.2 e (behind_read f lf (λ a rest. to a ≡ Err e) bytes b) b.5
  ];
}

pub judged_pieced : {A B : Type 0} (to : A → Result B Fault) (back : B → Option A) (f : Format A) → ReadsInPieces f
    → ReadsInPieces (judged_format to back f)
unfolding judged_at
judged_pieced {A} {B} to back f p = record {
  stands = λ bytes more. then_stands (f.read bytes) (f.read (bytes ++ more)) more
      (λ (a : A × List ℕ). to a.0 >>= λ (v : B). Ok (v, a.1)) (p.stands bytes more)
      (λ a rest. plain_stands (to a) (λ v. v) rest more);
  leaves = λ bytes. then_leaves (f.read bytes) (length bytes) (λ (a : A × List ℕ). to a.0 >>= λ (v : B). Ok (v, a.1))
      (p.leaves bytes) (λ a rest le. plain_leaves (to a) (λ v. v) rest (length bytes) le);
}

pub judged_eats : {A B : Type 0} (to : A → Result B Fault) (back : B → Option A) (f : Format A) → TakesSomeBytes f
    → TakesSomeBytes (judged_format to back f)
unfolding judged_at
judged_eats {A} {B} to back f e = record {
  eats = λ bytes. then_eats (f.read bytes) (length bytes) (λ (a : A × List ℕ). to a.0 >>= λ (v : B). Ok (v, a.1))
      (e.eats bytes) (λ a rest. plain_leaves (to a) (λ v. v) rest (length rest) (omega arith));
}

-- A different value is written than was read.
pub judged_back_sound : {A B : Type 0} (to : A → Result B Fault) (back : B → Option A) (f : Format A)
    → Returns to back f → IsSound f → IsSound (judged_format to back f)
judged_back_sound to back f returns s = record {
  lawful = record {
    takes = judged_takes to back f s.lawful.takes;
    again = λ v text rest h. judged_reads to f h.0 v (text ++ rest) rest (s.lawful.again h.0 text rest h.2) h.1;
    writes = λ v h. back_writes to f s.lawful.writes v (back v) h;
  };
  pieced = judged_pieced to back f s.pieced;
  some = judged_eats to back f s.some;
  named = judged_named to back f s.lawful s.named;
  shortest = λ v text h. omega (arith, back_shorter to f h.0 v (back v) (returns h.0 v h.1), s.shortest h.0 text h.2);
  limited = λ v text h. back_fits to f h.0 v (back v) (returns h.0 v h.1) (s.limited h.0 text h.2);
  writable = λ v h. back_writable to f s.writable v (back v) h;
}

pub judged_sound : {A B : Type 0} (to : A → Result B Fault) (back : B → Option A) (f : Format A)
    → ((a : A) (v : B) → to a ≡ Ok v → back v ≡ Some a) → IsSound f → IsSound (judged_format to back f)
judged_sound to back f same s = judged_back_sound to back f (returns_same to back f same) s

-- ---- cases of sums

module _ {A B : Type 0} (to : A → B) (back : B → Option A) (f : Format A) (same : (a : A) → back (to a) ≡ Some a) where
  case_back : (a : A) (v : B) → (let r : Result B Fault = Ok (to a) in r ≡ Ok v) → back v ≡ Some a
  case_back a v e = subst (λ (x : B). back x ≡ Some a) (ok_is (to a) v e) (same a)

  pub case_sound : IsSound f → IsSound (case_of to back f)
  case_sound s = judged_sound (λ a. Ok (to a)) back f case_back s

  pub case_at_end : IsSoundAtEnd f → IsSoundAtEnd (case_of to back f)
  case_at_end s = record {
    takes = judged_takes (λ a. Ok (to a)) back f s.takes;
    again = λ v text h. judged_reads (λ a. Ok (to a)) f h.0 v text [] (s.again h.0 text h.2) h.1;
    writes = λ v h. back_writes (λ a. Ok (to a)) f s.writes v (back v) h;
    named = record {
      names = λ bytes e fits h. judged_names (λ a. Ok (to a)) back f s.takes s.named bytes e fits h;
      answers = λ bytes e h. elim h [
        | inl first ↦ judged_refuses (λ a. Ok (to a)) f bytes e (s.named.answers bytes e first)
        | inr never ↦ absurd (not_refused (to never.0) e never.5)
      ];
    };
    limited = λ v text h. back_fits (λ a. Ok (to a)) f h.0 v (back v)
        (returns_same (λ a. Ok (to a)) back f case_back h.0 v h.1) (s.limited h.0 text h.2);
    writable = λ v h. back_writable (λ a. Ok (to a)) f s.writable v (back v) h;
  }

-- ---- null for an empty list

module _ {A : Type 0} (f : Format (Option (List A))) (fits : f.Fits None → f.Fits (Some []))
    (shorter : length (f.written (Some [])) ≤ length (f.written None)) where
  null_returns : (a : Option (List A)) (v : List A) → (let r : Result (List A) Fault = Ok (or_empty a) in r ≡ Ok v)
      → IsBack (λ v. Ok (or_empty v)) f a v (Some (Some v))
  null_returns None v e = subst (λ (v : List A). IsBack (λ v. Ok (or_empty v)) f None v (Some (Some v))) (ok_is [] v e)
      (refl, fits, shorter)
  null_returns (Some vs) v e = subst (λ (v : List A). IsBack (λ v. Ok (or_empty v)) f (Some vs) v (Some (Some v)))
      (ok_is vs v e) (refl, λ h. h, omega arith)

  pub or_null_sound : IsSound f → IsSound (or_null f)
  or_null_sound s = judged_back_sound (λ v. Ok (or_empty v)) (λ vs. Some (Some vs)) f null_returns s
