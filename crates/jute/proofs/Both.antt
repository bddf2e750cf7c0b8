-- One format after another, and values of one type that represent those of another.
use Rattle.std.proofs.Common.{◌≡◌, ℕ, List, [], ◌++◌, length, Ok, refl, sym, ap, subst, ◌∙◌, append_assoc, arith, inl, inr}
use Rattle.std.proofs.lemmas.List.{append-nil, length-append}
use Rattle.jute.specs.Format.{◌>>=◌, Format, pair_of, mapped_format}
use Rattle.jute.specs.Laws.{TakesSpelling, TakesSpellings, NamesFaults, IsLawful, IsSound, IsSoundAtEnd}
use Rattle.jute.specs.Pieces.{ReadsInPieces, TakesSomeBytes}
use Rattle.jute.proofs.Steps.{bind_ok, ok_is, bind_err, not_refused, behind_read, then_stands, then_leaves, within, then_eats}

-- A format that is sound anywhere is sound at an end.
pub sound_at_end : {A : Type 0} (f : Format A) → IsSound f → IsSoundAtEnd f
sound_at_end f s = record {
  takes = s.lawful.takes;
  again = λ v text h. ap f.read (sym (append-nil text)) ∙ s.lawful.again v text [] h;
  writes = s.lawful.writes;
  named = s.named;
  limited = s.limited;
  writable = s.writable;
}

-- ---- one after another

both_takes : {A B : Type 0} (f : Format A) (g : Format B) → TakesSpellings f → TakesSpellings g
    → TakesSpellings (pair_of f g)
both_takes {A} {B} f g tf tg bytes v rest fits e =
    let a = bind_ok (f.read bytes) (λ (a : A × List ℕ). g.read a.1 >>= λ (b : B × List ℕ). Ok ((a.0, b.0), b.1)) (
      v,
      rest,
    ) e in
    let b = bind_ok (g.read a.0.1) (λ (b : B × List ℕ). Ok ((a.0.0, b.0), b.1)) (v, rest) a.2 in
    let t0 = tf bytes a.0.0 a.0.1 fits a.1 in
    let t1 = tg a.0.1 b.0.0 b.0.1 t0.rest_fits b.1 in
    let made : (A × B) × List ℕ = ((a.0.0, b.0.0), b.0.1) in
    let whole : TakesSpelling (pair_of f g) bytes made.0 made.1 = record {
      text = t0.text ++ t1.text;
      parts = t0.parts ∙ ap (λ (t : List ℕ). t0.text ++ t) t1.parts ∙ sym (append_assoc t0.text t1.text b.0.1);
      spells = (t0.text, t1.text, refl, t0.spells, t1.spells);
      rest_fits = t1.rest_fits;
    } in
    subst (λ (y : (A × B) × List ℕ). TakesSpelling (pair_of f g) bytes y.0 y.1) (ok_is made (v, rest) b.2) whole

both_lawful : {A B : Type 0} (f : Format A) (g : Format B) → IsLawful f → IsLawful g → IsLawful (pair_of f g)
both_lawful f g lf lg = record {
  takes = both_takes f g lf.takes lg.takes;
  again = λ v text rest s.
      let regrouped : text ++ rest ≡ s.0 ++ (s.1 ++ rest) = ap (λ (t : List ℕ). t ++ rest) s.2
      ∙ append_assoc s.0 s.1 rest in
      ap (pair_of f g).read regrouped ∙ rw (lf.again v.0 s.0 (s.1 ++ rest) s.3, lg.again v.1 s.1 rest s.4) refl;
  writes = λ v h. (f.written v.0, g.written v.1, refl, lf.writes v.0 h.0, lg.writes v.1 h.1);
}

both_pieced : {A B : Type 0} (f : Format A) (g : Format B) → ReadsInPieces f → ReadsInPieces g
    → ReadsInPieces (pair_of f g)
both_pieced {A} {B} f g p q = record {
  stands = λ bytes more. then_stands (f.read bytes) (f.read (bytes ++ more)) more
      (λ (a : A × List ℕ). g.read a.1 >>= λ (b : B × List ℕ). Ok ((a.0, b.0), b.1)) (p.stands bytes more)
      (λ a rest. then_stands (g.read rest) (g.read (rest ++ more)) more (λ (b : B × List ℕ). Ok ((a, b.0), b.1))
      (q.stands rest more) (λ b last. refl));
  leaves = λ bytes. then_leaves (f.read bytes) (length bytes) (λ (a : A × List ℕ). g.read a.1 >>= λ (b : B × List ℕ). Ok
      ((a.0, b.0), b.1)) (p.leaves bytes)
      (λ a rest le. then_leaves (g.read rest) (length bytes) (λ (b : B × List ℕ). Ok ((a, b.0), b.1))
      (within (g.read rest) (length rest) (length bytes) le (q.leaves rest)) (λ b last lt. lt));
}

both_eats : {A B : Type 0} (f : Format A) (g : Format B) → TakesSomeBytes f → ReadsInPieces g
    → TakesSomeBytes (pair_of f g)
both_eats {A} {B} f g e q = record {
  eats = λ bytes. then_eats (f.read bytes) (length bytes) (λ (a : A × List ℕ). g.read a.1 >>= λ (b : B × List ℕ). Ok
      ((a.0, b.0), b.1)) (e.eats bytes)
      (λ a rest. then_leaves (g.read rest) (length rest) (λ (b : B × List ℕ). Ok ((a, b.0), b.1)) (q.leaves rest)
      (λ b last lt. lt));
}

both_named : {A B : Type 0} (f : Format A) (g : Format B) → IsLawful f → NamesFaults f → NamesFaults g
    → NamesFaults (pair_of f g)
both_named {A} {B} f g lf nf ng = record {
  names = λ bytes e fits h.
      elim (bind_err (f.read bytes) (λ (a : A × List ℕ). g.read a.1 >>= λ (b : B × List ℕ). Ok ((a.0, b.0), b.1)) e h) [
        | inl first ↦ inl (nf.names bytes e fits first)
        | inr later ↦
            let t = lf.takes bytes later.0.0 later.0.1 fits later.1 in
            elim (bind_err (g.read later.0.1) (λ (b : B × List ℕ). Ok ((later.0.0, b.0), b.1)) e later.2) [
              | inl second ↦ inr (
                later.0.0,
                t.text,
                later.0.1,
                t.parts,
                t.spells,
                ng.names later.0.1 e t.rest_fits second,
              )
              | inr never ↦ absurd (not_refused ((later.0.0, never.0.0), never.0.1) e never.2)
            ]
      ];
  answers = λ bytes e s. elim s [
    | inl first ↦ rw (nf.answers bytes e first) refl
    | inr b ↦ rw (behind_read f lf (λ v rest. g.against e rest) bytes b, ng.answers b.2 e b.5) refl
  ];
}

pub both_sound : {A B : Type 0} (f : Format A) (g : Format B) → IsSound f → IsSound g → IsSound (pair_of f g)
both_sound f g a b = record {
  lawful = both_lawful f g a.lawful b.lawful;
  pieced = both_pieced f g a.pieced b.pieced;
  some = both_eats f g a.some b.pieced;
  named = both_named f g a.lawful a.named b.named;
  shortest = λ v text s. omega (
    arith,
    a.shortest v.0 s.0 s.3,
    b.shortest v.1 s.1 s.4,
    ap length s.2,
    length-append s.0 s.1,
    length-append (f.written v.0) (g.written v.1),
  );
  limited = λ v text s. (a.limited v.0 s.0 s.3, b.limited v.1 s.1 s.4);
  writable = λ v h. (a.writable v.0 h.0, b.writable v.1 h.1);
}

pub both_at_end : {A B : Type 0} (f : Format A) (g : Format B) → IsSound f → IsSoundAtEnd g → IsSoundAtEnd (pair_of f g)
both_at_end f g a b = record {
  takes = both_takes f g a.lawful.takes b.takes;
  again = λ v text s. ap (pair_of f g).read s.2 ∙ rw (a.lawful.again v.0 s.0 s.1 s.3, b.again v.1 s.1 s.4) refl;
  writes = λ v h. (f.written v.0, g.written v.1, refl, a.lawful.writes v.0 h.0, b.writes v.1 h.1);
  named = both_named f g a.lawful a.named b.named;
  limited = λ v text s. (a.limited v.0 s.0 s.3, b.limited v.1 s.1 s.4);
  writable = λ v h. (a.writable v.0 h.0, b.writable v.1 h.1);
}

-- ---- values of another type

mapped_takes : {A B : Type 0} (to : A → B) (from : B → A) (f : Format A) → ((a : A) → from (to a) ≡ a)
    → TakesSpellings f → TakesSpellings (mapped_format to from f)
mapped_takes {A} {B} to from f there tf bytes v rest fits e =
    let a = bind_ok (f.read bytes) (λ (a : A × List ℕ). Ok (to a.0, a.1)) (v, rest) e in
    let t = tf bytes a.0.0 a.0.1 fits a.1 in
    let whole : TakesSpelling (mapped_format to from f) bytes (to a.0.0) a.0.1 = record {
      text = t.text;
      parts = t.parts;
      spells = subst (λ (x : A). f.Spells x t.text) (sym (there a.0.0)) t.spells;
      rest_fits = t.rest_fits;
    } in
    subst (λ (y : B × List ℕ). TakesSpelling (mapped_format to from f) bytes y.0 y.1)
    (ok_is (to a.0.0, a.0.1) (v, rest) a.2) whole

mapped_pieced : {A B : Type 0} (to : A → B) (from : B → A) (f : Format A) → ReadsInPieces f
    → ReadsInPieces (mapped_format to from f)
mapped_pieced {A} to from f p = record {
  stands = λ bytes more. then_stands (f.read bytes) (f.read (bytes ++ more)) more (λ (a : A × List ℕ). Ok (to a.0, a.1))
      (p.stands bytes more) (λ a rest. refl);
  leaves = λ bytes. then_leaves (f.read bytes) (length bytes) (λ (a : A × List ℕ). Ok (to a.0, a.1)) (p.leaves bytes)
      (λ a rest le. le);
}

mapped_eats : {A B : Type 0} (to : A → B) (from : B → A) (f : Format A) → TakesSomeBytes f
    → TakesSomeBytes (mapped_format to from f)
mapped_eats {A} to from f e = record {
  eats = λ bytes. then_eats (f.read bytes) (length bytes)
      (λ (a : A × List ℕ). Ok (to a.0, a.1)) (e.eats bytes) (λ a rest. omega arith);
}

mapped_named : {A B : Type 0} (to : A → B) (from : B → A) (f : Format A) → NamesFaults f
    → NamesFaults (mapped_format to from f)
mapped_named {A} to from f nf = record {
  names = λ bytes e fits h.
      elim (bind_err (f.read bytes) (λ (a : A × List ℕ). Ok (to a.0, a.1)) e h) [
        | inl first ↦ nf.names bytes e fits first
        | inr never ↦ absurd (not_refused (to never.0.0, never.0.1) e never.2)
      ];
  answers = λ bytes e s. rw (nf.answers bytes e s) refl;
}

pub mapped_sound : {A B : Type 0} (to : A → B) (from : B → A) (f : Format A) → ((a : A) → from (to a) ≡ a)
    → ((b : B) → to (from b) ≡ b) → IsSound f → IsSound (mapped_format to from f)
mapped_sound to from f there back a = record {
  lawful = record {
    takes = mapped_takes to from f there a.lawful.takes;
    again = λ v text rest s. rw (a.lawful.again (from v) text rest s, back v) refl;
    writes = λ v h. a.lawful.writes (from v) h;
  };
  pieced = mapped_pieced to from f a.pieced;
  some = mapped_eats to from f a.some;
  named = mapped_named to from f a.named;
  shortest = λ v text s. a.shortest (from v) text s;
  limited = λ v text s. a.limited (from v) text s;
  writable = λ v h. a.writable (from v) h;
}

pub mapped_at_end : {A B : Type 0} (to : A → B) (from : B → A) (f : Format A) → ((a : A) → from (to a) ≡ a)
    → ((b : B) → to (from b) ≡ b) → IsSoundAtEnd f → IsSoundAtEnd (mapped_format to from f)
mapped_at_end to from f there back a = record {
  takes = mapped_takes to from f there a.takes;
  again = λ v text s. rw (a.again (from v) text s, back v) refl;
  writes = λ v h. a.writes (from v) h;
  named = mapped_named to from f a.named;
  limited = λ v text s. a.limited (from v) text s;
  writable = λ v h. a.writable (from v) h;
}
