-- Sums of cases after a tag, and values that fill a buffer.
use Rattle.std.proofs.Common.{◌≡◌, ℕ, ◌≤◌, false, cond, eqb, List, [], ◌∷◌, ◌++◌, length, Option, Some, None, Result, Ok, Err, refl, sym, ap, subst, ◌∙◌, append_assoc, arith, inl, inr}
use Rattle.std.specs.Prelude.{◌≢◌, ℤ, pos}
use Rattle.std.specs.Int.{w32}
use Rattle.std.proofs.lemmas.Bool.{eqb-true, ne_eqb}
use Rattle.std.proofs.lemmas.List.{append-nil, nil_from_length, length-append}
use Rattle.values.specs.declared.fault.Fault.{Fault}
use Rattle.values.specs.declared.fault.Fault.TheVariants.{TrailingBytes}
use Rattle.jute.specs.Format.{Format, number_bytes, buffer, buffer_limit}
use Rattle.jute.specs.Sums.{empty_format, refusal_format, tagged_format, tagged_at, whole_value, AgainstWhole, held_value, AgainstHeld, held_in_buffer}
use Rattle.jute.specs.Laws.{IsBytes, TakesSpelling, TakesSpellings, NamesFaults, IsSound, IsSoundAtEnd}
use Rattle.jute.specs.Pieces.{ReadsInPieces, TakesSomeBytes}
use Rattle.jute.proofs.Steps.{IsBytes-front, IsBytes-back, bind_ok, guard_ended, ok_is, guard_refused, bind_err, behind_read, then_stands, then_leaves, within, then_eats}
use Rattle.jute.proofs.Judged.{judged_takes, judged_named, judged_pieced, judged_eats, judged_reads}
use Rattle.jute.proofs.Buffers.{buffer_sound}

-- ---- values without bytes, and no values

empty_takes : TakesSpellings empty_format
empty_takes bytes v rest fits e =
    let whole : TakesSpelling empty_format bytes tt bytes =
    record { text = []; parts = refl; spells = refl; rest_fits = fits } in
    subst (λ (y : Unit {0} × List ℕ). TakesSpelling empty_format bytes y.0 y.1) (ok_is (tt, bytes) (v, rest) e) whole

pub empty_at_end : IsSoundAtEnd empty_format
empty_at_end = record {
  takes = empty_takes;
  again = λ v text s. ap (λ (t : List ℕ). Ok (tt, t)) s;
  writes = λ v h. refl;
  named = record { names = λ bytes e fits h. absurd cc; answers = λ bytes e s. absurd s };
  limited = λ v text s. tt;
  writable = λ v h. tt;
}

pub refusal_sound : {A : Type 0} (d : Fault) → IsSound (refusal_format {A = A} d)
refusal_sound {A} d = record {
  lawful =
      record { takes = λ bytes v rest fits e. absurd cc; again = λ v text rest s. absurd s; writes = λ v h. absurd h };
  pieced = record { stands = λ bytes more. inr refl; leaves = λ bytes. tt };
  some = record { eats = λ bytes. tt };
  named = record { names = λ bytes e fits h. cc; answers = λ bytes e s. ap (λ x. Err x) (sym s) };
  shortest = λ v text s. absurd s;
  limited = λ v text s. absurd s;
  writable = λ v h. absurd h;
}

-- ---- sums

module _ {K B : Type 0} (tag : Format K) (tag_of : B → K) (f : K → Format B) (tells : (k : K) (v : B) (text : List ℕ)
    → (f k).Spells v text → tag_of v ≡ k) (tags : IsSound tag) where
  tagged_takes : ((k : K) → TakesSpellings (f k)) → TakesSpellings (tagged_format tag tag_of f)
  unfolding tagged_at
  tagged_takes tf bytes v rest fits e =
      let a = bind_ok (tag.read bytes) (λ (k : K × List ℕ). (f k.0).read k.1) (v, rest) e in
      let t0 = tags.lawful.takes bytes a.0.0 a.0.1 fits a.1 in
      let t1 = tf a.0.0 a.0.1 v rest t0.rest_fits a.2 in
      let same : a.0.0 ≡ tag_of v = sym (tells a.0.0 v t1.text t1.spells) in
      record {
        text = t0.text ++ t1.text;
        parts = t0.parts ∙ ap (λ (t : List ℕ). t0.text ++ t) t1.parts ∙ sym (append_assoc t0.text t1.text rest);
        spells = (
          t0.text,
          t1.text,
          refl,
          subst (λ (k : K). tag.Spells k t0.text) same t0.spells,
          subst (λ (k : K). (f k).Spells v t1.text) same t1.spells,
        );
        rest_fits = t1.rest_fits;
      }

  tagged_named : ((k : K) → NamesFaults (f k)) → NamesFaults (tagged_format tag tag_of f)
  unfolding tagged_at
  tagged_named nf = record {
    names = λ bytes e fits h.
        elim (bind_err (tag.read bytes) (λ (k : K × List ℕ). (f k.0).read k.1) e h) [
          | inl first ↦ inl (tags.named.names bytes e fits first)
          | inr later ↦
              let t = tags.lawful.takes bytes later.0.0 later.0.1 fits later.1 in
              inr (
                later.0.0,
                t.text,
                later.0.1,
                t.parts,
                t.spells,
                (nf later.0.0).names later.0.1 e t.rest_fits later.2,
              )
        ];
    answers = λ bytes e s. elim s [
      | inl first ↦ rw (tags.named.answers bytes e first) refl
      | inr b ↦ rw (behind_read tag tags.lawful (λ k rest. (f k).against e rest) bytes b) ((nf b.0).answers b.2 e b.5)
    ];
  }

  tagged_again : ((k : K) → IsSound (f k)) → (v : B) (text rest : List ℕ) → (tagged_format tag tag_of f).Spells v text
      → tagged_at tag.read (λ k. (f k).read) (text ++ rest) ≡ Ok (v, rest)
  unfolding tagged_at
  tagged_again sf v text rest s =
      let regrouped : text ++ rest ≡ s.0 ++ (s.1 ++ rest) = ap (λ (t : List ℕ). t ++ rest) s.2
      ∙ append_assoc s.0 s.1 rest in
      rw (ap tag.read regrouped ∙ tags.lawful.again (tag_of v) s.0 (s.1 ++ rest) s.3)
      ((sf (tag_of v)).lawful.again v s.1 rest s.4)

  tagged_pieced : ((k : K) → IsSound (f k)) → ReadsInPieces (tagged_format tag tag_of f)
  unfolding tagged_at
  tagged_pieced sf = record {
    stands = λ bytes more. then_stands (tag.read bytes) (tag.read (bytes ++ more)) more
        (λ (k : K × List ℕ). (f k.0).read k.1) (tags.pieced.stands bytes more)
        (λ k rest. (sf k).pieced.stands rest more);
    leaves = λ bytes. then_leaves (tag.read bytes) (length bytes) (λ (k : K × List ℕ). (f k.0).read k.1)
        (tags.pieced.leaves bytes) (λ k rest le. within ((f k).read rest) (length rest) (length bytes) le
        ((sf k).pieced.leaves rest));
  }

  tagged_eats : ((k : K) → IsSound (f k)) → TakesSomeBytes (tagged_format tag tag_of f)
  unfolding tagged_at
  tagged_eats sf = record {
    eats = λ bytes. then_eats (tag.read bytes) (length bytes)
        (λ (k : K × List ℕ). (f k.0).read k.1) (tags.some.eats bytes) (λ k rest. (sf k).pieced.leaves rest);
  }

  pub tagged_sound : ((k : K) → IsSound (f k)) → IsSound (tagged_format tag tag_of f)
  tagged_sound sf = record {
    lawful = record {
      takes = tagged_takes (λ k. (sf k).lawful.takes);
      again = tagged_again sf;
      writes = λ v h. (
        tag.written (tag_of v),
        (f (tag_of v)).written v,
        refl,
        tags.lawful.writes (tag_of v) h.0,
        (sf (tag_of v)).lawful.writes v h.1,
      );
    };
    pieced = tagged_pieced sf;
    some = tagged_eats sf;
    named = tagged_named (λ k. (sf k).named);
    shortest = λ v text s. omega (
      arith,
      tags.shortest (tag_of v) s.0 s.3,
      (sf (tag_of v)).shortest v s.1 s.4,
      ap length s.2,
      length-append s.0 s.1,
      length-append (tag.written (tag_of v)) ((f (tag_of v)).written v),
    );
    limited = λ v text s. (tags.limited (tag_of v) s.0 s.3, (sf (tag_of v)).limited v s.1 s.4);
    writable = λ v h. (tags.writable (tag_of v) h.0, (sf (tag_of v)).writable v h.1);
  }

  end_again : ((k : K) → IsSoundAtEnd (f k)) → (v : B) (text : List ℕ) → (tagged_format tag tag_of f).Spells v text
      → tagged_at tag.read (λ k. (f k).read) text ≡ Ok (v, [])
  unfolding tagged_at
  end_again sf v text s =
      rw (ap tag.read s.2 ∙ tags.lawful.again (tag_of v) s.0 s.1 s.3) ((sf (tag_of v)).again v s.1 s.4)

  pub tagged_at_end : ((k : K) → IsSoundAtEnd (f k)) → IsSoundAtEnd (tagged_format tag tag_of f)
  tagged_at_end sf = record {
    takes = tagged_takes (λ k. (sf k).takes);
    again = end_again sf;
    writes = λ v h. (
      tag.written (tag_of v),
      (f (tag_of v)).written v,
      refl,
      tags.lawful.writes (tag_of v) h.0,
      (sf (tag_of v)).writes v h.1,
    );
    named = tagged_named (λ k. (sf k).named);
    limited = λ v text s. (tags.limited (tag_of v) s.0 s.3, (sf (tag_of v)).limited v s.1 s.4);
    writable = λ v h. (tags.writable (tag_of v) h.0, (sf (tag_of v)).writable v h.1);
  }

-- ---- all of the bytes

pub whole_found : {A : Type 0} (f : Format A) → TakesSpellings f → (x : List ℕ) (v : A) → IsBytes x
    → whole_value f.read x ≡ Ok v → f.Spells v x
unfolding whole_value
whole_found {A} f tf x v fits e =
    let a = bind_ok (f.read x) (λ (y : A × List ℕ). cond (eqb (length y.1) 0) (Ok y.0) (Err TrailingBytes)) v e in
    let g = guard_ended (eqb (length a.0.1) 0) TrailingBytes a.0.0 v a.2 in
    let t = tf x a.0.0 a.0.1 fits a.1 in
    let nothing : a.0.1 ≡ [] = nil_from_length a.0.1 (eqb-true _ _ g.0) in
    let all : t.text ≡ x = sym (t.parts ∙ ap (λ (r : List ℕ). t.text ++ r) nothing ∙ append-nil t.text) in
    subst (λ (y : A). f.Spells y x) g.1 (subst (λ (y : List ℕ). f.Spells a.0.0 y) all t.spells)

pub whole_again : {A : Type 0} (f : Format A) (x : List ℕ) (v : A) → f.read x ≡ Ok (v, []) → whole_value f.read x ≡ Ok v
unfolding whole_value
whole_again f x v h = rw h refl

left_over : (rest : List ℕ) → eqb (length rest) 0 ≡ false → rest ≢ []
left_over [] h e = absurd cc
left_over (b ∷ rest) h e = absurd cc

over_is_left : {A : Type 0} (v : A) (rest : List ℕ) → rest ≢ []
    → (let r : Result A Fault = cond (eqb (length rest) 0) (Ok v) (Err TrailingBytes) in r ≡ Err TrailingBytes)
over_is_left v [] h = absurd (h refl)
over_is_left v (b ∷ rest) h = rw (ne_eqb (length (b ∷ rest)) 0 (λ e. h (nil_from_length (b ∷ rest) e))) refl

pub whole_refused : {A : Type 0} (f : Format A) → IsSound f → (x : List ℕ) (e : Fault) → IsBytes x
    → whole_value f.read x ≡ Err e → AgainstWhole f e x
unfolding whole_value
whole_refused {A} f s x e fits h =
    elim (bind_err (f.read x) (λ (y : A × List ℕ). cond (eqb (length y.1) 0) (Ok y.0) (Err TrailingBytes)) e h) [
      | inl first ↦ inl (s.named.names x e fits first)
      | inr later ↦
          let t = s.lawful.takes x later.0.0 later.0.1 fits later.1 in
          let g = guard_refused (eqb (length later.0.1) 0) TrailingBytes e later.0.0 later.2 in
          inr (sym g.1, (later.0.0, t.text, later.0.1, t.parts, t.spells, left_over later.0.1 g.0))
    ]

pub whole_refuses : {A : Type 0} (f : Format A) → IsSound f → (x : List ℕ) (e : Fault) → AgainstWhole f e x
    → whole_value f.read x ≡ Err e
unfolding whole_value
whole_refuses f s x e h = elim h [
  | inl first ↦ rw (s.named.answers x e first) refl
  | inr b ↦ rw (
    behind_read f s.lawful (λ v rest. rest ≢ []) x b.1,
    over_is_left b.1.0 b.1.2 b.1.5,
  ) (ap (λ d. Err d) (sym b.0))
]

-- ---- parts

number_long : (z : ℤ) → length (number_bytes w32 z) ≡ 4
unfolding number_bytes
number_long z = refl

module _ {A : Type 0} (f : Format A) (s : IsSound f) where
  abbrev never_back : A → Option (Option (List ℕ))
  never_back v = None

  held_spelled : (b : Option (List ℕ)) (text : List ℕ) (v : A) → IsBytes text → buffer.Spells b text
      → held_value f.read b ≡ Ok v → (x : List ℕ) × f.Spells v x × buffer.Spells (Some x) text
  held_spelled None text v fits h e = absurd cc
  held_spelled (Some x) text v fits h e =
      let bytes : IsBytes x = IsBytes-back (number_bytes w32 (pos (length x))) x (subst IsBytes h.1 fits) in
      (x, whole_found f s.lawful.takes x v bytes e, h)

  held_takes : TakesSpellings (held_in_buffer f)
  held_takes bytes v rest fits e =
      let t = judged_takes (held_value f.read) never_back buffer buffer_sound.lawful.takes bytes v rest fits e in
      record {
        text = t.text;
        parts = t.parts;
        spells = held_spelled t.spells.0 t.text v
            (IsBytes-front t.text rest (subst IsBytes t.parts fits)) t.spells.2 t.spells.1;
        rest_fits = t.rest_fits;
      }

  held_again : (v : A) (text rest : List ℕ) → (held_in_buffer f).Spells v text
      → (held_in_buffer f).read (text ++ rest) ≡ Ok (v, rest)
  held_again v text rest h =
      let all : f.read h.0 ≡ Ok (v, []) = ap f.read (sym (append-nil h.0)) ∙ s.lawful.again v h.0 [] h.1 in
      judged_reads (held_value f.read) buffer (Some h.0) v (text ++ rest) rest
      (buffer_sound.lawful.again (Some h.0) text rest h.2) (whole_again f h.0 v all)

  held_refused : (b : Option (List ℕ)) (text : List ℕ) (e : Fault) → IsBytes text → buffer.Spells b text
      → held_value f.read b ≡ Err e → AgainstHeld f e b
  held_refused None text e fits h k = cc
  held_refused (Some x) text e fits h k =
      whole_refused f s x e (IsBytes-back (number_bytes w32 (pos (length x))) x (subst IsBytes h.1 fits)) k

  held_refuses : (b : Option (List ℕ)) (e : Fault) → AgainstHeld f e b → held_value f.read b ≡ Err e
  held_refuses None e h = ap (λ d. Err d) (sym h)
  held_refuses (Some x) e h = whole_refuses f s x e h

  held_named : NamesFaults (held_in_buffer f)
  held_named = record {
    names =
        λ bytes e fits h. elim ((judged_named (held_value f.read) never_back buffer buffer_sound.lawful
        buffer_sound.named).names bytes e fits h) [
          | inl first ↦ inl first
          | inr b ↦
              inr (
                b.0,
                b.1,
                b.2,
                b.3,
                b.4,
                held_refused b.0 b.1 e
                    (IsBytes-front b.1 b.2 (subst IsBytes b.3 fits)) b.4 b.5,
              )
        ];
    answers = λ bytes e h. elim h [
      | inl first ↦ (judged_named (held_value f.read) never_back buffer buffer_sound.lawful buffer_sound.named).answers
          bytes e (inl first)
      | inr b ↦ (judged_named (held_value f.read) never_back buffer buffer_sound.lawful buffer_sound.named).answers
          bytes e (inr (b.0, b.1, b.2, b.3, b.4, held_refuses b.0 e b.5))
    ];
  }

  held_short : (v : A) (text : List ℕ) (x : List ℕ) → f.Spells v x → buffer.Spells (Some x) text
      → length (f.written v) ≤ buffer_limit
  held_short v text x h k = let le : length x ≤ buffer_limit = k.0 in omega (arith, s.shortest v x h)

  pub held_sound : IsSound (held_in_buffer f)
  held_sound = record {
    lawful = record {
      takes = held_takes;
      again = held_again;
      writes = λ v h. (f.written v, s.lawful.writes v h.0, (h.1, refl));
    };
    pieced = let p = judged_pieced (held_value f.read) never_back buffer buffer_sound.pieced in record
        { stands = p.stands; leaves = p.leaves };
    some = let p = judged_eats (held_value f.read) never_back buffer buffer_sound.some in record { eats = p.eats };
    named = held_named;
    shortest = λ v text h. omega (
      arith,
      s.shortest v h.0 h.1,
      ap length h.2.1,
      length-append (number_bytes w32 (pos (length h.0))) h.0,
      length-append (number_bytes w32 (pos (length (f.written v)))) (f.written v),
      number_long (pos (length h.0)),
      number_long (pos (length (f.written v))),
    );
    limited = λ v text h. (s.limited v h.0 h.1, held_short v text h.0 h.1 h.2);
    writable = λ v h. (s.writable v h.0, (let le : length (f.written v) ≤ buffer_limit = h.1 in omega arith));
  }
