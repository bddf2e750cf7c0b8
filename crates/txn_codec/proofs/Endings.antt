-- The ends of transactions are sound.
use Rattle.std.proofs.Common.{◌≡◌, ℕ, Bool, true, false, List, [], ◌∷◌, ◌++◌, length, Option, Some, None, Result, Ok, Err, refl, sym, ap, subst, ◌∙◌, arith, inl, inr}
use Rattle.std.specs.Prelude.{ℤ, negsuc, pos, ◌≤◌}
use Rattle.std.proofs.lemmas.List.{append-nil, length-append}
use Rattle.std.specs.Int.{w32}
use Rattle.values.specs.declared.fault.Fault.{Fault}
use Rattle.values.specs.declared.fault.Fault.TheVariants.{Short, TrailingBytes}
use Rattle.jute.specs.Format.{◌>>=◌, Format, buffer, buffer_limit, number_bytes, pair_of, mapped_format}
use Rattle.jute.specs.Laws.{IsBytes, TakesSpelling, TakesSpellings, NamesFaults, IsSound, IsSoundAtEnd}
use Rattle.jute.proofs.Public.{IsBytes-front, IsBytes-back, bind_ok, guard_ended, guard_refused, ok_is, not_refused, sound_at_end, buffer_sound, both_at_end, mapped_at_end, judged_takes, judged_reads, judged_pieced, judged_eats, held_sound}
use Rattle.jute.proofs.Judged.{judged_named}
use Rattle.txn_codec.specs.Endings.{is_trailer, trailer_format, trailer_if, with_trailer, with_trailer_if, last_at, or_end, front_value, AgainstFront, front_of_buffer, in_buffer}

-- ---- the digest of the leader's tree

trailer_takes : TakesSpellings trailer_format
trailer_takes bytes v rest fits e =
    let g = guard_ended (is_trailer bytes) TrailingBytes (tt, []) (v, rest) e in
    let made : TakesSpelling trailer_format bytes tt [] =
    record { text = bytes; parts = sym (append-nil bytes); spells = g.0; rest_fits = λ i. omega arith } in
    subst (λ (y : Unit {0} × List ℕ). TakesSpelling trailer_format bytes y.0 y.1) g.1 made

trailer_at_end : IsSoundAtEnd trailer_format
trailer_at_end = record {
  takes = trailer_takes;
  again = λ v text s. rw s refl;
  writes = λ v h. refl;
  named = record {
    names = λ bytes e fits h. (
        let g = guard_refused (is_trailer bytes) TrailingBytes e (tt, []) h in
        (sym g.1, g.0)
        );
    answers = λ bytes e s. rw s.1 (ap (λ (d : Fault). Err d) (sym s.0));
  };
  limited = λ v text s. tt;
  writable = λ v h. tt;
}

module _ {A : Type 0} (f : Format A) (s : IsSound f) where
  pub trailer_sound : IsSoundAtEnd (with_trailer f)
  trailer_sound =
      let m : IsSoundAtEnd (mapped_format (λ (v : A × Unit {0}). v.0) (λ (v : A). (v, tt)) (pair_of f trailer_format)) =
      mapped_at_end (λ (v : A × Unit {0}). v.0) (λ (v : A). (v, tt)) (pair_of f trailer_format) (λ v. refl) (λ v. refl)
      (both_at_end f trailer_format s trailer_at_end) in
      record {
        takes = λ bytes v rest fits e.
            let t = m.takes bytes v rest fits e in
            record { text = t.text; parts = t.parts; spells = t.spells; rest_fits = t.rest_fits };
        again = m.again;
        writes = λ v h. (f.written v, [], sym (append-nil (f.written v)), s.lawful.writes v h, refl);
        named = record { names = m.named.names; answers = m.named.answers };
        limited = λ v text h. (m.limited v text h).0;
        writable = s.writable;
      }

  pub trailer_if_sound : (are_read : Bool) → IsSoundAtEnd (with_trailer_if are_read f)
  trailer_if_sound false = sound_at_end f s
  trailer_if_sound true = trailer_sound

-- A digest or nothing after a value that was read.
abbrev pub then_trailer : {A : Type 0} → Bool → A × List ℕ → Result (A × List ℕ) Fault
then_trailer {A} are_read a = (trailer_if are_read).read a.1 >>= λ (u : Unit {0} × List ℕ). Ok (a.0, u.1)

plain : {A : Type 0} (r : Result (A × List ℕ) Fault) → r ≡ (r >>= then_trailer false)
plain (Ok a) = refl
plain (Err e) = refl

abbrev pair_with : {A : Type 0} → A → Unit {0} × List ℕ → Result ((A × Unit {0}) × List ℕ) Fault
pair_with a u = Ok ((a, u.0), u.1)

abbrev first_of : {A : Type 0} → (A × Unit {0}) × List ℕ → Result (A × List ℕ) Fault
first_of b = Ok (b.0.0, b.1)

abbrev keep : {A : Type 0} → A → Unit {0} × List ℕ → Result (A × List ℕ) Fault
keep a u = Ok (a, u.1)

paired : {A : Type 0} (a : A) (r : Result (Unit {0} × List ℕ) Fault)
    → ((r >>= pair_with a) >>= first_of) ≡ (r >>= keep a)
paired a (Ok u) = refl
paired a (Err e) = refl

followed : {A : Type 0} (r : Result (A × List ℕ) Fault)
    → ((r >>= λ (a : A × List ℕ). trailer_format.read a.1 >>= pair_with a.0) >>= first_of) ≡ (r >>= then_trailer true)
followed (Ok a) = paired a.0 (trailer_format.read a.1)
followed (Err e) = refl

pub trailed : {A : Type 0} (are_read : Bool) (f : Format A) (bytes : List ℕ)
    → (with_trailer_if are_read f).read bytes ≡ (f.read bytes >>= then_trailer are_read)
trailed false f bytes = plain (f.read bytes)
trailed true f bytes = followed (f.read bytes)

-- ---- a number that may be missing

module _ (f : Format ℤ) (s : IsSoundAtEnd f) (minus : f.Fits (negsuc 0)) where
  last_takes : TakesSpellings (or_end f)
  last_takes [] z rest fits e =
      let made : TakesSpelling (or_end f) [] (negsuc 0) [] =
      record { text = []; parts = refl; spells = inr (refl, refl); rest_fits = fits } in
      subst (λ (y : ℤ × List ℕ). TakesSpelling (or_end f) [] y.0 y.1) (ok_is (negsuc 0, []) (z, rest) e) made
  last_takes (b ∷ bytes) z rest fits e =
      let t = s.takes (b ∷ bytes) z rest fits e in
      record { text = t.text; parts = t.parts; spells = inl t.spells; rest_fits = t.rest_fits }

  last_reads : (bytes : List ℕ) (z : ℤ) → f.read bytes ≡ Ok (z, []) → f.read [] ≡ Err Short
      → last_at f.read bytes ≡ Ok (z, [])
  last_reads [] z h none = absurd (not_refused (z, []) Short (sym h ∙ none))
  last_reads (b ∷ bytes) z h none = h

  last_again : f.read [] ≡ Err Short → (z : ℤ) (bytes : List ℕ) → (or_end f).Spells z bytes
      → last_at f.read bytes ≡ Ok (z, [])
  last_again none z bytes (inl h) = last_reads bytes z (s.again z bytes h) none
  last_again none z bytes (inr h) = ap (last_at f.read) h.1 ∙ rw h.0 refl

  last_named : NamesFaults (or_end f)
  last_named = record { names = last_refused; answers = last_refuses } where
    last_refused : (bytes : List ℕ) (e : Fault) → IsBytes bytes → last_at f.read bytes ≡ Err e
        → (or_end f).against e bytes
    last_refused [] e fits h = absurd (not_refused (negsuc 0, []) e h)
    last_refused (b ∷ bytes) e fits h = (s.named.names (b ∷ bytes) e fits h, λ same. cc)

    last_refuses : (bytes : List ℕ) (e : Fault) → (or_end f).against e bytes → last_at f.read bytes ≡ Err e
    last_refuses [] e h = absurd (h.1 refl)
    last_refuses (b ∷ bytes) e h = s.named.answers (b ∷ bytes) e h.0

  last_fits : (z : ℤ) (bytes : List ℕ) → (or_end f).Spells z bytes → f.Fits z
  last_fits z bytes (inl h) = s.limited z bytes h
  last_fits z bytes (inr h) = subst (λ (z : ℤ). f.Fits z) (sym h.0) minus

  pub last_at_end : f.read [] ≡ Err Short → IsSoundAtEnd (or_end f)
  last_at_end none = record {
    takes = last_takes;
    again = last_again none;
    writes = λ z h. inl (s.writes z h);
    named = last_named;
    limited = last_fits;
    writable = s.writable;
  }

-- A digest or nothing is read to the end.
pub ended : {A : Type 0} (f : Format A) (bytes : List ℕ) (v : A) (rest : List ℕ)
    → (with_trailer f).read bytes ≡ Ok (v, rest) → rest ≡ []
ended {A} f bytes v rest e =
    let a = bind_ok (f.read bytes) (then_trailer true) (v, rest) (sym (trailed true f bytes) ∙ e) in
    let b = bind_ok (trailer_format.read a.0.1) (keep a.0.0) (v, rest) a.2 in
    let g = guard_ended (is_trailer a.0.1) TrailingBytes (tt, []) b.0 b.1 in
    sym (ap (λ (y : A × List ℕ). y.1) (ok_is (a.0.0, b.0.1) (v, rest) b.2))
    ∙ sym (ap (λ (y : Unit {0} × List ℕ). y.1) g.1)

-- ---- buffers of which the front counts

pub number_long : (z : ℤ) → length (number_bytes w32 z) ≡ 4
unfolding number_bytes
number_long z = refl

module _ {A : Type 0} (f : Format A) (s : IsSound f) where
  abbrev never_back : A → Option (Option (List ℕ))
  never_back v = None

  front_spelled : (b : Option (List ℕ)) (text : List ℕ) (v : A) → IsBytes text → buffer.Spells b text
      → front_value f.read b ≡ Ok v → (x y : List ℕ) × f.Spells v x × buffer.Spells (Some (x ++ y)) text
  front_spelled None text v fits h e = absurd cc
  front_spelled (Some x) text v fits h e =
      let bytes : IsBytes x = IsBytes-back (number_bytes w32 (pos (length x))) x (subst IsBytes h.1 fits) in
      let a = bind_ok (f.read x) (λ (a : A × List ℕ). Ok a.0) v e in
      let t = s.lawful.takes x a.0.0 a.0.1 bytes a.1 in (
        t.text,
        a.0.1,
        subst (λ (w : A). f.Spells w t.text) (ok_is a.0.0 v a.2) t.spells,
        subst (λ (y : List ℕ). buffer.Spells (Some y) text) t.parts h,
      )

  front_takes : TakesSpellings (front_of_buffer f)
  front_takes bytes v rest fits e =
      let t = judged_takes (front_value f.read) never_back buffer buffer_sound.lawful.takes bytes v rest fits e in
      record {
        text = t.text;
        parts = t.parts;
        spells = front_spelled t.spells.0 t.text v
            (IsBytes-front t.text rest (subst IsBytes t.parts fits)) t.spells.2 t.spells.1;
        rest_fits = t.rest_fits;
      }

  front_again : (v : A) (text rest : List ℕ) → (front_of_buffer f).Spells v text
      → (front_of_buffer f).read (text ++ rest) ≡ Ok (v, rest)
  front_again v text rest h =
      judged_reads (front_value f.read) buffer (Some (h.0 ++ h.1)) v (text ++ rest) rest
      (buffer_sound.lawful.again (Some (h.0 ++ h.1)) text rest h.3) (rw (s.lawful.again v h.0 h.1 h.2) refl)

  unfronted : (r : Result (A × List ℕ) Fault) (e : Fault) → (r >>= λ (a : A × List ℕ). Ok a.0) ≡ Err e → r ≡ Err e
  unfronted (Ok a) e h = absurd (not_refused a.0 e h)
  unfronted (Err d) e h = cc

  front_refused : (b : Option (List ℕ)) (text : List ℕ) (e : Fault) → IsBytes text → buffer.Spells b text
      → front_value f.read b ≡ Err e → AgainstFront f e b
  front_refused None text e fits h k = cc
  front_refused (Some x) text e fits h k =
      s.named.names x e (IsBytes-back (number_bytes w32 (pos (length x))) x (subst IsBytes h.1 fits))
      (unfronted (f.read x) e k)

  front_refuses : (b : Option (List ℕ)) (e : Fault) → AgainstFront f e b → front_value f.read b ≡ Err e
  front_refuses None e h = ap (λ d. Err d) (sym h)
  front_refuses (Some x) e h = rw (s.named.answers x e h) refl

  front_named : NamesFaults (front_of_buffer f)
  front_named =
      let n = judged_named (front_value f.read) never_back buffer buffer_sound.lawful buffer_sound.named in
      record {
        names = λ bytes e fits h. elim (n.names bytes e fits h) [
          | inl first ↦ inl first
          | inr b ↦ inr (
            b.0,
            b.1,
            b.2,
            b.3,
            b.4,
            front_refused b.0 b.1 e (IsBytes-front b.1 b.2 (subst IsBytes b.3 fits)) b.4 b.5,
          )
        ];
        answers = λ bytes e h. elim h [
          | inl first ↦ n.answers bytes e (inl first)
          | inr b ↦ n.answers bytes e (inr (b.0, b.1, b.2, b.3, b.4, front_refuses b.0 e b.5))
        ];
      }

  front_short : (v : A) (x y text : List ℕ) → f.Spells v x → buffer.Spells (Some (x ++ y)) text
      → length (f.written v) ≤ buffer_limit
  front_short v x y text h k =
      let le : length (x ++ y) ≤ buffer_limit = k.0 in omega (arith, s.shortest v x h, length-append x y)

  front_sound : IsSound (front_of_buffer f)
  front_sound = record {
    lawful = record {
      takes = front_takes;
      again = front_again;
      writes = λ v h. (
        f.written v,
        [],
        s.lawful.writes v h.0,
        subst (λ (x : List ℕ). buffer.Spells (Some x) (buffer.written (Some (f.written v))))
            (sym (append-nil (f.written v))) (h.1, refl),
      );
    };
    pieced = let p = judged_pieced (front_value f.read) never_back buffer buffer_sound.pieced in record
        { stands = p.stands; leaves = p.leaves };
    some = let p = judged_eats (front_value f.read) never_back buffer buffer_sound.some in record { eats = p.eats };
    named = front_named;
    shortest = λ v text h. omega (
      arith,
      s.shortest v h.0 h.2,
      ap length h.3.1,
      length-append h.0 h.1,
      length-append (number_bytes w32 (pos (length (h.0 ++ h.1)))) (h.0 ++ h.1),
      length-append (number_bytes w32 (pos (length (f.written v)))) (f.written v),
      number_long (pos (length (h.0 ++ h.1))),
      number_long (pos (length (f.written v))),
    );
    limited = λ v text h. (s.limited v h.0 h.2, front_short v h.0 h.1 text h.2 h.3);
    writable = λ v h. (s.writable v h.0, (let le : length (f.written v) ≤ buffer_limit = h.1 in omega arith));
  }

  pub in_buffer_sound : (is_lenient : Bool) → IsSound (in_buffer is_lenient f)
  in_buffer_sound false = held_sound f s
  in_buffer_sound true = front_sound

-- ---- what is spelled, whatever follows it

pub before_trailer : {A : Type 0} (are_read : Bool) (f : Format A) (v : A) (text : List ℕ)
    → (with_trailer_if are_read f).Spells v text → (x : List ℕ) × f.Spells v x
before_trailer false f v text s = (text, s)
before_trailer true f v text s = (s.0, s.3)

pub buffered : {A : Type 0} (is_lenient : Bool) (f : Format A) (v : A) (text : List ℕ)
    → (in_buffer is_lenient f).Spells v text → (x : List ℕ) × f.Spells v x
buffered false f v text s = (s.0, s.1)
buffered true f v text s = (s.0, s.2)
