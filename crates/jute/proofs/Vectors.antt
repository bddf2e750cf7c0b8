-- Vectors.
use Rattle.std.proofs.Common.{◌≡◌, ℕ, zero, suc, ◌<◌, ◌≤◌, List, [], ◌∷◌, ◌++◌, length, Option, Some, None, Ok, Err, refl, sym, ap, subst, ◌∙◌, append_assoc, arith, inl, inr}
use Rattle.std.specs.Prelude.{pos}
use Rattle.std.specs.Int.{w32}
use Rattle.std.specs.List.{flat_map, AllByRecursion}
use Rattle.std.proofs.lemmas.List.{length-append}
use Rattle.std.proofs.lemmas.List.Concat.{flat_map-cons}
use Rattle.std.proofs.lemmas.List.Elements.{All-from_recursion}
use Rattle.values.specs.declared.fault.Fault.{Fault}
use Rattle.jute.specs.Format.{◌>>=◌, Format, number_bytes, null_bytes, with_count, count_format, count_limit, read_n, items_at, vector_of, vector_at, or_null, SpellsEach, SpellsVector, FitsVector, WritableVector, vector_bytes, ItemRefused}
use Rattle.jute.specs.Laws.{IsBytes, TakesSpelling, NamesFaults, IsSound}
use Rattle.jute.specs.Pieces.{IsStable, LeavesAtMost, LeavesFewer}
use Rattle.jute.proofs.Steps.{same_length, bind_ok, ok_is, bind_err, not_refused, behind_read, then_stands, then_leaves, within, then_eats}
use Rattle.jute.proofs.Judged.{or_null_sound}
use Rattle.jute.proofs.Buffers.{count_sound, SpellsCount, count_spelled, count_spells}

counts : IsSound (count_format count_limit)
counts = count_sound count_limit

count_again : (k : Option ℕ) (text rest : List ℕ) → SpellsCount count_limit k text
    → (count_format count_limit).read (text ++ rest) ≡ Ok (k, rest)
count_again k text rest s = counts.lawful.again k text rest (count_spells count_limit (omega arith) k text s)

null_length : length (with_count 0 []) ≤ length null_bytes
unfolding number_bytes
null_length = omega arith

module _ {A : Type 0} (f : Format A) (sound : IsSound f) where
  -- ---- spellings

  record TakesEach (n : ℕ) (bytes : List ℕ) (vs : List A) (rest : List ℕ) : Type 0 where
    text : List ℕ
    parts : bytes ≡ text ++ rest
    spells : SpellsEach f.Spells vs text
    rest_fits : IsBytes rest
    count : length vs ≡ n

  times_take : (n : ℕ) (bytes : List ℕ) (vs : List A) (rest : List ℕ) → IsBytes bytes → read_n f.read n bytes ≡ Ok (
    vs,
    rest,
  ) → TakesEach n bytes vs rest
  unfolding read_n
  times_take zero bytes vs rest fits e =
      let whole : TakesEach 0 bytes [] bytes =
      record { text = []; parts = refl; spells = refl; rest_fits = fits; count = refl } in
      subst (λ (y : List A × List ℕ). TakesEach 0 bytes y.0 y.1) (ok_is ([], bytes) (vs, rest) e) whole
  times_take (suc n) bytes vs rest fits e =
      let a = bind_ok (f.read bytes) (λ (v : A × List ℕ). read_n f.read n v.1 >>= λ (vs : List A × List ℕ). Ok
      (v.0 ∷ vs.0, vs.1)) (vs, rest) e in
      let b = bind_ok (read_n f.read n a.0.1) (λ (vs : List A × List ℕ). Ok (a.0.0 ∷ vs.0, vs.1)) (vs, rest) a.2 in
      let t0 = sound.lawful.takes bytes a.0.0 a.0.1 fits a.1 in
      let t1 = times_take n a.0.1 b.0.0 b.0.1 t0.rest_fits b.1 in
      let whole : TakesEach (suc n) bytes (a.0.0 ∷ b.0.0) b.0.1 = record {
        text = t0.text ++ t1.text;
        parts = t0.parts ∙ ap (λ (t : List ℕ). t0.text ++ t) t1.parts ∙ sym (append_assoc t0.text t1.text b.0.1);
        spells = (t0.text, t1.text, refl, t0.spells, t1.spells);
        rest_fits = t1.rest_fits;
        count = ap suc t1.count;
      } in
      subst (λ (y : List A × List ℕ). TakesEach (suc n) bytes y.0 y.1) (ok_is (a.0.0 ∷ b.0.0, b.0.1) (
        vs,
        rest,
      ) b.2) whole

  times_again : (vs : List A) (text rest : List ℕ) → SpellsEach f.Spells vs text
      → read_n f.read (length vs) (text ++ rest) ≡ Ok (vs, rest)
  unfolding read_n
  times_again [] text rest s = ap (λ (t : List ℕ). read_n f.read 0 (t ++ rest)) s
  times_again (v ∷ vs) text rest s =
      let regrouped : text ++ rest ≡ s.0 ++ (s.1 ++ rest) = ap (λ (t : List ℕ). t ++ rest) s.2
      ∙ append_assoc s.0 s.1 rest in
      ap (read_n f.read (suc (length vs))) regrouped ∙ rw (
        sound.lawful.again v s.0 (s.1 ++ rest) s.3,
        times_again vs s.1 rest s.4,
      ) refl

  each_writes : (vs : List A) → AllByRecursion f.Fits vs → SpellsEach f.Spells vs (flat_map f.written vs)
  each_writes [] h = refl
  each_writes (v ∷ vs) h = (
    f.written v,
    flat_map f.written vs,
    flat_map-cons f.written v vs,
    sound.lawful.writes v h.0,
    each_writes vs h.1,
  )

  items_take : (k : Option ℕ) (bytes : List ℕ) (v : Option (List A)) (rest front : List ℕ) → IsBytes bytes
      → SpellsCount count_limit k front → items_at f.read k bytes ≡ Ok (v, rest)
      → TakesSpelling (vector_of f) (front ++ bytes) v rest
  items_take None bytes v rest front fits s e =
      let whole : TakesSpelling (vector_of f) (front ++ bytes) None bytes =
      record { text = front; parts = refl; spells = s; rest_fits = fits } in
      subst (λ (y : Option (List A) × List ℕ). TakesSpelling (vector_of f) (front ++ bytes) y.0 y.1)
      (ok_is (None, bytes) (v, rest) e) whole
  items_take (Some n) bytes v rest front fits s e =
      let a = bind_ok (read_n f.read n bytes) (λ (vs : List A × List ℕ). Ok (Some vs.0, vs.1)) (v, rest) e in
      let t = times_take n bytes a.0.0 a.0.1 fits a.1 in
      let whole : TakesSpelling (vector_of f) (front ++ bytes) (Some a.0.0) a.0.1 = record {
        text = front ++ t.text;
        parts = ap (λ (t : List ℕ). front ++ t) t.parts ∙ sym (append_assoc front t.text a.0.1);
        spells = (rw t.count s.0, t.text, rw (t.count, s.1) refl, t.spells);
        rest_fits = t.rest_fits;
      } in
      subst (λ (y : Option (List A) × List ℕ). TakesSpelling (vector_of f) (front ++ bytes) y.0 y.1)
      (ok_is (Some a.0.0, a.0.1) (
        v,
        rest,
      ) a.2) whole

  vector_takes : (bytes : List ℕ) (v : Option (List A)) (rest : List ℕ) → IsBytes bytes
      → vector_at f.read bytes ≡ Ok (v, rest) → TakesSpelling (vector_of f) bytes v rest
  unfolding vector_at
  vector_takes bytes v rest fits e =
      let a =
      bind_ok ((count_format count_limit).read bytes) (λ (n : Option ℕ × List ℕ). items_at f.read n.0 n.1) (v, rest) e
      in
      let t = counts.lawful.takes bytes a.0.0 a.0.1 fits a.1 in
      subst (λ (b : List ℕ). TakesSpelling (vector_of f) b v rest) (sym t.parts)
      (items_take a.0.0 a.0.1 v rest t.text t.rest_fits (count_spelled count_limit a.0.0 t.text t.spells) a.2)

  vector_again : (v : Option (List A)) (text rest : List ℕ) → SpellsVector f.Spells v text
      → vector_at f.read (text ++ rest) ≡ Ok (v, rest)
  unfolding vector_at
  vector_again None text rest s = rw (count_again None text rest s) refl
  vector_again (Some vs) text rest s =
      let regrouped : text ++ rest ≡ number_bytes w32 (pos (length vs)) ++ (s.1 ++ rest) =
      ap (λ (t : List ℕ). t ++ rest) s.2 ∙ append_assoc (number_bytes w32 (pos (length vs))) s.1 rest in
      ap (vector_at f.read) regrouped
      ∙ rw (
        count_again (Some (length vs)) (number_bytes w32 (pos (length vs))) (s.1 ++ rest) (s.0, refl),
        times_again vs s.1 rest s.3,
      ) refl

  vector_writes : (v : Option (List A)) → FitsVector f.Fits v → SpellsVector f.Spells v (vector_bytes f.written v)
  vector_writes None h = refl
  vector_writes (Some vs) h = (h.0, flat_map f.written vs, refl, each_writes vs h.1)

  -- ---- pieces

  times_stands : (n : ℕ) (bytes more : List ℕ) → IsStable (read_n f.read n bytes) more (read_n f.read n (bytes ++ more))
  unfolding read_n
  times_stands zero bytes more = refl
  times_stands (suc n) bytes more =
      then_stands (f.read bytes) (f.read (bytes ++ more)) more
      (λ (v : A × List ℕ). read_n f.read n v.1 >>= λ (vs : List A × List ℕ). Ok (v.0 ∷ vs.0, vs.1))
      (sound.pieced.stands bytes more)
      (λ v rest. then_stands (read_n f.read n rest) (read_n f.read n (rest ++ more)) more
      (λ (vs : List A × List ℕ). Ok (v ∷ vs.0, vs.1)) (times_stands n rest more) (λ vs last. refl))

  times_leaves : (n : ℕ) (bytes : List ℕ) → LeavesAtMost (read_n f.read n bytes) (length bytes)
  unfolding read_n
  times_leaves zero bytes = omega arith
  times_leaves (suc n) bytes =
      then_leaves (f.read bytes) (length bytes)
      (λ (v : A × List ℕ). read_n f.read n v.1 >>= λ (vs : List A × List ℕ). Ok
      (v.0 ∷ vs.0, vs.1)) (sound.pieced.leaves bytes)
      (λ v rest le. then_leaves (read_n f.read n rest) (length bytes) (λ (vs : List A × List ℕ). Ok (v ∷ vs.0, vs.1))
      (within (read_n f.read n rest) (length rest) (length bytes) le (times_leaves n rest)) (λ vs last lt. lt))

  items_stands : (k : Option ℕ) (bytes more : List ℕ)
      → IsStable (items_at f.read k bytes) more (items_at f.read k (bytes ++ more))
  items_stands None bytes more = refl
  items_stands (Some n) bytes more = then_stands (read_n f.read n bytes) (read_n f.read n (bytes ++ more)) more
      (λ (vs : List A × List ℕ). Ok (Some vs.0, vs.1)) (times_stands n bytes more) (λ vs rest. refl)

  items_leaves : (k : Option ℕ) (bytes : List ℕ) → LeavesAtMost (items_at f.read k bytes) (length bytes)
  items_leaves None bytes = omega arith
  items_leaves (Some n) bytes = then_leaves (read_n f.read n bytes) (length bytes)
      (λ (vs : List A × List ℕ). Ok (Some vs.0, vs.1)) (times_leaves n bytes) (λ vs rest le. le)

  vector_stands : (bytes more : List ℕ) → IsStable (vector_at f.read bytes) more (vector_at f.read (bytes ++ more))
  unfolding vector_at
  vector_stands bytes more = then_stands ((count_format count_limit).read bytes)
      ((count_format count_limit).read (bytes ++ more))
      more (λ (n : Option ℕ × List ℕ). items_at f.read n.0 n.1) (counts.pieced.stands bytes more)
      (λ k rest. items_stands k rest more)

  vector_leaves : (bytes : List ℕ) → LeavesAtMost (vector_at f.read bytes) (length bytes)
  unfolding vector_at
  vector_leaves bytes = then_leaves ((count_format count_limit).read bytes) (length bytes)
      (λ (n : Option ℕ × List ℕ). items_at f.read n.0 n.1) (counts.pieced.leaves bytes)
      (λ k rest le. within (items_at f.read k rest) (length rest) (length bytes) le (items_leaves k rest))

  vector_some : (bytes : List ℕ) → LeavesFewer (vector_at f.read bytes) (length bytes)
  unfolding vector_at
  vector_some bytes = then_eats ((count_format count_limit).read bytes) (length bytes)
      (λ (n : Option ℕ × List ℕ). items_at f.read n.0 n.1) (counts.some.eats bytes) items_leaves

  -- ---- refusals

  item_refused : (n : ℕ) (bytes : List ℕ) (e : Fault) → IsBytes bytes → read_n f.read n bytes ≡ Err e
      → ItemRefused f e (Some n) bytes
  unfolding read_n
  item_refused zero bytes e fits h = absurd (not_refused ([], bytes) e h)
  item_refused (suc n) bytes e fits h =
      elim (bind_err (f.read bytes) (λ (v : A × List ℕ). read_n f.read n v.1 >>= λ (vs : List A × List ℕ). Ok
      (v.0 ∷ vs.0, vs.1)) e h) [
        | inl first ↦ ([], [], bytes, refl, refl, omega arith, sound.named.names bytes e fits first)
        | inr later ↦
            let t = sound.lawful.takes bytes later.0.0 later.0.1 fits later.1 in
            elim (bind_err (read_n f.read n later.0.1)
            (λ (vs : List A × List ℕ). Ok (later.0.0 ∷ vs.0, vs.1)) e later.2) [
              | inl second ↦
                  let i = item_refused n later.0.1 e t.rest_fits second in
                  let fewer : length i.0 < n = i.5 in (
                    later.0.0 ∷ i.0,
                    t.text ++ i.1,
                    i.2,
                    t.parts ∙ ap (λ (x : List ℕ). t.text ++ x) i.3 ∙ sym (append_assoc t.text i.1 i.2),
                    (t.text, i.1, refl, t.spells, i.4),
                    omega (arith, fewer),
                    i.6,
                  )
              | inr never ↦ absurd (not_refused (later.0.0 ∷ never.0.0, never.0.1) e never.2)
            ]
      ]

  items_refused : (k : Option ℕ) (rest : List ℕ) (e : Fault) → IsBytes rest → items_at f.read k rest ≡ Err e
      → ItemRefused f e k rest
  items_refused None rest e fits h = absurd (not_refused (None, rest) e h)
  items_refused (Some n) rest e fits h =
      elim (bind_err (read_n f.read n rest) (λ (vs : List A × List ℕ). Ok (Some vs.0, vs.1)) e h) [
        | inl first ↦ item_refused n rest e fits first
        | inr never ↦ absurd (not_refused (Some never.0.0, never.0.1) e never.2)
      ]

  times_refuse : (n : ℕ) (vs : List A) (x y : List ℕ) (e : Fault) → SpellsEach f.Spells vs x → length vs < n
      → f.against e y → read_n f.read n (x ++ y) ≡ Err e
  unfolding read_n
  times_refuse zero vs x y e s lt g = absurd (omega (arith, lt))
  times_refuse (suc n) [] x y e s lt g = ap (λ (t : List ℕ). read_n f.read (suc n) (t ++ y)) s
      ∙ rw (sound.named.answers y e g) refl
  times_refuse (suc n) (v ∷ vs) x y e s lt g =
      let regrouped : x ++ y ≡ s.0 ++ (s.1 ++ y) = ap (λ (t : List ℕ). t ++ y) s.2 ∙ append_assoc s.0 s.1 y in
      ap (read_n f.read (suc n)) regrouped ∙ rw (
        sound.lawful.again v s.0 (s.1 ++ y) s.3,
        times_refuse n vs s.1 y e s.4 (omega (arith, lt)) g,
      ) refl

  items_refuse : (k : Option ℕ) (rest : List ℕ) (e : Fault) → ItemRefused f e k rest → items_at f.read k rest ≡ Err e
  items_refuse None rest e i = absurd i
  items_refuse (Some n) rest e i = rw (ap (read_n f.read n) i.3 ∙ times_refuse n i.0 i.1 i.2 e i.4 i.5 i.6) refl

  vector_named : NamesFaults (vector_of f)
  unfolding vector_at
  vector_named = record {
    names = λ bytes e fits h.
        elim (bind_err ((count_format count_limit).read bytes) (λ (n : Option ℕ × List ℕ). items_at f.read n.0 n.1) e
        h) [
          | inl first ↦ inl (counts.named.names bytes e fits first)
          | inr later ↦
              let t = counts.lawful.takes bytes later.0.0 later.0.1 fits later.1 in
              inr (
                later.0.0,
                t.text,
                later.0.1,
                t.parts,
                t.spells,
                items_refused later.0.0 later.0.1 e t.rest_fits later.2,
              )
        ];
    answers = λ bytes e s. elim s [
      | inl first ↦ rw (counts.named.answers bytes e first) refl
      | inr b ↦
          rw (behind_read (count_format count_limit) counts.lawful (ItemRefused f e) bytes b)
          (items_refuse b.0 b.2 e b.5)
    ];
  }

  -- ---- limits

  each_fits : (vs : List A) (bytes : List ℕ) → SpellsEach f.Spells vs bytes → AllByRecursion f.Fits vs
  each_fits [] bytes s = tt
  each_fits (v ∷ vs) bytes s = (sound.limited v s.0 s.3, each_fits vs s.1 s.4)

  vector_fits : (v : Option (List A)) (bytes : List ℕ) → SpellsVector f.Spells v bytes → FitsVector f.Fits v
  vector_fits None bytes s = tt
  vector_fits (Some vs) bytes s = (s.0, each_fits vs s.1 s.3)

  each_shortest : (vs : List A) (bytes : List ℕ) → SpellsEach f.Spells vs bytes
      → length (flat_map f.written vs) ≤ length bytes
  each_shortest [] bytes s = omega arith
  each_shortest (v ∷ vs) bytes s = omega (
    arith,
    sound.shortest v s.0 s.3,
    each_shortest vs s.1 s.4,
    ap length s.2,
    length-append s.0 s.1,
    length-append (f.written v) (flat_map f.written vs),
  )

  vector_shortest : (v : Option (List A)) (bytes : List ℕ) → SpellsVector f.Spells v bytes
      → length (vector_bytes f.written v) ≤ length bytes
  vector_shortest None bytes s = same_length bytes null_bytes s
  vector_shortest (Some vs) bytes s =
      let front = number_bytes w32 (pos (length vs)) in
      omega (
        arith,
        each_shortest vs s.1 s.3,
        ap length s.2,
        length-append front s.1,
        length-append front (flat_map f.written vs),
      )

  each_writable : (vs : List A) → AllByRecursion f.Fits vs → AllByRecursion f.Writable vs
  each_writable [] h = tt
  each_writable (v ∷ vs) h = (sound.writable v h.0, each_writable vs h.1)

  vector_writable : (v : Option (List A)) → FitsVector f.Fits v → WritableVector f.Writable v
  vector_writable None h = tt
  vector_writable (Some vs) h =
      let le : length vs ≤ count_limit = h.0 in
      (omega arith, All-from_recursion f.Writable vs (each_writable vs h.1))

  pub vector_sound : IsSound (vector_of f)
  vector_sound = record {
    lawful = record { takes = vector_takes; again = vector_again; writes = vector_writes };
    pieced = record { stands = vector_stands; leaves = vector_leaves };
    some = record { eats = vector_some };
    named = vector_named;
    shortest = vector_shortest;
    limited = vector_fits;
    writable = vector_writable;
  }

  -- Null is read as an empty list.
  pub null_vector_sound : IsSound (or_null (vector_of f))
  null_vector_sound = or_null_sound (vector_of f) (λ h. (omega arith, tt)) null_length vector_sound
