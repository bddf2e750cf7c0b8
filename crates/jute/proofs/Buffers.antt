-- Counts, buffers and texts.
use Rattle.std.proofs.Common.{◌≡◌, ℕ, zero, suc, ◌^◌, ◌<◌, ◌≤◌, Bool, true, false, ltb, leb, List, [], ◌++◌, length, take, drop, Option, Some, None, Ok, Err, refl, sym, ap, subst, ◌∙◌, append_assoc, arith, inl, inr}
use Rattle.std.specs.Prelude.{ℤ, pos, negsuc}
use Rattle.std.specs.Int.{w32}
use Rattle.std.proofs.lemmas.Bool.{ltb-true, ltb-false, lt-ltb, le-ltb, leb-true, le-leb}
use Rattle.std.proofs.lemmas.Str.{IsUtf8-nil, is_utf8-from_IsUtf8}
use Rattle.std.proofs.lemmas.List.{take_at, drop_at, take-append-drop, take-append-le, length-append, length-take}
use Rattle.values.specs.declared.fault.Fault.{Fault}
use Rattle.values.specs.declared.fault.Fault.TheVariants.{Short, BadLength, BadText}
use Rattle.jute.specs.Format.{number_bytes, int, null_bytes, with_count, length_or_null, length_number, count_format, bytes_at, LacksBytes, buffer, buffer_at, buffer_limit, SpellsBuffer, FitsBuffer, WritableBuffer, buffer_bytes, text_by, text_in, text_format, name_in, text_or_empty}
use Rattle.jute.specs.Texts.{between_surrogates, is_generalized_utf8, is_text}
use Rattle.jute.specs.Laws.{IsBytes, TakesSpelling, NamesFaults, IsSound}
use Rattle.jute.specs.Pieces.{IsStable, LeavesAtMost, LeavesFewer}
use Rattle.jute.proofs.Steps.{IsBytes-drop, same_length, bind_ok, guard_ok, guard_ended, ok_is, guard_err, bind_err, not_refused, behind_read, then_stands, then_leaves, within, cut_stands, cut_leaves, then_eats}
use Rattle.jute.proofs.Numbers.{int_sound}
use Rattle.jute.proofs.Judged.{judged_sound, or_null_sound}

-- ---- counts

count_back : (limit : ℕ) (z : ℤ) (k : Option ℕ) → length_or_null limit z ≡ Ok k → Some (length_number k) ≡ Some z
count_back limit (pos n) k e =
    let g = guard_ended (leb n limit) BadLength (Some n) k e in
    subst (λ (k : Option ℕ). Some (length_number k) ≡ Some (pos n)) g.1 refl
count_back limit (negsuc zero) k e =
    let none : None ≡ k = cc in
    subst (λ (k : Option ℕ). Some (length_number k) ≡ Some (negsuc 0)) none refl
count_back limit (negsuc (suc n)) k e = absurd cc

pub count_sound : (limit : ℕ) → IsSound (count_format limit)
count_sound limit = judged_sound (length_or_null limit) (λ k. Some (length_number k)) int (count_back limit) int_sound

-- A count without its number.
abbrev pub SpellsCount : ℕ → Option ℕ → List ℕ → Type 0
SpellsCount limit None bytes = bytes ≡ null_bytes
SpellsCount limit (Some n) bytes = (n ≤ limit) × (bytes ≡ number_bytes w32 (pos n))

count_found : (limit : ℕ) (z : ℤ) (k : Option ℕ) → length_or_null limit z ≡ Ok k
    → SpellsCount limit k (number_bytes w32 z)
count_found limit (pos n) k e =
    let g = guard_ended (leb n limit) BadLength (Some n) k e in
    subst (λ (k : Option ℕ). SpellsCount limit k (number_bytes w32 (pos n))) g.1 (leb-true _ _ g.0, refl)
count_found limit (negsuc zero) k e =
    let none : None ≡ k = cc in
    subst (λ (k : Option ℕ). SpellsCount limit k null_bytes) none refl
count_found limit (negsuc (suc n)) k e = absurd cc

pub count_spelled : (limit : ℕ) (k : Option ℕ) (bytes : List ℕ) → (count_format limit).Spells k bytes
    → SpellsCount limit k bytes
count_spelled limit k bytes s = subst (λ (x : List ℕ). SpellsCount limit k x) (sym s.2.1) (count_found limit s.0 k s.1)

pub count_spells : (limit : ℕ) → limit < 2 ^ 31 → (k : Option ℕ) (bytes : List ℕ) → SpellsCount limit k bytes
    → (count_format limit).Spells k bytes
count_spells limit small None bytes s = (negsuc 0, refl, (record { sfits = omega arith }, s))
count_spells limit small (Some n) bytes s =
    let le : n ≤ limit = s.0 in
    (pos n, rw (le-leb n limit le) refl, (record { sfits = omega arith }, s.1))

-- ---- buffers

taken_takes : (k : Option ℕ) (bytes : List ℕ) (v : Option (List ℕ)) (rest front : List ℕ) → IsBytes bytes
    → SpellsCount buffer_limit k front → bytes_at k bytes ≡ Ok (v, rest) → TakesSpelling buffer (front ++ bytes) v rest
taken_takes None bytes v rest front fits s e =
    let whole : TakesSpelling buffer (front ++ bytes) None bytes =
    record { text = front; parts = refl; spells = s; rest_fits = fits } in
    subst (λ (y : Option (List ℕ) × List ℕ). TakesSpelling buffer (front ++ bytes) y.0 y.1)
    (ok_is (None, bytes) (v, rest) e) whole
taken_takes (Some n) bytes v rest front fits s e =
    let g = guard_ok (ltb (length bytes) n) Short (Some (take n bytes), drop n bytes) (v, rest) e in
    let long : n ≤ length bytes = ltb-false _ _ g.0 in
    let len : length (take n bytes) ≡ n = omega (arith, length-take n bytes) in
    let whole : TakesSpelling buffer (front ++ bytes) (Some (take n bytes)) (drop n bytes) = record {
      text = front ++ take n bytes;
      parts = ap (λ (t : List ℕ). front ++ t) (sym (take-append-drop n bytes))
          ∙ sym (append_assoc front (take n bytes) (drop n bytes));
      spells = (rw len s.0, rw (len, s.1) refl);
      rest_fits = IsBytes-drop n bytes fits;
    } in
    subst (λ (y : Option (List ℕ) × List ℕ). TakesSpelling buffer (front ++ bytes) y.0 y.1) g.1 whole

pub buffer_takes : (bytes : List ℕ) (v : Option (List ℕ)) (rest : List ℕ) → IsBytes bytes → buffer_at bytes ≡ Ok (
  v,
  rest,
) → TakesSpelling buffer bytes v rest
unfolding buffer_at
buffer_takes bytes v rest fits e =
    let a = bind_ok ((count_format buffer_limit).read bytes) (λ (n : Option ℕ × List ℕ). bytes_at n.0 n.1) (v, rest) e
    in
    let t = (count_sound buffer_limit).lawful.takes bytes a.0.0 a.0.1 fits a.1 in
    subst (λ (b : List ℕ). TakesSpelling buffer b v rest) (sym t.parts)
    (taken_takes a.0.0 a.0.1 v rest t.text t.rest_fits (count_spelled buffer_limit a.0.0 t.text t.spells) a.2)

count_again : (k : Option ℕ) (text rest : List ℕ) → SpellsCount buffer_limit k text
    → (count_format buffer_limit).read (text ++ rest) ≡ Ok (k, rest)
count_again k text rest s =
    (count_sound buffer_limit).lawful.again k text rest (count_spells buffer_limit (omega arith) k text s)

buffer_again : (v : Option (List ℕ)) (text rest : List ℕ) → SpellsBuffer v text
    → buffer_at (text ++ rest) ≡ Ok (v, rest)
unfolding buffer_at
buffer_again None text rest s = rw (count_again None text rest s) refl
buffer_again (Some d) text rest s =
    let front = number_bytes w32 (pos (length d)) in
    let regrouped : text ++ rest ≡ front ++ (d ++ rest) = ap (λ (t : List ℕ). t ++ rest) s.1
    ∙ append_assoc front d rest in
    let long : ltb (length (d ++ rest)) (length d) ≡ false = le-ltb _ _ (omega (arith, length-append d rest)) in
    ap buffer_at regrouped ∙ rw (
      count_again (Some (length d)) front (d ++ rest) (s.0, refl),
      long,
      take_at d rest (length d) refl,
      drop_at d rest (length d) refl,
    ) refl

buffer_writes : (v : Option (List ℕ)) → FitsBuffer v → SpellsBuffer v (buffer_bytes v)
buffer_writes None h = refl
buffer_writes (Some d) h = (h, refl)

taken_stands : (k : Option ℕ) (bytes more : List ℕ) → IsStable (bytes_at k bytes) more (bytes_at k (bytes ++ more))
taken_stands None bytes more = refl
taken_stands (Some n) bytes more = cut_stands n (λ (b : List ℕ). Some (take n b)) bytes more
    (λ le. ap (λ (b : List ℕ). Some b) (take-append-le n bytes more le))

taken_leaves : (k : Option ℕ) (bytes : List ℕ) → LeavesAtMost (bytes_at k bytes) (length bytes)
taken_leaves None bytes = omega arith
taken_leaves (Some n) bytes = cut_leaves n (Some (take n bytes)) bytes

buffer_stands : (bytes more : List ℕ) → IsStable (buffer_at bytes) more (buffer_at (bytes ++ more))
unfolding buffer_at
buffer_stands bytes more =
    then_stands ((count_format buffer_limit).read bytes) ((count_format buffer_limit).read (bytes ++ more)) more
    (λ (n : Option ℕ × List ℕ). bytes_at n.0 n.1)
    ((count_sound buffer_limit).pieced.stands bytes more) (λ k rest. taken_stands k rest more)

buffer_leaves : (bytes : List ℕ) → LeavesAtMost (buffer_at bytes) (length bytes)
unfolding buffer_at
buffer_leaves bytes =
    then_leaves ((count_format buffer_limit).read bytes) (length bytes) (λ (n : Option ℕ × List ℕ). bytes_at n.0 n.1)
    ((count_sound buffer_limit).pieced.leaves bytes)
    (λ k rest le. within (bytes_at k rest) (length rest) (length bytes) le
    (taken_leaves k rest))

buffer_some : (bytes : List ℕ) → LeavesFewer (buffer_at bytes) (length bytes)
unfolding buffer_at
buffer_some bytes =
    then_eats ((count_format buffer_limit).read bytes) (length bytes) (λ (n : Option ℕ × List ℕ). bytes_at n.0 n.1)
    ((count_sound buffer_limit).some.eats bytes) taken_leaves

taken_refused : (k : Option ℕ) (rest : List ℕ) (e : Fault) → bytes_at k rest ≡ Err e → (e ≡ Short) × LacksBytes k rest
taken_refused None rest e h = absurd (not_refused (None, rest) e h)
taken_refused (Some n) rest e h =
    let g = guard_err (ltb (length rest) n) Short e (Some (take n rest), drop n rest) h in
    (sym g.1, ltb-true _ _ g.0)

taken_refuses : (k : Option ℕ) (rest : List ℕ) → LacksBytes k rest → bytes_at k rest ≡ Err Short
taken_refuses None rest h = absurd h
taken_refuses (Some n) rest h = rw (lt-ltb _ _ h) refl

buffer_named : NamesFaults buffer
unfolding buffer_at
buffer_named = record {
  names = λ bytes e fits h.
      elim (bind_err ((count_format buffer_limit).read bytes) (λ (n : Option ℕ × List ℕ). bytes_at n.0 n.1) e h) [
        | inl first ↦ inl ((count_sound buffer_limit).named.names bytes e fits first)
        | inr later ↦
            let t = (count_sound buffer_limit).lawful.takes bytes later.0.0 later.0.1 fits later.1 in
            let short = taken_refused later.0.0 later.0.1 e later.2 in
            inr (short.0, (later.0.0, t.text, later.0.1, t.parts, t.spells, short.1))
      ];
  answers = λ bytes e s. elim s [
    | inl first ↦ rw ((count_sound buffer_limit).named.answers bytes e first) refl
    | inr b ↦ rw (
      behind_read (count_format buffer_limit) (count_sound buffer_limit).lawful LacksBytes bytes b.1,
      taken_refuses b.1.0 b.1.2 b.1.5,
    ) (ap (λ d. Err d) (sym b.0))
  ];
}

buffer_fits : (v : Option (List ℕ)) (bytes : List ℕ) → SpellsBuffer v bytes → FitsBuffer v
buffer_fits None bytes s = tt
buffer_fits (Some b) bytes s = s.0

buffer_shortest : (v : Option (List ℕ)) (bytes : List ℕ) → SpellsBuffer v bytes → length (buffer_bytes v) ≤ length bytes
buffer_shortest None bytes s = same_length bytes null_bytes s
buffer_shortest (Some b) bytes s = same_length bytes (with_count (length b) b) s.1

buffer_writable : (v : Option (List ℕ)) → FitsBuffer v → WritableBuffer v
buffer_writable None h = tt
buffer_writable (Some b) h = let le : length b ≤ buffer_limit = h in omega arith

pub buffer_sound : IsSound buffer
buffer_sound = record {
  lawful = record { takes = buffer_takes; again = buffer_again; writes = buffer_writes };
  pieced = record { stands = buffer_stands; leaves = buffer_leaves };
  some = record { eats = buffer_some };
  named = buffer_named;
  shortest = buffer_shortest;
  limited = buffer_fits;
  writable = buffer_writable;
}

-- ---- texts

text_back : (test : List ℕ → Bool) (b v : Option (List ℕ)) → text_by test b ≡ Ok v → Some v ≡ Some b
text_back test None v e = let same : None ≡ v = cc in ap (λ (x : Option (List ℕ)). Some x) (sym same)
text_back test (Some t) v e =
    let g = guard_ended (test t) BadText (Some t) v e in
    ap (λ (x : Option (List ℕ)). Some x) (sym g.1)

pub text_in_sound : (surrogates : Bool) → IsSound (text_in surrogates)
text_in_sound surrogates =
    judged_sound (text_by (is_text surrogates)) (λ t. Some t) buffer (text_back (is_text surrogates)) buffer_sound

null_length : length (with_count 0 []) ≤ length null_bytes
unfolding number_bytes
null_length = omega arith

empty_is_text : (surrogates : Bool) → is_text surrogates [] ≡ true
unfolding is_generalized_utf8 between_surrogates
empty_is_text false = is_utf8-from_IsUtf8 [] IsUtf8-nil
empty_is_text true = rw (is_utf8-from_IsUtf8 [] IsUtf8-nil) refl

pub name_in_sound : (surrogates : Bool) → IsSound (name_in surrogates)
name_in_sound surrogates =
    or_null_sound (text_in surrogates) (λ h. (rw (empty_is_text surrogates) refl, omega arith)) null_length
    (text_in_sound surrogates)

pub text_sound : IsSound text_format
text_sound = text_in_sound false

pub name_sound : IsSound text_or_empty
name_sound = name_in_sound false
