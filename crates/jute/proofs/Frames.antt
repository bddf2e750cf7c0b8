-- Frames.
use Rattle.std.proofs.Common.{◌≡◌, ℕ, ◌<◌, ◌≤◌, ◌^◌, false, ltb, leb, List, ◌++◌, length, take, drop, Some, Ok, Err, refl, sym, ap, subst, ◌∙◌, append_assoc, arith, inl, inr}
use Rattle.std.specs.Prelude.{ℤ, pos, negsuc}
use Rattle.std.specs.Int.{w32}
use Rattle.std.proofs.lemmas.Bool.{ltb-true, ltb-false, lt-ltb, le-ltb, leb-true, le-leb}
use Rattle.std.proofs.lemmas.List.{take_at, drop_at, take-append-drop, take-append-le, length-append, length-take}
use Rattle.values.specs.declared.fault.Fault.TheVariants.{Short, BadLength}
use Rattle.jute.specs.Format.{number_bytes, with_count, int}
use Rattle.jute.specs.Frame.{frame_format, frame_at, frame_count, frame_length, front_of}
use Rattle.jute.specs.Laws.{IsBytes, TakesSpelling, NamesFaults, IsSound}
use Rattle.jute.specs.Pieces.{IsStable, LeavesAtMost, LeavesFewer}
use Rattle.jute.proofs.Steps.{IsBytes-drop, same_length, bind_ok, guard_ok, guard_ended, guard_err, bind_err, behind_read, then_stands, then_leaves, within, cut_stands, cut_leaves, then_eats}
use Rattle.jute.proofs.Numbers.{int_sound}
use Rattle.jute.proofs.Judged.{judged_sound}

-- ---- lengths

length_found : (limit : ℕ) (z : ℤ) (n : ℕ) → frame_length limit z ≡ Ok n → (z ≡ pos n) × (n ≤ limit)
length_found limit (pos k) n e =
    let g = guard_ended (leb k limit) BadLength k n e in
    (ap pos g.1, subst (λ (x : ℕ). x ≤ limit) g.1 (leb-true _ _ g.0))
length_found limit (negsuc k) n e = absurd cc

frame_count_sound : (limit : ℕ) → IsSound (frame_count limit)
frame_count_sound limit = judged_sound (frame_length limit) (λ n. Some (pos n)) int
    (λ z n e. ap (λ x. Some x) (sym (length_found limit z n e).0)) int_sound

-- ---- spellings

frame_takes : (limit : ℕ) (bytes v rest : List ℕ) → IsBytes bytes → frame_at limit bytes ≡ Ok (v, rest)
    → TakesSpelling (frame_format limit) bytes v rest
unfolding frame_at
frame_takes limit bytes v rest fits e =
    let a = bind_ok ((frame_count limit).read bytes) (λ (n : ℕ × List ℕ). front_of n.0 n.1) (v, rest) e in
    let n = a.0.0 in
    let t = (frame_count_sound limit).lawful.takes bytes n a.0.1 fits a.1 in
    let found = length_found limit t.spells.0 n t.spells.1 in
    let g = guard_ok (ltb (length a.0.1) n) Short (take n a.0.1, drop n a.0.1) (v, rest) a.2 in
    let long : n ≤ length a.0.1 = ltb-false _ _ g.0 in
    let len : length (take n a.0.1) ≡ n = omega (arith, length-take n a.0.1) in
    let front : t.text ≡ number_bytes w32 (pos n) = t.spells.2.1 ∙ ap (number_bytes w32) found.0 in
    let whole : TakesSpelling (frame_format limit) bytes (take n a.0.1) (drop n a.0.1) = record {
      text = t.text ++ take n a.0.1;
      parts = t.parts ∙ ap (λ (x : List ℕ). t.text ++ x) (sym (take-append-drop n a.0.1))
          ∙ sym (append_assoc t.text (take n a.0.1) (drop n a.0.1));
      spells = (rw len found.1, rw (len, front) refl);
      rest_fits = IsBytes-drop n a.0.1 t.rest_fits;
    } in
    subst (λ (y : List ℕ × List ℕ). TakesSpelling (frame_format limit) bytes y.0 y.1) g.1 whole

frame_again : (limit : ℕ) → limit < 2 ^ 31 → (v text rest : List ℕ) → (frame_format limit).Spells v text
    → frame_at limit (text ++ rest) ≡ Ok (v, rest)
unfolding frame_at
frame_again limit small v text rest s =
    let n = length v in
    let le : n ≤ limit = s.0 in
    let front = number_bytes w32 (pos n) in
    let regrouped : text ++ rest ≡ front ++ (v ++ rest) = ap (λ (t : List ℕ). t ++ rest) s.1
    ∙ append_assoc front v rest in
    let read = (frame_count_sound limit).lawful.again n front (v ++ rest) (
      pos n,
      rw (le-leb n limit le) refl,
      (record { sfits = omega arith }, refl),
    ) in
    let long : ltb (length (v ++ rest)) n ≡ false = le-ltb _ _ (omega (arith, length-append v rest)) in
    ap (frame_at limit) regrouped ∙ rw (read, long, take_at v rest n refl, drop_at v rest n refl) refl

-- ---- pieces

front_stands : (n : ℕ) (rest more : List ℕ) → IsStable (front_of n rest) more (front_of n (rest ++ more))
front_stands n rest more = cut_stands n (λ (x : List ℕ). take n x) rest more (take-append-le n rest more)

frame_stands : (limit : ℕ) (bytes more : List ℕ) → IsStable (frame_at limit bytes) more (frame_at limit (bytes ++ more))
unfolding frame_at
frame_stands limit bytes more =
    then_stands ((frame_count limit).read bytes) ((frame_count limit).read (bytes ++ more)) more
    (λ (n : ℕ × List ℕ). front_of n.0 n.1)
    ((frame_count_sound limit).pieced.stands bytes more) (λ n rest. front_stands n rest more)

frame_leaves : (limit : ℕ) (bytes : List ℕ) → LeavesAtMost (frame_at limit bytes) (length bytes)
unfolding frame_at
frame_leaves limit bytes =
    then_leaves ((frame_count limit).read bytes) (length bytes) (λ (n : ℕ × List ℕ). front_of n.0 n.1)
    ((frame_count_sound limit).pieced.leaves bytes) (λ n rest le. within (front_of n rest) (length rest) (length bytes)
    le (cut_leaves n (take n rest) rest))

frame_some : (limit : ℕ) (bytes : List ℕ) → LeavesFewer (frame_at limit bytes) (length bytes)
unfolding frame_at
frame_some limit bytes =
    then_eats ((frame_count limit).read bytes) (length bytes) (λ (n : ℕ × List ℕ). front_of n.0 n.1)
    ((frame_count_sound limit).some.eats bytes)
    (λ n rest. cut_leaves n (take n rest) rest)

-- ---- refusals

frame_named : (limit : ℕ) → NamesFaults (frame_format limit)
unfolding frame_at
frame_named limit = record {
  names = λ bytes e fits h.
      elim (bind_err ((frame_count limit).read bytes) (λ (n : ℕ × List ℕ). front_of n.0 n.1) e h) [
        | inl first ↦ inl ((frame_count_sound limit).named.names bytes e fits first)
        | inr later ↦
            let t = (frame_count_sound limit).lawful.takes bytes later.0.0 later.0.1 fits later.1 in
            let g = guard_err (ltb (length later.0.1) later.0.0) Short e (
              take later.0.0 later.0.1,
              drop later.0.0 later.0.1,
            ) later.2 in
            inr (sym g.1, (later.0.0, t.text, later.0.1, t.parts, t.spells, ltb-true _ _ g.0))
      ];
  answers = λ bytes e s. elim s [
    | inl first ↦ rw ((frame_count_sound limit).named.answers bytes e first) refl
    | inr b ↦ rw (
      behind_read (frame_count limit) (frame_count_sound limit).lawful (λ n rest. length rest < n) bytes
          b.1,
      lt-ltb _ _ b.1.5,
    ) (ap (λ d. Err d) (sym b.0))
  ];
}

pub frame_sound : (limit : ℕ) → limit < 2 ^ 31 → IsSound (frame_format limit)
frame_sound limit small = record {
  lawful = record { takes = frame_takes limit; again = frame_again limit small; writes = λ v h. (h, refl) };
  pieced = record { stands = frame_stands limit; leaves = frame_leaves limit };
  some = record { eats = frame_some limit };
  named = frame_named limit;
  shortest = λ v text s. same_length text (with_count (length v) v) s.1;
  limited = λ v text s. s.0;
  writable = λ v h. let le : length v ≤ limit = h in omega (arith, small);
}
