-- Numbers and booleans.
use Rattle.std.proofs.Common.{◌≡◌, ℕ, suc, ◌^◌, ◌<◌, ◌≤◌, Bool, true, false, not, ltb, eqb, List, [], ◌∷◌, ◌++◌, length, take, drop, Ok, Err, refl, sym, ap, subst, ◌∙◌, arith, inl}
use Rattle.std.specs.Prelude.{ℤ, FitsSigned}
use Rattle.std.specs.Int.{Width, w32, w64, byte_len, cast_signed, cast_unsigned}
use Rattle.std.proofs.lemmas.Bool.{ltb-true, ltb-false, lt-ltb, le-ltb}
use Rattle.std.proofs.lemmas.List.{drop_at, take-append-drop, take-append-le, length-append, length-take}
use Rattle.std.proofs.lemmas.Nat.{be_bytes_4, be_bytes_8}
use Rattle.std.proofs.lemmas.Int.{to_z-of_z, of_z-to_z}
use mir.Val.{bits}
use borrow.Author.Gap.{read_sfits}
use Rattle.byteorder.specs.Endian.{big_number, big_bytes}
use Rattle.byteorder.specs.Numbers.{big_number-reads_back, big_from-take}
use Rattle.std.proofs.Math.Facts.{Fits-of_z}
use Rattle.values.specs.declared.fault.Fault.{Fault}
use Rattle.values.specs.declared.fault.Fault.TheVariants.{Short}
use Rattle.jute.specs.Format.{number_format, number_bytes, int, long, boolean, boolean_at}
use Rattle.jute.specs.Laws.{IsBytes, TakesSpelling, IsLawful, NamesFaults, IsSound}
use Rattle.jute.specs.Pieces.{IsStable, LeavesAtMost, ReadsInPieces, LeavesFewer}
use Rattle.jute.proofs.Steps.{IsBytes-drop, IsBytes-take, same_length, guard_ok, guard_err, ok_is, not_refused, cut_stands, cut_leaves, cut_eats}

-- ---- numbers

record IsWide (w : Width) : Type 0 where
  len : (n : ℕ) → length (big_bytes (byte_len w) n) ≡ byte_len w
  back : (bytes : List ℕ) → length bytes ≡ byte_len w → IsBytes bytes
      → big_bytes (byte_len w) (big_number (byte_len w) bytes) ≡ bytes
  below : (bytes : List ℕ) → IsBytes bytes → big_number (byte_len w) bytes < 2 ^ bits w
  front : (bytes : List ℕ) → byte_len w ≤ length bytes → big_number (byte_len w) (take (byte_len w) bytes) ≡ big_number
      (byte_len w) bytes
  again : (n : ℕ) (rest : List ℕ) → n < 2 ^ bits w → big_number (byte_len w) (big_bytes (byte_len w) n ++ rest) ≡ n
  unsigned : (z : ℤ) → FitsSigned w z → cast_unsigned w z < 2 ^ bits w

wide32 : IsWide w32
wide32 = record {
  len = λ n. refl;
  back = λ bytes len fits. be_bytes_4 bytes (big_number 4 bytes) len fits (omega arith);
  below = λ bytes fits. omega (arith, fits 0, fits 1, fits 2, fits 3);
  front = λ bytes long. big_from-take 0 4 4 bytes (omega arith);
  again = λ n rest lt. big_number-reads_back 4 n rest lt;
  unsigned = λ z fits. (Fits-of_z {w = w32} {z = z} fits).fits;
}

wide64 : IsWide w64
wide64 = record {
  len = λ n. refl;
  back = λ bytes len fits. be_bytes_8 bytes (big_number 8 bytes) len fits (omega arith);
  below = λ bytes fits. omega (arith, fits 0, fits 1, fits 2, fits 3, fits 4, fits 5, fits 6, fits 7);
  front = λ bytes long. big_from-take 0 8 8 bytes (omega arith);
  again = λ n rest lt. big_number-reads_back 8 n rest lt;
  unsigned = λ z fits. (Fits-of_z {w = w64} {z = z} fits).fits;
}

number_lawful_at : (w : Width) → IsWide w → IsLawful (number_format w)
unfolding number_bytes
number_lawful_at w wide = record {
  takes = λ bytes v rest fits e.
      let n = big_number (byte_len w) bytes in
      let g = guard_ok (ltb (length bytes) (byte_len w)) Short (cast_signed w n, drop (byte_len w) bytes) (v, rest) e in
      let long : byte_len w ≤ length bytes = ltb-false _ _ g.0 in
      let below : n < 2 ^ bits w =
      rw (← wide.front bytes long) (wide.below (take (byte_len w) bytes) (IsBytes-take (byte_len w) bytes fits)) in
      let spelled : take (byte_len w) bytes ≡ number_bytes w (cast_signed w n) =
      sym (wide.back (take (byte_len w) bytes) (omega (arith, length-take (byte_len w) bytes))
      (IsBytes-take (byte_len w) bytes fits))
      ∙ ap (big_bytes (byte_len w)) (wide.front bytes long ∙ sym (of_z-to_z w n below)) in
      let whole : TakesSpelling (number_format w) bytes (cast_signed w n) (drop (byte_len w) bytes) = record {
        text = take (byte_len w) bytes;
        parts = sym (take-append-drop (byte_len w) bytes);
        spells = (read_sfits w n, spelled);
        rest_fits = IsBytes-drop (byte_len w) bytes fits;
      } in
      subst (λ (y : ℤ × List ℕ). TakesSpelling (number_format w) bytes y.0 y.1) g.1 whole;
  again = λ z text rest s.
      let text-is : text ++ rest ≡ number_bytes w z ++ rest = ap (λ (t : List ℕ). t ++ rest) s.1 in
      let len = wide.len (cast_unsigned w z) in
      let long : ltb (length (number_bytes w z ++ rest)) (byte_len w) ≡ false =
      le-ltb _ _ (omega (arith, length-append (number_bytes w z) rest)) in
      ap (number_format w).read text-is ∙ rw (
        long,
        wide.again (cast_unsigned w z) rest (wide.unsigned z s.0),
        to_z-of_z w z s.0,
        drop_at (number_bytes w z) rest (byte_len w) len,
      ) refl;
  writes = λ z h. (h, refl);
}

number_pieced : (w : Width) → ReadsInPieces (number_format w)
number_pieced w = record {
  stands = λ bytes more. cut_stands (byte_len w) (λ (b : List ℕ). cast_signed w (big_number (byte_len w) b)) bytes more
      (λ le. ap (cast_signed w) (sym (big_from-take 0 (byte_len w) (byte_len w) (bytes ++ more) (omega arith))
      ∙ ap (big_number (byte_len w)) (take-append-le (byte_len w) bytes more le)
      ∙ big_from-take 0 (byte_len w) (byte_len w) bytes (omega arith)));
  leaves = λ bytes. cut_leaves (byte_len w) (cast_signed w (big_number (byte_len w) bytes)) bytes;
}

number_named : (w : Width) → NamesFaults (number_format w)
number_named w = record {
  names = λ bytes e fits h.
      let g = guard_err (ltb (length bytes) (byte_len w)) Short e (
        cast_signed w (big_number (byte_len w) bytes),
        drop (byte_len w) bytes,
      ) h in
      (sym g.1, ltb-true _ _ g.0);
  answers = λ bytes e h. rw (lt-ltb _ _ h.1) (ap (λ d. Err d) (sym h.0));
}

number_sound : (w : Width) → IsWide w → 0 < byte_len w → IsSound (number_format w)
number_sound w wide some = record {
  lawful = number_lawful_at w wide;
  pieced = number_pieced w;
  some = record { eats = λ bytes. cut_eats (byte_len w) (cast_signed w (big_number (byte_len w) bytes)) bytes some };
  named = number_named w;
  shortest = λ v text s. same_length text (number_bytes w v) s.1;
  limited = λ v text s. s.0;
  writable = λ v h. tt;
}

pub int_sound : IsSound int
int_sound = number_sound w32 wide32 (omega arith)

pub long_sound : IsSound long
long_sound = number_sound w64 wide64 (omega arith)

-- ---- booleans

IsBytes-rest : (b : ℕ) (bytes : List ℕ) → IsBytes (b ∷ bytes) → IsBytes bytes
IsBytes-rest b bytes h i = h (suc i)

boolean_takes : (bytes : List ℕ) (v : Bool) (rest : List ℕ) → IsBytes bytes → boolean_at bytes ≡ Ok (v, rest)
    → TakesSpelling boolean bytes v rest
boolean_takes [] v rest fits e = absurd cc
boolean_takes (b ∷ bytes) v rest fits e =
    let whole : TakesSpelling boolean (b ∷ bytes) (not (eqb b 0)) bytes = record {
      text = b ∷ [];
      parts = refl;
      spells = (
        b,
        fits 0,
        refl,
        refl,
      );
      rest_fits = IsBytes-rest b bytes fits;
    } in
    subst (λ (y : Bool × List ℕ). TakesSpelling boolean (b ∷ bytes) y.0 y.1) (ok_is (not (eqb b 0), bytes) (v, rest) e)
    whole

boolean_writes : (v : Bool) → boolean.Spells v (boolean.written v)
boolean_writes true = (1, omega arith, refl, refl)
boolean_writes false = (0, omega arith, refl, refl)

boolean_stands : (bytes more : List ℕ) → IsStable (boolean_at bytes) more (boolean_at (bytes ++ more))
boolean_stands [] more = inl refl
boolean_stands (b ∷ bytes) more = refl

boolean_leaves : (bytes : List ℕ) → LeavesAtMost (boolean_at bytes) (length bytes)
boolean_leaves [] = tt
boolean_leaves (b ∷ bytes) = omega arith

boolean_some : (bytes : List ℕ) → LeavesFewer (boolean_at bytes) (length bytes)
boolean_some [] = tt
boolean_some (b ∷ bytes) = omega arith

boolean_refused : (bytes : List ℕ) (e : Fault) → boolean_at bytes ≡ Err e → boolean.against e bytes
boolean_refused [] e h = (cc, refl)
boolean_refused (b ∷ bytes) e h = absurd (not_refused (not (eqb b 0), bytes) e h)

pub boolean_sound : IsSound boolean
boolean_sound = record {
  lawful = record {
    takes = boolean_takes;
    again = λ v text rest s. ap (λ (t : List ℕ). boolean_at (t ++ rest)) s.2 ∙ rw (← s.3) refl;
    writes = λ v h. boolean_writes v;
  };
  pieced = record { stands = boolean_stands; leaves = boolean_leaves };
  some = record { eats = boolean_some };
  named = record {
    names = λ bytes e fits h. boolean_refused bytes e h;
    answers = λ bytes e h. ap boolean_at h.1
        ∙ ap (λ d. Err d) (sym h.0);
  };
  shortest = λ v text s. omega (arith, ap length s.2);
  limited = λ v text s. tt;
  writable = λ v h. tt;
}
