-- What a connection sends before it has a session: four-letter words, and the bytes that wait to become one.
use Rattle.std.proofs.Common.{◌≡◌, ◌⊎◌, inl, inr, ℕ, ◌<◌, ◌≤◌, ℤ, Bool, true, false, List, ◌++◌, length, take, Option, Some, None, Result, Ok, Err, refl, sym, ap, ◌∙◌, arith}
use Rattle.std.specs.Prelude.{nat_lt}
use Rattle.std.specs.Str.{bytes_eq}
use Rattle.std.proofs.lemmas.Bool.{cases_lt, cond_both, lt-ltb}
use Rattle.std.proofs.lemmas.Option.{none-some}
use Rattle.std.proofs.lemmas.Slice.Eq.{bytes_eq-Decides}
use Rattle.std.proofs.lemmas.List.{take-append-le, length-take}
use mathlib.Core.Bool.{true≢false}
use Rattle.values.specs.declared.fault.Fault.{Fault}
use Rattle.values.specs.declared.fault.Fault.TheVariants.{Short}
use Rattle.jute.specs.Format.{◌>>=◌, int, judged_at}
use Rattle.jute.specs.Frame.{frame_format, frame_at, frame_length, front_of}
use Rattle.jute.specs.Stream.{unread_after_fault}
use Rattle.four_letter.specs.Words.{letters_of, word_of}
use Rattle.four_letter.specs.declared.word.Word.{Word}
use Rattle.four_letter.specs.declared.word.Word.TheVariants.{Ruok, Isro, Srvr, Mntr, Wchs, Wchp, Wchc, Dump}
use Rattle.client_service.specs.Serve.{word_without_session, client_frame_limit}

-- ---- words and bytes

-- A word has four letters.
four : (word : Word) → length (letters_of word) ≡ 4
four Ruok = refl
four Isro = refl
four Srvr = refl
four Mntr = refl
four Wchs = refl
four Wchp = refl
four Wchc = refl
four Dump = refl

spelt : (word : Word) (bytes : List ℕ) → length bytes < 4 → bytes_eq bytes (letters_of word) ≡ false
spelt word bytes short = by (bytes_eq bytes (letters_of word)) refl
  where
    by : (b : Bool) → bytes_eq bytes (letters_of word) ≡ b → b ≡ false
    by true e =
        let same = ap length ((bytes_eq-Decides bytes (letters_of word)).0 e) in
        let count = four word in
        absurd (omega arith)
    by false e = refl

-- Fewer than four bytes are no word.
pub no_word : (bytes : List ℕ) → length bytes < 4 → word_of bytes ≡ None
no_word bytes short = rw (
  spelt Ruok bytes short,
  spelt Isro bytes short,
  spelt Srvr bytes short,
  spelt Mntr bytes short,
  spelt Wchs bytes short,
  spelt Wchp bytes short,
  spelt Wchc bytes short,
  spelt Dump bytes short,
) refl

pub says_none : (session : Option ℤ) (word : Option Word) → word ≡ None → word_without_session session word ≡ None
says_none None word e = e
says_none (Some session) word e = refl

-- The first four bytes decide, whatever follows.
pub same_front : (bytes more : List ℕ) → 4 ≤ length bytes → word_of (take 4 (bytes ++ more)) ≡ word_of (take 4 bytes)
same_front bytes more enough = ap word_of (take-append-le 4 bytes more enough)

-- A word stays a word with more bytes after it.
pub still_says : (session : Option ℤ) (word : Word) (bytes more : List ℕ)
    → word_without_session session (word_of (take 4 bytes)) ≡ Some word
    → word_without_session session (word_of (take 4 (bytes ++ more))) ≡ Some word
still_says session word bytes more says = by (cases_lt (length bytes) 4)
  where
    by : (length bytes < 4) ⊎ (4 ≤ length bytes)
        → word_without_session session (word_of (take 4 (bytes ++ more))) ≡ Some word
    by (inl short) =
        let none = says_none session (word_of (take 4 bytes))
        (no_word (take 4 bytes) (omega (arith, length-take 4 bytes))) in
        absurd (none-some word (sym none ∙ says))
    by (inr enough) = ap (word_without_session session) (same_front bytes more enough) ∙ says

-- ---- words and frames

int_short : (bytes : List ℕ) → length bytes < 4 → int.read bytes ≡ Err Short
int_short bytes short =
    cond_both (nat_lt (length bytes) 4) _ _ (λ (r : Result (ℤ × List ℕ) Fault). r ≡ Err Short) (λ _. refl)
    (λ other. absurd (true≢false (sym (lt-ltb (length bytes) 4 short) ∙ other)))

abbrev counted_in : Result (ℤ × List ℕ) Fault → Result (ℕ × List ℕ) Fault
counted_in r = r >>= λ a. frame_length client_frame_limit a.0 >>= λ v. Ok (v, a.1)

-- Fewer than four bytes have no length prefix.
pub short_frame : (bytes : List ℕ) → length bytes < 4 → (frame_format client_frame_limit).read bytes ≡ Err Short
unfolding frame_at judged_at
short_frame bytes short =
    ap (λ (r : Result (ℤ × List ℕ) Fault). counted_in r >>= λ k. front_of k.0 k.1) (int_short bytes short)

-- Where no frame is complete, all the bytes wait.
pub still_waits : (e : Fault) (bytes rest : List ℕ) → unread_after_fault e bytes ≡ Ok rest → bytes ≡ rest
still_waits Short bytes rest is = cc
still_waits e bytes rest is = cc
