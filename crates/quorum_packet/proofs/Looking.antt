-- A refusal of a part of a packet is a refusal of the packet.
use Rattle.std.proofs.Common.{◌≡◌, ℕ, zero, suc, ◌-◌, ◌*◌, ◌<◌, ◌≤◌, List, [], ◌∷◌, ◌++◌, length, drop, take, Option, Some, None, Result, Ok, Err, refl, sym, ap, subst, ◌∙◌, append_assoc, arith, inl, inr}
use Rattle.std.specs.Prelude.{ℤ, unwrap_or, OnOk, OnErr}
use Rattle.std.proofs.lemmas.List.{length-append, drop_at, drop-append-le, take-append-drop, append-nil}
use Rattle.values.specs.declared.fault.Fault.{Fault}
use Rattle.jute.specs.Format.{◌>>=◌, Format, int, long, buffer, text_or_empty, count_format, count_limit, read_n, items_at, vector_at, pair_of, mapped_format}
use Rattle.jute.specs.Laws.{IsBytes}
use Rattle.jute.specs.Owned.{id_in, id_format}
use Rattle.jute.specs.Pieces.{IsStable, ReadsInPieces}
use Rattle.jute.proofs.Public.{IsBytes-drop, bind_err, int_sound, long_sound, buffer_sound, count_sound, name_sound}
use Rattle.quorum_packet.specs.declared.unseen.Texts.{Texts}
use Rattle.quorum_packet.specs.declared.unseen.Unseen.{Unseen}
use Rattle.quorum_packet.specs.declared.unseen.Unseen.TheVariants as unseen
use Rattle.quorum_packet.specs.Packet.{packet_format}
use Rattle.quorum_packet.specs.Unseen.{ReadFn, IsRestOf, AreUnseen, MayBeUnseen}

-- A success.
abbrev done : {A : Type 0} → A → Result A Fault
done x = Ok x

done_not : {A : Type 0} (x : A) (e : Fault) → done x ≡ Err e → ⊥
done_not x e h = absurd cc

-- A value that was read is read again, whatever follows.
pub stands_ok : {A : Type 0} (f : Format A) → ReadsInPieces f → (bytes rest more : List ℕ) (v : A)
    → f.read bytes ≡ Ok (v, rest)
    → f.read (bytes ++ more) ≡ Ok (v, rest ++ more)
stands_ok {A} f p bytes rest more v h =
    subst (λ (r : Result (A × List ℕ) Fault). IsStable r more (f.read (bytes ++ more))) h (p.stands bytes more)

-- ---- items one after another

pub times_first : {A : Type 0} (f : Format A) (n : ℕ) (bytes : List ℕ) (e : Fault) → f.read bytes ≡ Err e
    → read_n f.read (suc n) bytes ≡ Err e
unfolding read_n
times_first f n bytes e h = rw h refl

pub times_next : {A : Type 0} (f : Format A) → ReadsInPieces f → (n : ℕ) (bytes rest more : List ℕ) (v : A) (e : Fault)
    → f.read bytes ≡ Ok (v, rest) → read_n f.read n (rest ++ more) ≡ Err e
    → read_n f.read (suc n) (bytes ++ more) ≡ Err e
unfolding read_n
times_next f p n bytes rest more v e h k = rw (stands_ok f p bytes rest more v h, k) refl

no_times : {A : Type 0} (f : Format A) (bytes : List ℕ) (e : Fault) → read_n f.read 0 bytes ≡ Err e → ⊥
unfolding read_n
no_times f bytes e h = done_not ([], bytes) e h

-- There are twice as many halves as pairs.
module _ {A B : Type 0} (f : Format A) (to : A × A → B) (from : B → A × A) where
  abbrev halves : ℕ → List ℕ → Result (List A × List ℕ) Fault
  halves n bytes = read_n f.read n bytes

  abbrev pairs : ℕ → List ℕ → Result (List B × List ℕ) Fault
  pairs n bytes = read_n (mapped_format to from (pair_of f f)).read n bytes

  second_refused : (n : ℕ) (bytes rest : List ℕ) (v : A) (e : Fault) → f.read bytes ≡ Ok (v, rest)
      → ((b : List ℕ) → halves (2 * n) b ≡ Err e → pairs n b ≡ Err e)
      → halves (suc (2 * n)) rest ≡ Err e → pairs (suc n) bytes ≡ Err e
  unfolding read_n
  second_refused n bytes rest v e h others k =
      elim (bind_err (f.read rest) (λ (w : A × List ℕ). halves (2 * n) w.1 >>= λ (ws : List A × List ℕ). Ok
      (w.0 ∷ ws.0, ws.1)) e k) [
        | inl refused ↦ rw (h, refused) refl
        | inr read ↦
            elim (bind_err (halves (2 * n) read.0.1) (λ (ws : List A × List ℕ). Ok (read.0.0 ∷ ws.0, ws.1)) e read.2) [
              | inl refused ↦ rw (h, read.1, others read.0.1 refused) refl
              | inr wrong ↦ absurd (done_not (read.0.0 ∷ wrong.0.0, wrong.0.1) e wrong.2)
            ]
      ]

  first_refused : (n : ℕ) (bytes : List ℕ) (e : Fault) → ((b : List ℕ) → halves (2 * n) b ≡ Err e → pairs n b ≡ Err e)
      → halves (suc (suc (2 * n))) bytes ≡ Err e → pairs (suc n) bytes ≡ Err e
  unfolding read_n
  first_refused n bytes e others h =
      elim (bind_err (f.read bytes) (λ (v : A × List ℕ). halves (suc (2 * n)) v.1 >>= λ (vs : List A × List ℕ). Ok
      (v.0 ∷ vs.0, vs.1)) e h) [
        | inl refused ↦ rw refused refl
        | inr read ↦
            elim (bind_err (halves (suc (2 * n)) read.0.1) (λ (vs : List A × List ℕ). Ok (
              read.0.0 ∷ vs.0,
              vs.1,
            )) e read.2) [
              | inl refused ↦ second_refused n bytes read.0.1 read.0.0 e read.1 others refused
              | inr wrong ↦ absurd (done_not (read.0.0 ∷ wrong.0.0, wrong.0.1) e wrong.2)
            ]
      ]

  pub pairs_refused : (n : ℕ) (bytes : List ℕ) (e : Fault) → halves (2 * n) bytes ≡ Err e → pairs n bytes ≡ Err e
  pairs_refused zero bytes e h = absurd (no_times f bytes e h)
  pairs_refused (suc n) bytes e h =
      let twice : 2 * suc n ≡ suc (suc (2 * n)) = omega arith in
      first_refused n bytes e (λ b. pairs_refused n b e) (rw twice at h)

-- An id has two texts.
pub ids_refused : (n : ℕ) (bytes : List ℕ) (e : Fault) → read_n text_or_empty.read (2 * n) bytes ≡ Err e
    → read_n id_format.read n bytes ≡ Err e
unfolding id_in
ids_refused n bytes e h =
    pairs_refused text_or_empty (λ v. record { scheme = v.0; id = v.1 }) (λ r. (r.scheme, r.id)) n bytes e h

-- ---- the packet's fields

-- After the count, a refusal of the ids is the packet's.
counted_refused : (ids : Option ℕ) (bytes : List ℕ) (e : Fault)
    → read_n text_or_empty.read (2 * unwrap_or ids 0) bytes ≡ Err e
    → items_at id_format.read ids bytes ≡ Err e
counted_refused None bytes e h = absurd (no_times text_or_empty bytes e h)
counted_refused (Some n) bytes e h = rw (ids_refused n bytes e h) refl

pub fields_refused : (bytes b1 b2 b3 b4 more : List ℕ) (kind zxid : ℤ) (carried : Option (List ℕ))
    (ids : Option ℕ) (e : Fault)
    → int.read bytes ≡ Ok (kind, b1) → long.read b1 ≡ Ok (zxid, b2) → buffer.read b2 ≡ Ok (carried, b3)
    → (count_format count_limit).read b3 ≡ Ok (ids, b4)
    → read_n text_or_empty.read (2 * unwrap_or ids 0) (b4 ++ more) ≡ Err e → packet_format.read (bytes ++ more) ≡ Err e
unfolding packet_format vector_at
fields_refused bytes b1 b2 b3 b4 more kind zxid carried ids e h1 h2 h3 h4 k =
    rw (
      stands_ok int int_sound.pieced bytes b1 more kind h1,
      stands_ok long long_sound.pieced b1 b2 more zxid h2,
      stands_ok buffer buffer_sound.pieced b2 b3 more carried h3,
      stands_ok (count_format count_limit) (count_sound count_limit).pieced b3 b4 more ids h4,
      counted_refused ids (b4 ++ more) e k,
    ) refl

-- ---- what wasn't scanned

-- A prefix of the rest after a prefix.
pub joined_fronts : (a x b y c : List ℕ) → a ≡ x ++ b → b ≡ y ++ c → a ≡ (x ++ y) ++ c
joined_fronts a x b y c p q = p ∙ ap (λ (t : List ℕ). x ++ t) q ∙ sym (append_assoc x y c)

pub drop_more : (bytes text rest more : List ℕ) → bytes ≡ text ++ rest
    → drop (length bytes - length rest) (bytes ++ more) ≡ rest ++ more
drop_more bytes text rest more e =
    let n : length bytes - length rest ≡ length text = omega (arith, ap length e, length-append text rest) in
    rw (n, e, append_assoc text rest more) (drop_at text (rest ++ more) (length text) refl)

pub drop_front_of : (bytes text rest : List ℕ) → bytes ≡ text ++ rest → drop (length bytes - length rest) bytes ≡ rest
drop_front_of bytes text rest e =
    let n : length bytes - length rest ≡ length text = omega (arith, ap length e, length-append text rest) in
    rw (n, e) (drop_at text rest (length text) refl)

pub shorter : (bytes text rest : List ℕ) → bytes ≡ text ++ rest → length rest ≤ length bytes
shorter bytes text rest e = omega (arith, ap length e, length-append text rest)

-- The rest of the bytes, and the number of texts there.
abbrev texts_at : List ℕ → List ℕ → ℕ → Texts
texts_at bytes rest count = record { start = length bytes - length rest; count = count }

pub fields_unseen : (bytes b1 b2 b3 b4 : List ℕ) (kind zxid : ℤ) (carried : Option (List ℕ)) (ids : Option ℕ)
    → IsBytes bytes → int.read bytes ≡ Ok (kind, b1) → long.read b1 ≡ Ok (zxid, b2) → buffer.read b2 ≡ Ok (carried, b3)
    → (count_format count_limit).read b3 ≡ Ok (ids, b4)
    → (length b4 ≤ length bytes) × AreUnseen bytes (texts_at bytes b4 (2 * unwrap_or ids 0))
fields_unseen bytes b1 b2 b3 b4 kind zxid carried ids fits h1 h2 h3 h4 =
    let t1 = int_sound.lawful.takes bytes kind b1 fits h1 in
    let t2 = long_sound.lawful.takes b1 zxid b2 t1.rest_fits h2 in
    let t3 = buffer_sound.lawful.takes b2 carried b3 t2.rest_fits h3 in
    let t4 = (count_sound count_limit).lawful.takes b3 ids b4 t3.rest_fits h4 in
    let p2 = joined_fronts bytes t1.text b1 t2.text b2 t1.parts t2.parts in
    let p3 = joined_fronts bytes (t1.text ++ t2.text) b2 t3.text b3 p2 t3.parts in
    let p4 = joined_fronts bytes ((t1.text ++ t2.text) ++ t3.text) b3 t4.text b4 p3 t4.parts in
    let text = ((t1.text ++ t2.text) ++ t3.text) ++ t4.text in (
      shorter bytes text b4 p4,
      record {
        within = omega arith;
        refuses = λ more e k. fields_refused bytes b1 b2 b3 b4 more kind zxid carried ids e h1 h2 h3 h4
            (rw (drop_more bytes text b4 more p4) at k);
      },
    )

-- The texts of which the first is at the front of the rest.
module _ (bytes ahead : List ℕ) (texts : Texts) (u : AreUnseen bytes texts) (some : 0 < texts.count)
    (is : ahead ≡ drop texts.start bytes) where
  at_texts : (more : List ℕ) (e : Fault) → read_n text_or_empty.read (suc (texts.count - 1)) (ahead ++ more) ≡ Err e
      → packet_format.read (bytes ++ more) ≡ Err e
  at_texts more e k =
      let count : suc (texts.count - 1) ≡ texts.count = omega (arith, some) in
      let place : drop texts.start (bytes ++ more) ≡ ahead ++ more = drop-append-le texts.start bytes more u.within
      ∙ ap (λ (t : List ℕ). t ++ more) (sym is) in
      u.refuses more e (rw place (subst (λ (n : ℕ). read_n text_or_empty.read n (ahead ++ more) ≡ Err e) count k))

  pub text_refused : (e : Fault) → text_or_empty.read ahead ≡ Err e → packet_format.read bytes ≡ Err e
  text_refused e h =
      let k = at_texts [] e (rw (append-nil ahead) (times_first text_or_empty (texts.count - 1) ahead e h)) in
      subst (λ (t : List ℕ). packet_format.read t ≡ Err e) (append-nil bytes) k

  pub text_unseen : (rest v : List ℕ) → IsBytes bytes → text_or_empty.read ahead ≡ Ok (v, rest)
      → (length rest ≤ length bytes) × AreUnseen bytes (texts_at bytes rest (texts.count - 1))
      × (rest ≡ drop (length bytes - length rest) bytes)
  text_unseen rest v fits h =
      let t = name_sound.lawful.takes ahead v rest (subst IsBytes (sym is) (IsBytes-drop texts.start bytes fits)) h in
      let front : bytes ≡ take texts.start bytes ++ ahead = sym (take-append-drop texts.start bytes)
      ∙ ap (λ (b : List ℕ). take texts.start bytes ++ b) (sym is) in
      let whole = joined_fronts bytes (take texts.start bytes) ahead t.text rest front t.parts in
      let text = take texts.start bytes ++ t.text in (
        shorter bytes text rest whole,
        record {
          within = omega arith;
          refuses = λ more e k. at_texts more e
              (times_next text_or_empty name_sound.pieced (texts.count - 1) ahead rest more v e
              h (rw (drop_more bytes text rest more whole) at k));
        },
        sym (drop_front_of bytes text rest whole),
      )

-- A further piece of the stream.
left_more : {A B : Type 0} (whole : ReadFn A) (left : ReadFn B) (bytes piece : List ℕ) (start : ℕ)
    → IsRestOf whole left bytes start → IsRestOf whole left (bytes ++ piece) start
left_more whole left bytes piece start h = record {
  within = omega (arith, h.within, length-append bytes piece);
  refuses = λ more e k. rw (append_assoc bytes piece more)
      (h.refuses (piece ++ more) e (rw (append_assoc bytes piece more) at k));
}

pub unseen_more : (bytes piece : List ℕ) (u : Option Unseen) → MayBeUnseen bytes u → MayBeUnseen (bytes ++ piece) u
unseen_more bytes piece None h = tt
unseen_more bytes piece (Some unseen.Whole) h = tt
unseen_more bytes piece (Some (unseen.Texts texts)) h = left_more _ _ bytes piece texts.start h
unseen_more bytes piece (Some (unseen.Entries entries)) h = left_more _ _ bytes piece entries.start h

-- The same where an allocation may have been refused for the piece.
pub unseen_after : {T E : Type 0} (r : Result T E) (old new piece : List ℕ) (u : Option Unseen)
    → OnOk r (new ≡ old ++ piece) → OnErr r (new ≡ old)
    → MayBeUnseen old u → MayBeUnseen new u
unseen_after (Ok x) old new piece u added same h = rw added (unseen_more old piece u h)
unseen_after (Err e) old new piece u added same h = rw same h
