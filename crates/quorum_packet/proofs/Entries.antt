-- A refusal of the entries that are left is a refusal of the ACL list.
use Rattle.std.proofs.Common.{◌≡◌, ℕ, suc, ◌-◌, ◌<◌, ◌≤◌, Bool, true, false, List, [], ◌++◌, length, drop, take, Option, Some, None, Result, Ok, Err, refl, sym, ap, subst, ◌∙◌, arith, inl, inr}
use Rattle.std.specs.Prelude.{ℤ, unwrap_or}
use Rattle.std.proofs.Math.Seq.{take-length}
use Rattle.std.proofs.lemmas.List.{drop-append-le, take-append-drop, append-nil, length-drop}
use Rattle.values.specs.declared.fault.Fault.{Fault}
use Rattle.jute.specs.Format.{◌>>=◌, int, long, name_in, count_format, count_limit, read_n, items_at, vector_at}
use Rattle.jute.specs.Laws.{IsBytes}
use Rattle.jute.specs.Owned.{acl_in, id_in}
use Rattle.jute.proofs.Public.{IsBytes-drop, bind_err, not_refused, int_sound, long_sound, count_sound, name_in_sound}
use Rattle.quorum_packet.specs.declared.unseen.Entries.{Entries}
use Rattle.quorum_packet.specs.Unseen.{ReadFn, IsRestOf, AreUnseenEntries, acl_list, then_read, entries_left, EntryStopsAt}
use Rattle.quorum_packet.proofs.Looking.{stands_ok, joined_fronts, drop_more, shorter}

-- The bytes from a place on, as a slice.
from_place : (bytes ahead : List ℕ) (start : ℕ) → ahead ≡ take (length bytes - start) (drop start bytes)
    → ahead ≡ drop start bytes
from_place bytes ahead start is =
    is ∙ ap (λ (n : ℕ). take n (drop start bytes)) (sym (length-drop start bytes)) ∙ take-length (drop start bytes)

-- ---- what is left after what was read

module _ {A B : Type 0} (whole : ReadFn A) (left : ReadFn B) (bytes : List ℕ) (start : ℕ)
    (u : IsRestOf whole left bytes start) (ahead : List ℕ) (is : ahead ≡ drop start bytes) where
  -- A refusal of the rest is a refusal of the whole, whatever follows.
  at_left : (more : List ℕ) (e : Fault) → left (ahead ++ more) ≡ Err e → whole (bytes ++ more) ≡ Err e
  at_left more e k =
      let place : drop start (bytes ++ more) ≡ ahead ++ more = drop-append-le start bytes more u.within
      ∙ ap (λ (t : List ℕ). t ++ more) (sym is) in
      u.refuses more e (ap left place ∙ k)

  pub left_refused : (e : Fault) → left ahead ≡ Err e → whole bytes ≡ Err e
  left_refused e k =
      subst (λ (t : List ℕ). whole t ≡ Err e) (append-nil bytes) (at_left [] e (ap left (append-nil ahead) ∙ k))

  -- The bytes that were read of the rest are before the new place.
  pub left_behind : {C : Type 0} (other : ReadFn C) (text rest : List ℕ) → ahead ≡ text ++ rest
      → ((more : List ℕ) (e : Fault) → other (rest ++ more) ≡ Err e → left (ahead ++ more) ≡ Err e)
      → (length rest ≤ length bytes) × IsRestOf whole other bytes (length bytes - length rest)
  left_behind other text rest parts step =
      let front : bytes ≡ take start bytes ++ ahead = sym (take-append-drop start bytes)
      ∙ ap (λ (b : List ℕ). take start bytes ++ b) (sym is) in
      let all = joined_fronts bytes (take start bytes) ahead text rest front parts in (
        shorter bytes (take start bytes ++ text) rest all,
        record {
          within = omega arith;
          refuses = λ more e k.
              at_left more e
              (step more e (ap other (sym (drop_more bytes (take start bytes ++ text) rest more all)) ∙ k));
        },
      )

-- ---- an entry: a number, a scheme and an id

-- The rest of the entries, from the first one on.
module _ (surrogates : Bool) (n : ℕ) (bytes : List ℕ) (e : Fault) where
  perms_out : int.read bytes ≡ Err e → read_n (acl_in surrogates).read (suc n) bytes ≡ Err e
  unfolding read_n acl_in id_in
  perms_out h = rw h refl

  scheme_out : (perms : ℤ) (b : List ℕ) → int.read bytes ≡ Ok (perms, b) → (name_in surrogates).read b ≡ Err e
      → read_n (acl_in surrogates).read (suc n) bytes ≡ Err e
  unfolding read_n acl_in id_in
  scheme_out perms b h k = rw (h, k) refl

  id_out : (perms : ℤ) (b c scheme : List ℕ) → int.read bytes ≡ Ok (perms, b)
      → (name_in surrogates).read b ≡ Ok (scheme, c)
      → (name_in surrogates).read c ≡ Err e → read_n (acl_in surrogates).read (suc n) bytes ≡ Err e
  unfolding read_n acl_in id_in
  id_out perms b c scheme h k l = rw (h, k, l) refl

  others_out : (perms : ℤ) (b c d scheme who : List ℕ) → int.read bytes ≡ Ok (perms, b)
      → (name_in surrogates).read b ≡ Ok (scheme, c) → (name_in surrogates).read c ≡ Ok (who, d)
      → read_n (acl_in surrogates).read n d ≡ Err e
      → read_n (acl_in surrogates).read (suc n) bytes ≡ Err e
  unfolding read_n acl_in id_in
  others_out perms b c d scheme who h k l m = rw (h, k, l, m) refl

  -- The rest of an entry after its scheme.
  behind_scheme : (perms : ℤ) (b c scheme : List ℕ) → int.read bytes ≡ Ok (perms, b)
      → (name_in surrogates).read b ≡ Ok (scheme, c)
      → then_read (name_in surrogates).read (read_n (acl_in surrogates).read n) c ≡ Err e
      → read_n (acl_in surrogates).read (suc n) bytes ≡ Err e
  behind_scheme perms b c scheme h k left =
      elim (bind_err ((name_in surrogates).read c) (λ (x : List ℕ × List ℕ). read_n (acl_in surrogates).read n x.1) e
      left) [
        | inl out ↦ id_out perms b c scheme h k out
        | inr read ↦ others_out perms b c read.0.1 scheme read.0.0 h k read.1 read.2
      ]

-- ---- the steps of a scan

abbrev entries_at : Bool → List ℕ → List ℕ → ℕ → Bool → Entries
entries_at surrogates bytes rest count scheme_seen = record {
  start = length bytes - length rest;
  count = count;
  scheme_seen = scheme_seen;
  surrogates = surrogates;
}

module _ (bytes ahead : List ℕ) (entries : Entries) (u : AreUnseenEntries bytes entries)
    (is : ahead ≡ take (length bytes - entries.start) (drop entries.start bytes)) where
  abbrev pub surrogates : Bool
  surrogates = entries.surrogates

  there : ahead ≡ drop entries.start bytes
  there = from_place bytes ahead entries.start is

  abbrev Left : Bool → Type 0
  Left seen = IsRestOf (acl_list surrogates).read (entries_left surrogates seen entries.count) bytes entries.start

  as_seen : (seen : Bool) → entries.scheme_seen ≡ seen → Left seen
  as_seen seen at = subst Left at u

  fits_ahead : IsBytes bytes → IsBytes ahead
  fits_ahead fits = subst IsBytes (sym there) (IsBytes-drop entries.start bytes fits)

  -- The id is next.
  pub id_refused : (e : Fault) → entries.scheme_seen ≡ true → (name_in surrogates).read ahead ≡ Err e
      → ((acl_list surrogates).read bytes ≡ Err e)
      × EntryStopsAt surrogates entries.scheme_seen (drop entries.start bytes) e
  id_refused e at h = (
    left_refused (acl_list surrogates).read (entries_left surrogates true entries.count) bytes entries.start
        (as_seen true at) ahead there e
        (ap (λ (r : Result (List ℕ × List ℕ) Fault). r >>= λ x. read_n (acl_in surrogates).read (entries.count - 1)
        x.1) h),
    rw (at, ← there) h,
  )

  pub id_seen : (rest v : List ℕ) → IsBytes bytes → entries.scheme_seen ≡ true
      → (name_in surrogates).read ahead ≡ Ok (v, rest)
      → (length rest ≤ length bytes)
      × AreUnseenEntries bytes (entries_at surrogates bytes rest (entries.count - 1) false)
  id_seen rest v fits at h =
      let t = (name_in_sound surrogates).lawful.takes ahead v rest (fits_ahead fits) h in
      left_behind (acl_list surrogates).read (entries_left surrogates true entries.count) bytes entries.start
      (as_seen true at) ahead there
      (read_n (acl_in surrogates).read (entries.count - 1)) t.text rest t.parts
      (λ more e k. ap (λ (r : Result (List ℕ × List ℕ) Fault). r >>= λ x. read_n (acl_in surrogates).read
      (entries.count - 1)
      x.1)
      (stands_ok (name_in surrogates) (name_in_sound surrogates).pieced ahead rest more v h) ∙ k)

  -- An entry is next.
  module _ (some : 0 < entries.count) (at : entries.scheme_seen ≡ false) where
    one_more : suc (entries.count - 1) ≡ entries.count
    one_more = omega (arith, some)

    whole_out : (e : Fault) → read_n (acl_in surrogates).read (suc (entries.count - 1)) ahead ≡ Err e
        → (acl_list surrogates).read bytes ≡ Err e
    whole_out e h =
        left_refused (acl_list surrogates).read (entries_left surrogates false entries.count) bytes entries.start
        (as_seen false at) ahead there e
        (subst (λ (n : ℕ). read_n (acl_in surrogates).read n ahead ≡ Err e) one_more h)

    pub perms_refused : (e : Fault) → int.read ahead ≡ Err e
        → ((acl_list surrogates).read bytes ≡ Err e)
        × EntryStopsAt surrogates entries.scheme_seen (drop entries.start bytes) e
    perms_refused e h = (whole_out e (perms_out surrogates (entries.count - 1) ahead e h), rw (at, ← there, h) refl)

    pub scheme_refused : (e : Fault) (perms : ℤ) (b : List ℕ) → int.read ahead ≡ Ok (perms, b)
        → (name_in surrogates).read b ≡ Err e
        → ((acl_list surrogates).read bytes ≡ Err e)
        × EntryStopsAt surrogates entries.scheme_seen (drop entries.start bytes) e
    scheme_refused e perms b h k =
        (whole_out e (scheme_out surrogates (entries.count - 1) ahead e perms b h k), rw (at, ← there, h, k) refl)

    pub scheme_seen : (perms : ℤ) (b rest scheme : List ℕ) → IsBytes bytes → int.read ahead ≡ Ok (perms, b)
        → (name_in surrogates).read b ≡ Ok (scheme, rest)
        → (length rest ≤ length bytes) × AreUnseenEntries bytes (entries_at surrogates bytes rest entries.count true)
    scheme_seen perms b rest scheme fits h k =
        let t1 = int_sound.lawful.takes ahead perms b (fits_ahead fits) h in
        let t2 = (name_in_sound surrogates).lawful.takes b scheme rest t1.rest_fits k in
        left_behind (acl_list surrogates).read (entries_left surrogates false entries.count) bytes entries.start
        (as_seen false at) ahead there
        (entries_left surrogates true entries.count) (t1.text ++ t2.text) rest
        (joined_fronts ahead t1.text b t2.text rest t1.parts t2.parts)
        (λ more e left. subst (λ (n : ℕ). read_n (acl_in surrogates).read n (ahead ++ more) ≡ Err e) one_more
        (behind_scheme surrogates (entries.count - 1) (ahead ++ more) e perms (b ++ more) (rest ++ more) scheme
        (stands_ok int int_sound.pieced ahead b more perms h)
        (stands_ok (name_in surrogates) (name_in_sound surrogates).pieced b rest more scheme k)
        left))

-- ---- the fields before the entries

no_entries : (surrogates : Bool) (bytes : List ℕ) (e : Fault) → read_n (acl_in surrogates).read 0 bytes ≡ Err e → ⊥
unfolding read_n
no_entries s bytes e h = not_refused ([], bytes) e h

counted_out : (surrogates : Bool) (ids : Option ℕ) (bytes : List ℕ) (e : Fault)
    → read_n (acl_in surrogates).read (unwrap_or ids 0) bytes ≡ Err e
    → items_at (acl_in surrogates).read ids bytes ≡ Err e
counted_out surrogates None bytes e h = absurd (no_entries surrogates bytes e h)
counted_out surrogates (Some n) bytes e h = rw h refl

list_out : (surrogates : Bool) (bytes b c : List ℕ) (key : ℤ) (ids : Option ℕ) (e : Fault)
    → long.read bytes ≡ Ok (key, b)
    → (count_format count_limit).read b ≡ Ok (ids, c) → read_n (acl_in surrogates).read (unwrap_or ids 0) c ≡ Err e
    → (acl_list surrogates).read bytes ≡ Err e
unfolding vector_at
list_out surrogates bytes b c key ids e h k l = rw (h, k, counted_out surrogates ids c e l) refl

pub list_fields_seen : (surrogates : Bool) (bytes b c : List ℕ) (key : ℤ) (ids : Option ℕ) → IsBytes bytes
    → long.read bytes ≡ Ok (key, b) → (count_format count_limit).read b ≡ Ok (ids, c)
    → (length c ≤ length bytes) × AreUnseenEntries bytes (entries_at surrogates bytes c (unwrap_or ids 0) false)
list_fields_seen surrogates bytes b c key ids fits h k =
    let t1 = long_sound.lawful.takes bytes key b fits h in
    let t2 = (count_sound count_limit).lawful.takes b ids c t1.rest_fits k in
    left_behind (acl_list surrogates).read (acl_list surrogates).read bytes 0
    (record { within = omega arith; refuses = λ more e l. l }) bytes refl
    (read_n (acl_in surrogates).read (unwrap_or ids 0)) (t1.text ++ t2.text) c
    (joined_fronts bytes t1.text b t2.text c t1.parts t2.parts)
    (λ more e l. list_out surrogates (bytes ++ more) (b ++ more) (c ++ more) key ids e
    (stands_ok long long_sound.pieced bytes b more key h)
    (stands_ok (count_format count_limit) (count_sound count_limit).pieced b c more ids k) l)
