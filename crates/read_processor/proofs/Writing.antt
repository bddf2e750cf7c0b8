-- Lists and Stats that may be written, and their lengths.
use Rattle.std.proofs.Common.{◌≡◌, ℕ, ◌+◌, ◌≤◌, ◌<◌, ◌^◌, List, [], ◌∷◌, length, All, Some, refl, ap, ◌∙◌, arith, rules}
use Rattle.std.specs.List.{flat_map}
use Rattle.std.proofs.lemmas.List.{length-append}
use Rattle.std.proofs.lemmas.List.Concat.{flat_map-cons}
use Rattle.std.proofs.lemmas.List.Elements.{All-nil, All-cons}
use Rattle.jute.specs.Format.{Format, text_or_empty, vector_of, number_bytes}
use Rattle.jute.specs.Owned.{acl_in, id_in, acl_format}
use Rattle.jute.specs.Records.{stat_format}
use Rattle.jute.specs.declared.owned.Acl.{Acl}
use Rattle.jute.specs.declared.stat.Stat.{Stat}
use Rattle.client_records.specs.Fields.{names_format}
use Rattle.client_records.specs.Responses.{client_info}
use Rattle.client_records.specs.declared.response.ClientInfo.{ClientInfo}
use Rattle.read_processor.specs.Limits.{body_limit}
use Rattle.read_processor.proofs.Counting.{counted_length}

-- ---- lists

-- A format without empty spellings, whose short values may be written.
record Plain {A : Type 0} (F : Format A) : Type 0 where
  some : (a : A) → 0 < length (F.written a)
  writable : (a : A) → length (F.written a) < 2 ^ 31 → F.Writable a

each : {A : Type 0} (F : Format A) → Plain F → (xs : List A) → length (flat_map F.written xs) < 2 ^ 31
    → (length xs ≤ length (flat_map F.written xs)) × All F.Writable xs
each F p [] lt = (omega arith, All-nil F.Writable)
each F p (x ∷ xs) lt =
    let whole : length (flat_map F.written (x ∷ xs)) ≡ length (F.written x) + length (flat_map F.written xs) =
    ap (λ (l : List ℕ). length l) (flat_map-cons F.written x xs)
    ∙ length-append (F.written x) (flat_map F.written xs) in
    let rest = each F p xs (omega (arith, whole, lt)) in (
      omega (arith, whole, rest.0, p.some x),
      All-cons F.Writable x xs (p.writable x (omega (arith, whole, lt))) rest.1,
    )

vector_writable : {A : Type 0} (F : Format A) → Plain F → (xs : List A)
    → length ((vector_of F).written (Some xs)) ≤ body_limit → (vector_of F).Writable (Some xs)
vector_writable F p xs le =
    let whole = counted_length (length xs) (flat_map F.written xs) in
    let all = each F p xs (omega (arith, whole, le)) in
    (omega (arith, whole, le, all.0), all.1)

name_plain : Plain text_or_empty
unfolding number_bytes
name_plain = record {
  some = λ t. simp length-append (omega arith);
  writable = λ t lt. omega (arith, counted_length (length t) t, lt);
}

acl_length : (a : Acl)
    → length (acl_format.written a)
    ≡ 4 + (length (text_or_empty.written a.id.scheme) + length (text_or_empty.written a.id.id))
unfolding acl_in id_in number_bytes
acl_length a = simp length-append (omega arith)

acl_plain : Plain acl_format
unfolding acl_in id_in
acl_plain = record {
  some = λ a. omega (arith, acl_length a);
  writable = λ a lt. (
    tt,
    (
      name_plain.writable a.id.scheme (omega (arith, acl_length a, lt)),
      name_plain.writable a.id.id (omega (arith, acl_length a, lt)),
    ),
  );
}

pub acls_writable : (xs : List Acl) → length ((vector_of acl_format).written (Some xs)) ≤ body_limit
    → (vector_of acl_format).Writable (Some xs)
acls_writable xs le = vector_writable acl_format acl_plain xs le

info_length : (i : ClientInfo)
    → length (client_info.written i)
    ≡ length (text_or_empty.written i.auth_scheme) + length (text_or_empty.written i.user)
unfolding client_info
info_length i = length-append (text_or_empty.written i.auth_scheme) (text_or_empty.written i.user)

info_plain : Plain client_info
unfolding client_info
info_plain = record {
  some = λ i. omega (arith, info_length i, name_plain.some i.auth_scheme);
  writable = λ i lt. (
    name_plain.writable i.auth_scheme (omega (arith, info_length i, lt)),
    name_plain.writable i.user (omega (arith, info_length i, lt)),
  );
}

pub infos_writable : (xs : List ClientInfo) → length ((vector_of client_info).written (Some xs)) ≤ body_limit
    → (vector_of client_info).Writable (Some xs)
infos_writable xs le = vector_writable client_info info_plain xs le

pub names_writable : (xs : List (List ℕ)) → length (names_format.written xs) ≤ body_limit → names_format.Writable xs
names_writable xs le = vector_writable text_or_empty name_plain xs le

-- ---- Stats

pub stat_length : (s : Stat) → length (stat_format.written s) ≡ 68
unfolding stat_format number_bytes
stat_length s = refl

pub stat_writable : (s : Stat) → stat_format.Writable s
unfolding stat_format
stat_writable s = search rules
