-- The open list as bytes.
use Rattle.std.proofs.Common.{◌≡◌, Bool, true, false, List, ℕ, ◌++◌, Some, Ok, refl, arith}
use Rattle.std.specs.Prelude.{codes}
use Rattle.std.specs.Str.{IsUtf8}
use Rattle.std.proofs.lemmas.Str.{is_utf8-from_IsUtf8}
use lib.Utf8.{encode}
use Rattle.jute.specs.Codes.{open_acl}
use Rattle.jute.specs.Format.{vector_of, vector_at}
use Rattle.jute.specs.Owned.{id_in, acl_in, acl_format}
use Rattle.jute.specs.Texts.{between_surrogates, is_generalized_utf8, is_text}
use Rattle.jute.proofs.Public.{acl_in_sound, vector_sound}

-- The bytes of the open list.
abbrev pub open_bytes : List ℕ
open_bytes = (vector_of acl_format).written (Some open_acl)

scheme_is_utf8 : IsUtf8 (codes "world")
unfolding encode
scheme_is_utf8 = (codes "world", (refl, refl))

id_is_utf8 : IsUtf8 (codes "anyone")
unfolding encode
id_is_utf8 = (codes "anyone", (refl, refl))

scheme_is_text : (surrogates : Bool) → is_text surrogates (codes "world") ≡ true
unfolding between_surrogates is_generalized_utf8
scheme_is_text false = is_utf8-from_IsUtf8 (codes "world") scheme_is_utf8
scheme_is_text true = rw (is_utf8-from_IsUtf8 (codes "world") scheme_is_utf8) refl

id_is_text : (surrogates : Bool) → is_text surrogates (codes "anyone") ≡ true
unfolding between_surrogates is_generalized_utf8
id_is_text false = is_utf8-from_IsUtf8 (codes "anyone") id_is_utf8
id_is_text true = rw (is_utf8-from_IsUtf8 (codes "anyone") id_is_utf8) refl

open_fits : (surrogates : Bool) → (vector_of (acl_in surrogates)).Fits (Some open_acl)
unfolding id_in acl_in
open_fits surrogates = (
  omega arith,
  (
    (
      record { sfits = omega arith },
      (
        (refl, (rw (scheme_is_text surrogates) refl, omega arith)),
        (refl, (rw (id_is_text surrogates) refl, omega arith)),
      ),
    ),
    tt,
  ),
)

-- The open list is spelled so in every dialect.
open_spelled : (surrogates : Bool) → (vector_of (acl_in surrogates)).Spells (Some open_acl) open_bytes
unfolding id_in acl_in
open_spelled surrogates =
    (vector_sound (acl_in surrogates) (acl_in_sound surrogates)).lawful.writes (Some open_acl) (open_fits surrogates)

pub open_read : (surrogates : Bool) (rest : List ℕ)
    → vector_at (acl_in surrogates).read (open_bytes ++ rest) ≡ Ok (Some open_acl, rest)
open_read surrogates rest =
    (vector_sound (acl_in surrogates) (acl_in_sound surrogates)).lawful.again (Some open_acl) open_bytes rest
    (open_spelled surrogates)
