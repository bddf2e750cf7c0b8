-- The text of the scheme "digest", from the tests in the code.
use Rattle.std.proofs.Common.{◌≡◌, ℕ, ◌<◌, ◌≤◌, Bool, true, false, not, ◌&&◌, List, length, Some, None, refl, sym, ap}
use Rattle.std.specs.Prelude.{IsUtf8, codes, nat_le, if◌then◌else◌}
use Rattle.std.specs.Str.{bytes_eq, is_utf8}
use Rattle.std.proofs.lemmas.Bool.{lt-leb, le-leb}
use Rattle.std.proofs.lemmas.Str.{IsUtf8-from_is_utf8, is_utf8-from_IsUtf8}
use Rattle.sessions.specs.Sessions.{auth_limit, is_auth_text, digest_text}
use mathlib.Core.Bool.{true≢false}

is_not : (b : Bool) → false ≡ not b → b ≡ true
is_not true e = refl
is_not false e = absurd (true≢false (sym e))

at_none : (a b : Bool) (x : List ℕ) → b ≡ false → None ≡ (if a && b then Some x else None)
at_none true b x e = ap (λ t. if t then Some x else None) (sym e)
at_none false b x e = refl

at_some : (a b : Bool) (x : List ℕ) → a ≡ true → b ≡ true → Some x ≡ (if a && b then Some x else None)
at_some a b x e f = λ i. if sym e i && sym f i then Some x else None

not_text_at : (bytes : List ℕ) (b : Bool) → is_utf8 bytes ≡ b → (IsUtf8 bytes → ⊥) → b ≡ false
not_text_at bytes true e h = absurd (h (IsUtf8-from_is_utf8 bytes e))
not_text_at bytes false e h = refl

and_false : (a b : Bool) → b ≡ false → (a && b) ≡ false
and_false true b e = e
and_false false b e = refl

-- Bytes that aren't UTF-8 give no text.
pub shows_nothing : (scheme bytes : List ℕ) → (IsUtf8 bytes → ⊥) → None ≡ digest_text (Some scheme) (Some bytes)
shows_nothing scheme bytes h =
    at_none (bytes_eq scheme (codes "digest")) (is_auth_text bytes) bytes
    (and_false (nat_le (length bytes) auth_limit) (is_utf8 bytes) (not_text_at bytes (is_utf8 bytes) refl h))

-- Too many bytes give no text.
pub too_long : (scheme bytes : List ℕ) → auth_limit < length bytes → None ≡ digest_text (Some scheme) (Some bytes)
too_long scheme bytes h =
    at_none (bytes_eq scheme (codes "digest")) (is_auth_text bytes) bytes
    (ap (λ b. b && is_utf8 bytes) (lt-leb (length bytes) auth_limit h))

pub shows_text : (scheme bytes : List ℕ) → false ≡ not (bytes_eq scheme (codes "digest")) → length bytes ≤ auth_limit
    → IsUtf8 bytes → Some bytes ≡ digest_text (Some scheme) (Some bytes)
shows_text scheme bytes same short h =
    at_some (bytes_eq scheme (codes "digest")) (is_auth_text bytes) bytes
    (is_not (bytes_eq scheme (codes "digest")) same)
    (λ i. le-leb (length bytes) auth_limit short i && is_utf8-from_IsUtf8 bytes h i)
