-- UTF-8, as a predicate and as a test.
use Rattle.std.proofs.Common.{◌≡◌, ◌≢◌, ℕ, Bool, true, false, List, [], ◌∷◌, Some, None, refl, sym, ap}
use Rattle.std.specs.Prelude.{IsUtf8, if◌then◌else◌}
use Rattle.std.specs.Str.{is_utf8}
use Rattle.std.proofs.lemmas.Str.{IsUtf8-from_is_utf8, is_utf8-from_IsUtf8}
use Rattle.replay_script.specs.Line.{super_setting}
use Rattle.replay_script.specs.declared.event.Setting.TheVariants.{Super}

not_text_at : (bytes : List ℕ) (b : Bool) → is_utf8 bytes ≡ b → (IsUtf8 bytes → ⊥) → false ≡ b
not_text_at bytes true e h = absurd (h (IsUtf8-from_is_utf8 bytes e))
not_text_at bytes false e h = refl

pub not_text : (bytes : List ℕ) → (IsUtf8 bytes → ⊥) → false ≡ is_utf8 bytes
not_text bytes h = not_text_at bytes (is_utf8 bytes) refl h

-- ---- the digest of the super user

pub no_digest : (text : List ℕ) → (IsUtf8 text → ⊥) → None ≡ super_setting text
no_digest [] h = refl
no_digest (b ∷ bs) h = ap (λ t. if t then Some (Super (b ∷ bs)) else None) (not_text (b ∷ bs) h)

pub digest : (text : List ℕ) → text ≢ [] → IsUtf8 text → Some (Super text) ≡ super_setting text
digest [] filled h = absurd (filled refl)
digest (b ∷ bs) filled h =
    ap (λ t. if t then Some (Super (b ∷ bs)) else None) (sym (is_utf8-from_IsUtf8 (b ∷ bs) h))
