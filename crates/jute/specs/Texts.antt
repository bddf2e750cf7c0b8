-- Generalized UTF-8: UTF-8 in which a surrogate may stand too, as three bytes of its own. Java writes a character past
-- U+FFFF as two of them, its halves.
use Rattle.std.specs.Prelude.{ℕ, Bool, true, false, ◌&&◌, ◌==◌, List, [], ◌∷◌, Option, Some, None, nat_le, if◌then◌else◌}
use Rattle.std.specs.List.{list_all, onto_first}
use Rattle.std.specs.Str.{is_utf8}

abbrev pub is_within : ℕ → ℕ → ℕ → Bool
is_within low high b = nat_le low b && nat_le b high

-- The bytes of U+D800 to U+DFFF, if UTF-8 had these.
abbrev pub are_surrogate : ℕ → ℕ → ℕ → Bool
are_surrogate a b c = a == 237 && (is_within 160 191 b && is_within 128 191 c)

-- The bytes behind the surrogate at the front.
abbrev pub behind_surrogate : List ℕ → Option (List ℕ)
behind_surrogate [] = None
behind_surrogate (a ∷ []) = None
behind_surrogate (a ∷ b ∷ []) = None
behind_surrogate (a ∷ b ∷ c ∷ bytes) = if are_surrogate a b c then Some bytes else None

-- The spans of bytes between surrogates.
unfoldable pub between_surrogates : List ℕ → List (List ℕ)
between_surrogates [] = [] ∷ []
between_surrogates (a ∷ []) = (a ∷ []) ∷ []
between_surrogates (a ∷ b ∷ []) = (a ∷ b ∷ []) ∷ []
between_surrogates (a ∷ b ∷ c ∷ bytes) =
    if are_surrogate a b c then [] ∷ between_surrogates bytes else onto_first a (between_surrogates (b ∷ c ∷ bytes))

-- Each span between surrogates is UTF-8.
unfoldable pub is_generalized_utf8 : List ℕ → Bool
is_generalized_utf8 bytes = list_all is_utf8 (between_surrogates bytes)

-- Whether bytes are a text; in one with surrogates they may be generalized UTF-8.
abbrev pub is_text : Bool → List ℕ → Bool
is_text false = is_utf8
is_text true = is_generalized_utf8
