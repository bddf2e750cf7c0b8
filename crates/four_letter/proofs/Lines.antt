-- Lines, appended one after the other.
use Rattle.std.proofs.Common.{◌≡◌, ℕ, List, ◌++◌, ap, ◌∙◌, append_assoc}

-- One more line after those that were appended.
pub more : (old now lines line : List ℕ) → now ≡ old ++ lines → now ++ line ≡ old ++ (lines ++ line)
more old now lines line is = ap (λ o. o ++ line) is ∙ append_assoc old lines line
