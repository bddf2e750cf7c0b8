-- Texts that are appended one after the other.
use Rattle.std.proofs.Common.{◌≡◌, ℕ, List, ◌++◌, append_assoc, ap, refl, ◌∙◌}

pub appended : (old first second : List ℕ) {mid new : List ℕ} → mid ≡ old ++ first → new ≡ mid ++ second
    → new ≡ old ++ (first ++ second)
appended old first second one two = two ∙ ap (λ x. x ++ second) one ∙ append_assoc old first second

-- Six pieces, as they are written.
pub six_pieces : (old a b c d e f : List ℕ)
    → old ++ (a ++ (b ++ (c ++ (d ++ (e ++ f))))) ≡ old ++ (a ++ b ++ c ++ d ++ e ++ f)
six_pieces old a b c d e f = simp append_assoc refl
