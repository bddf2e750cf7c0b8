-- The groups of an address, one after the other.
use Rattle.std.proofs.Common.{◌≡◌, ℕ, zero, suc, ◌<◌, List, [], ◌∷◌, ◌++◌, length, take, slice_index, Bool, true, false, refl, sym, ap, ◌∙◌, arith}
use Rattle.std.specs.List.{flat_map}
use Rattle.std.proofs.lemmas.List.{append-nil, append_assoc}
use Rattle.serve_door.specs.Addresses.{next_text, groups_text}

others_more : (xs : List ℕ) (i : ℕ) → i < length xs
    → flat_map (next_text false) (take i xs) ++ next_text false (slice_index xs i)
    ≡ flat_map (next_text false) (take (suc i) xs)
others_more [] i less = absurd (omega (arith, less))
others_more (x ∷ xs) zero less = sym (append-nil (next_text false x))
others_more (x ∷ xs) (suc i) less =
    append_assoc (next_text false x) (flat_map (next_text false) (take i xs)) (next_text false (slice_index xs i))
    ∙ ap (λ l. next_text false x ++ l) (others_more xs i (omega (arith, less)))

pub groups_more : (xs : List ℕ) (i : ℕ) (is_first : Bool) → i < length xs → (i ≡ 0 → is_first ≡ true)
    → (0 < i → is_first ≡ false)
    → groups_text (take i xs) ++ next_text is_first (slice_index xs i) ≡ groups_text (take (suc i) xs)
groups_more [] i is_first less front after = absurd (omega (arith, less))
groups_more (x ∷ xs) zero is_first less front after =
    ap (λ b. next_text b x) (front refl) ∙ sym (append-nil (next_text true x))
groups_more (x ∷ xs) (suc i) is_first less front after =
    ap (λ b. groups_text (x ∷ take i xs) ++ next_text b (slice_index xs i)) (after (omega arith))
    ∙ append_assoc (next_text true x) (flat_map (next_text false) (take i xs)) (next_text false (slice_index xs i))
    ∙ ap (λ l. next_text true x ++ l) (others_more xs i (omega (arith, less)))
