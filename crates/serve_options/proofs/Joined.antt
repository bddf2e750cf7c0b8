-- Texts that are joined, and their bytes.
use Rattle.std.proofs.Common.{◌≡◌, ℕ, List, [], ◌∷◌, ◌++◌, map, refl, ap}
use Rattle.std.specs.List.{flat_map, join_by}

flat_map_map : {X : Type 0} (bytes : X → List ℕ) (sign : List ℕ) (texts : List X)
    → flat_map (λ text. sign ++ bytes text) texts ≡ flat_map (λ text. sign ++ text) (map bytes texts)
flat_map_map bytes sign [] = refl
flat_map_map bytes sign (text ∷ texts) = ap (λ l. (sign ++ bytes text) ++ l) (flat_map_map bytes sign texts)

pub join_map : {X : Type 0} (bytes : X → List ℕ) (sign : List ℕ) (texts : List X)
    → join_by bytes sign texts ≡ join_by (λ text. text) sign (map bytes texts)
join_map bytes sign [] = refl
join_map bytes sign (text ∷ texts) = ap (λ l. bytes text ++ l) (flat_map_map bytes sign texts)
