-- A row of a table.
use Rattle.std.proofs.Common.{◌≡◌, ℕ, zero, suc, List, [], ◌∷◌, map, get_or, refl, sym, ap, subst, ◌∙◌}
use Rattle.std.proofs.lemmas.List.{get_or_default}
use Rattle.serve_options.specs.declared.row.Name.{Name}
use Rattle.serve_options.specs.declared.row.Row.{Row}
use Rattle.serve_options.specs.declared.row.TheConstants.{NAMES}
use Rattle.serve_options.specs.Places.{name_place}
use Rattle.serve_options.specs.Table.{row_said, option_said, IsOptionTable}
use Rattle.serve_options.proofs.Names.{name_at, place_below}

get_map : {X Y : Type 0} (f : X → Y) (xs : List X) (k : ℕ) (d : X) → get_or (map f xs) k (f d) ≡ f (get_or xs k d)
get_map f [] k d = refl
get_map f (x ∷ xs) zero d = refl
get_map f (x ∷ xs) (suc k) d = get_map f xs k d

-- It says what it has to at the place of each name.
pub row_at : (rows : List Row) (name : Name) (k : ℕ) (d : Row) → k ≡ name_place name → IsOptionTable rows
    → row_said (get_or rows k d) ≡ option_said name
row_at rows name k d place table =
    subst (λ n. row_said (get_or rows n d) ≡ option_said name) (sym place)
    (sym (get_map row_said rows (name_place name) d)
    ∙ ap (λ l. get_or l (name_place name) (row_said d)) table
    ∙ get_or_default (map option_said NAMES) (name_place name) (row_said d) (option_said name) (place_below name)
    ∙ get_map option_said NAMES (name_place name) name
    ∙ ap option_said (name_at name))
