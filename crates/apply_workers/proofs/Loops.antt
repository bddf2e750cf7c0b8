-- Loops with the invariant that the result for the rest is the result for the whole.
use Rattle.std.proofs.Common.{◌≡◌, ℕ, zero, suc, ◌+◌, ◌<◌, ◌≤◌, List, [], ◌∷◌, ◌++◌, Some, map, length, get_or, drop, All, refl, sym, ap, ◌∙◌, arith, append_assoc, drop-cons, drop_of_length-le}
use Rattle.std.specs.List.{slice_get, cons_option}
use Rattle.apply_workers.specs.Places.{at_places}

-- One element of the rest is done: f of the old rest is g of the new one.
pub goes_on : {A W : Type 0} (old new : List A) (x : A) (whole : W) (f g : List A → W) → old ≡ x ∷ new
    → f (x ∷ new) ≡ g new → f old ≡ whole → g new ≡ whole
goes_on old new x whole f g next same before = sym same ∙ sym (ap f next) ∙ before

-- The element at i is the next one.
next_at : {A : Type 0} (xs : List A) (i : ℕ) (d : A) → i < length xs → drop i xs ≡ get_or xs i d ∷ drop (i + 1) xs
next_at xs i d within = drop-cons xs i d within ∙ ap (λ n. get_or xs i d ∷ drop n xs) (more i)
  where
    more : (i : ℕ) → suc i ≡ i + 1
    more i = omega arith

pub next_is : {A : Type 0} (xs : List A) (i : ℕ) (x : A) → i < length xs → x ≡ get_or xs i x
    → drop i xs ≡ x ∷ drop (i + 1) xs
next_is xs i x within is = next_at xs i x within ∙ (λ j. sym is j ∷ drop (i + 1) xs)

-- Nothing is left.
pub ends : {A W : Type 0} (xs : List A) (i : ℕ) (whole : W) (f : List A → W) → length xs ≤ i → f (drop i xs) ≡ whole
    → f [] ≡ whole
ends xs i whole f past before = sym (ap f (drop_of_length-le xs past)) ∙ before

pub nothing_left : {A : Type 0} (xs : List A) → length xs ≡ 0 → xs ≡ []
nothing_left [] e = refl
nothing_left (x ∷ xs) e = absurd (omega arith)

-- One element moves from the rest to what is done.
pub moved_on : {A : Type 0} (done done' rest : List A) (x : A) → done' ≡ done ++ x ∷ []
    → done ++ x ∷ rest ≡ done' ++ rest
moved_on done done' rest x e = sym (append_assoc done (x ∷ []) rest) ∙ sym (ap (λ l. l ++ rest) e)

pub map_snoc : {A B : Type 0} (f : A → B) (xs : List A) (x : A) → map f (xs ++ x ∷ []) ≡ map f xs ++ f x ∷ []
map_snoc f [] x = refl
map_snoc f (y ∷ ys) x = λ i. f y ∷ map_snoc f ys x i

get_within : {A : Type 0} (xs : List A) (i : ℕ) (d : A) → i < length xs → slice_get xs i ≡ Some (get_or xs i d)
get_within [] i d l = absurd (omega arith)
get_within (x ∷ xs) zero d l = refl
get_within (x ∷ xs) (suc i) d l = get_within xs i d (omega arith)

-- The element at the first place.
pub first_place : {A : Type 0} (xs : List A) (p : ℕ) (ps : List ℕ) (d : A) → p < length xs
    → at_places xs (p ∷ ps) ≡ get_or xs p d ∷ at_places xs ps
first_place xs p ps d l = ap (λ o. cons_option o (at_places xs ps)) (get_within xs p d l)

-- Each place has an element.
pub places_length : {A : Type 0} (xs : List A) (ps : List ℕ) → All (λ p. p < length xs) ps
    → length (at_places xs ps) ≡ length ps
places_length [] [] h = refl
places_length [] (p ∷ ps) h = let first = h 0 p (omega arith) in absurd (omega arith)
places_length (x ∷ xs) [] h = refl
places_length (x ∷ xs) (p ∷ ps) h =
    let first = h 0 p (omega arith) in
    ap length (first_place (x ∷ xs) p ps x first)
    ∙ ap suc (places_length (x ∷ xs) ps (λ i d l. h (suc i) d (omega arith)))

-- The element at the next place comes first.
pub next_place : {A : Type 0} (xs : List A) (ps : List ℕ) (i : ℕ) (x : A) → i < length ps
    → All (λ p. p < length xs) ps → x ≡ get_or xs (get_or ps i 0) x
    → at_places xs (drop i ps) ≡ x ∷ at_places xs (drop (i + 1) ps)
next_place xs ps i x l within is =
    ap (at_places xs) (next_at ps i 0 l)
    ∙ first_place xs (get_or ps i 0) (drop (i + 1) ps) x (within i 0 l)
    ∙ (λ j. sym is j ∷ at_places xs (drop (i + 1) ps))
