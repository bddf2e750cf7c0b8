-- Places in a list, and in what a function makes of it.
use Rattle.std.proofs.Common.{◌≡◌, ℕ, ◌+◌, ◌++◌, ◌||◌, Bool, true, false, List, [], ◌∷◌, Some, None, refl, sym, ap, suc, ◌∙◌, map, length, cond, not, nat_lt}
use Rattle.std.specs.Prelude.{position}
use Rattle.std.specs.List.{position_or_len, prefix_len, list_any}
use Rattle.std.specs.Str.{bytes_eq}
use Rattle.indexmap.specs.IndexSet.{insert_key}
use Rattle.pairs.specs.declared.text_key.KeyQuery.{KeyQuery}
use Rattle.names.specs.Names.{with_new_name}
use Rattle.names.specs.Inner.View.{key_texts}

pub prefix_len-map : {X Y : Type 0} (p : Y → Bool) (f : X → Y) (xs : List X) → prefix_len p (map f xs) ≡ prefix_len (λ x. p (f x)) xs
prefix_len-map p f [] = refl
prefix_len-map p f (x ∷ xs) = ap (λ n. cond (p (f x)) (1 + n) 0) (prefix_len-map p f xs)

pub length-mapped : {X Y : Type 0} (f : X → Y) (xs : List X) → length (map f xs) ≡ length xs
length-mapped f [] = refl
length-mapped f (x ∷ xs) = ap suc (length-mapped f xs)

pub position-map : {X Y : Type 0} (p : Y → Bool) (f : X → Y) (xs : List X) → position p (map f xs) ≡ position (λ x. p (f x)) xs
position-map p f xs i = cond (nat_lt (prefix_len-map (λ y. not (p y)) f xs i) (length-mapped f xs i)) (Some (prefix_len-map (λ y. not (p y)) f xs i)) None

pub list_any-map : {X Y : Type 0} (p : Y → Bool) (f : X → Y) (xs : List X) → list_any p (map f xs) ≡ list_any (λ x. p (f x)) xs
list_any-map p f [] = refl
list_any-map p f (x ∷ xs) = ap (λ b. p (f x) || b) (list_any-map p f xs)

pub map-push : {X Y : Type 0} (f : X → Y) (xs : List X) (x : X) → map f (xs ++ x ∷ []) ≡ map f xs ++ f x ∷ []
map-push f [] x = refl
map-push f (y ∷ ys) x = ap (λ l. f y ∷ l) (map-push f ys x)

pub map-chosen : {X Y : Type 0} (f : X → Y) (b : Bool) (xs ys : List X) → map f (cond b xs ys) ≡ cond b (map f xs) (map f ys)
map-chosen f true xs ys = refl
map-chosen f false xs ys = refl

-- The names after a text is added, from the keys of the set.
pub names-insert : (keys : List KeyQuery) (q : KeyQuery)
    → key_texts (insert_key (λ a b. bytes_eq a.0.now b.0.now) keys q) ≡ with_new_name (key_texts keys) q.0.now
names-insert keys q =
    map-chosen (λ (key : KeyQuery). key.0.now) (list_any (λ (k : KeyQuery). bytes_eq q.0.now k.0.now) keys) keys (keys ++ q ∷ [])
    ∙ (λ i. cond (sym (list_any-map (bytes_eq q.0.now) (λ (key : KeyQuery). key.0.now) keys) i) (key_texts keys)
    (map-push (λ (key : KeyQuery). key.0.now) keys q i))

pub position_or_len-map : {X Y : Type 0} (p : Y → Bool) (f : X → Y) (xs : List X) → position_or_len p (map f xs) ≡ position_or_len (λ x. p (f x)) xs
position_or_len-map p f xs = prefix_len-map (λ y. not (p y)) f xs
