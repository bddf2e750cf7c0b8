-- Paths with their numbers, one after the other.
use Rattle.std.proofs.Common.{◌≡◌, ℕ, zero, suc, ◌+◌, ◌<◌, List, [], ◌∷◌, ◌++◌, ap, sym, subst, ◌∙◌, arith, length, get_or}
use Rattle.std.specs.List.{AllByRecursion}
use Rattle.std.proofs.lemmas.List.{drop-map, length-map}
use Rattle.batcher.specs.declared.owners.NewPath.{NewPath}
use Rattle.batcher.specs.Inner.Owners.{paths_of}
use Rattle.batcher.proofs.Steps.{IsNext, next_is}

-- The path of the next one is the next path.
pub path_is_next : (news : List NewPath) (i : ℕ) (new : NewPath) → i < length news → new ≡ get_or news i new
    → IsNext (paths_of news) i new.path
path_is_next news i new within is =
    drop-map (λ (n : NewPath). n.path) i news
    ∙ ap paths_of (next_is news i new within is)
    ∙ sym (ap (λ ps. new.path ∷ ps) (drop-map (λ (n : NewPath). n.path) (i + 1) news))

pub path_within : (news : List NewPath) (i : ℕ) → i < length news → i < length (paths_of news)
path_within news i within = let long = length-map news (λ (n : NewPath). n.path) in omega arith

pub path_at : (news : List NewPath) (i : ℕ) (new : NewPath) → i < length news → new ≡ get_or news i new
    → new.path ≡ get_or (paths_of news) i new.path
path_at [] i new within is = absurd (omega arith)
path_at (n ∷ ns) zero new within is = ap (λ (n : NewPath). n.path) is
path_at (n ∷ ns) (suc i) new within is = path_at ns i new (omega arith) is

-- What holds for all holds for each.
pub each_has : {A : Type 0} (P : A → Type 0) (xs : List A) (i : ℕ) (x : A) → i < length xs → x ≡ get_or xs i x
    → AllByRecursion P xs → P x
each_has P [] i x within is all = absurd (omega arith)
each_has P (y ∷ ys) zero x within is all = subst P (sym is) all.0
each_has P (y ∷ ys) (suc i) x within is all = each_has P ys i x (omega arith) is all.1

pub all_map : {A : Type 0} (P Q : A → Type 0) → ((x : A) → P x → Q x) → (xs : List A) → AllByRecursion P xs
    → AllByRecursion Q xs
all_map P Q step [] all = tt
all_map P Q step (x ∷ xs) all = (step x all.0, all_map P Q step xs all.1)

pub all_push : {A : Type 0} (P : A → Type 0) (xs : List A) (x : A) → AllByRecursion P xs → P x
    → AllByRecursion P (xs ++ x ∷ [])
all_push P [] x all h = (h, tt)
all_push P (y ∷ ys) x all h = (all.0, all_push P ys x all.1 h)
