-- A list of paths as a set.
use Rattle.std.proofs.Common.{◌≡◌, ℕ, suc, ◌+◌, ◌<◌, List, [], ◌∷◌, ◌++◌, sym, ap, ◌∙◌, arith, length, take, get_or}
use Rattle.std.proofs.Math.Seq.{take-suc}
use Rattle.std.specs.FinSet as set
use Rattle.std.proofs.lemmas.Map.Lookups.{exact_bytes}
use Rattle.ephemerals.specs.Orders.{Bytes, Names, path_cmp}
use Rattle.ephemerals.proofs.Totals.{path_total}

-- One more path is in the set.
pub one_more : (paths : List Bytes) (i : ℕ) (p : Bytes) → i < length paths → p ≡ get_or paths i p
    → (old new : Names) → old ≡ set.from_list (take i paths) → new ≡ set.insert old p
    → new ≡ set.from_list (take (i + 1) paths)
one_more paths i p within is old new before gained =
    gained
    ∙ ap (λ s. set.insert s p) before
    ∙ sym (set.from_list_push path_total exact_bytes (take i paths) p)
    ∙ ap (λ x. set.from_list {R = path_cmp} (take i paths ++ x ∷ [])) is
    ∙ ap (set.from_list {R = path_cmp}) (sym (take-suc paths i p within))
    ∙ ap (λ n. set.from_list {R = path_cmp} (take n paths)) (next i)
  where
    next : (i : ℕ) → suc i ≡ i + 1
    next i = omega arith
