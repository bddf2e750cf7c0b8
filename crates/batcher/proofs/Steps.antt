-- Paths and transactions that are taken one after the other.
use Rattle.std.proofs.Common.{◌≡◌, ℕ, zero, suc, ◌+◌, ◌<◌, ◌≤◌, List, [], ◌∷◌, ◌++◌, Bool, true, false, cond, ◌||◌, Option, Some, refl, sym, ap, ◌∙◌, arith, length, drop, take, get_or}
use Rattle.std.proofs.Math.Seq.{drop-cons, take-suc}
use Rattle.std.proofs.Math.ListN.{drop_of_length-le}
use Rattle.std.proofs.Math.Bool.{or_comm}
use Rattle.std.specs.Ordering.{eq_by_cmp}
use Rattle.std.specs.FinSet as set
use Rattle.std.proofs.lemmas.List.Folds.{list_any-append}
use Rattle.std.proofs.lemmas.Map.Lookups.{exact_bytes}
use Rattle.ephemerals.specs.Orders.{Bytes, Names, path_cmp}
use Rattle.ephemerals.proofs.Totals.{path_total}
use Rattle.data_tree.specs.Footprint.{has_path}

-- The next element, and those after it.
abbrev pub IsNext : {A : Type 0} → List A → ℕ → A → Type 0
IsNext xs i x = drop i xs ≡ x ∷ drop (i + 1) xs

pub next_at : {A : Type 0} (xs : List A) (i : ℕ) (d : A) → i < length xs → IsNext xs i (get_or xs i d)
next_at xs i d within = drop-cons xs i d within ∙ ap (λ n. get_or xs i d ∷ drop n xs) (more i)
  where
    more : (i : ℕ) → suc i ≡ i + 1
    more i = omega arith

pub next_is : {A : Type 0} (xs : List A) (i : ℕ) (x : A) → i < length xs → x ≡ get_or xs i x → IsNext xs i x
next_is xs i x within is = next_at xs i x within ∙ (λ j. sym is j ∷ drop (i + 1) xs)

one_less : (a b c : Bool) → ((a || b) || c) ≡ (b || (a || c))
one_less true true c = refl
one_less true false c = refl
one_less false b c = refl

pub gained_step : (paths : List Bytes) (i : ℕ) (p : Bytes) → IsNext paths i p → (old new : Names)
    → new ≡ set.insert old p → (q : Bytes) (all : Bool) → (has_path (drop i paths) q || set.contains old q) ≡ all
    → (has_path (drop (i + 1) paths) q || set.contains new q) ≡ all
gained_step paths i p next old new is q all before =
    ap (λ b. has_path (drop (i + 1) paths) q || b)
    (ap (λ s. set.contains s q) is ∙ set.contains-insert path_total old p q)
    ∙ sym (one_less (eq_by_cmp path_cmp q p) (has_path (drop (i + 1) paths) q) (set.contains old q))
    ∙ sym (ap (λ ps. has_path ps q || set.contains old q) next)
    ∙ before

pub gained_all : (paths : List Bytes) (i : ℕ) → length paths ≤ i → (old new : Names)
    → ((q : Bytes) → (has_path (drop i paths) q || set.contains new q) ≡ (has_path paths q || set.contains old q))
    → new ≡ set.union old (set.from_list paths)
gained_all paths i past old new gained = set.same_set path_total exact_bytes _ _ (λ q.
    sym (ap (λ ps. has_path ps q || set.contains new q) (drop_of_length-le paths past))
    ∙ gained q
    ∙ or_comm (has_path paths q) (set.contains old q)
    ∙ ap (λ b. set.contains old q || b) (sym (set.contains-from_list path_total paths q))
    ∙ sym (set.contains-union path_total old (set.from_list paths) q))

-- The first n of these paths are the group's, and all other owners stay.
abbrev pub IsOwned : (Bytes → Option ℕ) → (Bytes → Option ℕ) → ℕ → List Bytes → ℕ → Type 0
IsOwned old now k paths n = (q : Bytes) → now q ≡ cond (has_path (take n paths) q) (Some k) (old q)

module _ (paths : List Bytes) (i : ℕ) (p : Bytes) (within : i < length paths) (is : p ≡ get_or paths i p) where
  one_more : (q : Bytes) → has_path (take (i + 1) paths) q ≡ (has_path (take i paths) q || eq_by_cmp path_cmp q p)
  one_more q =
      ap (λ n. has_path (take n paths) q) (more i)
      ∙ ap (λ ps. has_path ps q) (take-suc paths i p within)
      ∙ ap (λ x. has_path (take i paths ++ x ∷ []) q) (sym is)
      ∙ list_any-append (eq_by_cmp path_cmp q) (take i paths) (p ∷ [])
      ∙ ap (λ b. has_path (take i paths) q || b) (or_false (eq_by_cmp path_cmp q p))
    where
      more : (i : ℕ) → i + 1 ≡ suc i
      more i = omega arith

      or_false : (b : Bool) → (b || false) ≡ b
      or_false true = refl
      or_false false = refl

  pub owned_next : (old m n : Bytes → Option ℕ) (k : ℕ) → IsOwned old m k paths i
      → ((q : Bytes) → n q ≡ cond (eq_by_cmp path_cmp q p) (Some k) (m q)) → IsOwned old n k paths (i + 1)
  owned_next old m n k before is q =
      is q
      ∙ ap (cond (eq_by_cmp path_cmp q p) (Some k)) (before q)
      ∙ both (eq_by_cmp path_cmp q p) (has_path (take i paths) q)
      ∙ ap (λ b. cond b (Some k) (old q)) (sym (one_more q))
    where
      both : (e t : Bool) → cond e (Some k) (cond t (Some k) (old q)) ≡ cond (t || e) (Some k) (old q)
      both true true = refl
      both true false = refl
      both false true = refl
      both false false = refl

take_all : (paths : List Bytes) (n : ℕ) → length paths ≤ n → take n paths ≡ paths
take_all [] zero past = refl
take_all [] (suc n) past = refl
take_all (p ∷ ps) zero past = absurd (omega arith)
take_all (p ∷ ps) (suc n) past = ap (λ r. p ∷ r) (take_all ps n (omega arith))

pub owned_all : (old m : Bytes → Option ℕ) (k : ℕ) (paths : List Bytes) (n : ℕ) → length paths ≤ n
    → IsOwned old m k paths n → (q : Bytes) → m q ≡ cond (has_path paths q) (Some k) (old q)
owned_all old m k paths n past before q =
    before q ∙ ap (λ ps. cond (has_path ps q) (Some k) (old q)) (take_all paths n past)
