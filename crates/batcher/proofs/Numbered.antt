-- The owners of paths, by the paths' numbers.
use Rattle.std.proofs.Common.{◌≡◌, ◌≢◌, ℕ, zero, suc, ◌+◌, ◌<◌, ◌≤◌, nat_eq, List, [], ◌∷◌, ◌++◌, ◌⊎◌, inl, inr, Bool, true, false, cond, Option, Some, None, is_none, refl, sym, ap, ◌∙◌, arith, length, set, get_or}
use Rattle.std.specs.Ordering.{eq_by_cmp}
use Rattle.std.specs.Cmp.{eq_by_cmp_equiv}
use Rattle.std.proofs.lemmas.Bool.{eqb-true}
use Rattle.std.proofs.lemmas.Bool.Decides.{nat_tests}
use Rattle.std.proofs.lemmas.Grind.{get_or-set_at}
use Rattle.std.proofs.Math.Seq.{get_or-set_other}
use Rattle.std.proofs.lemmas.List.{get_or_past, length-append, map-append}
use Rattle.std.proofs.lemmas.Map.Lookups.{exact_bytes}
use Rattle.std.proofs.lemmas.Map.Views.{tells_apart}
use mathlib.Core.Bool.{true≢false}
use Rattle.ephemerals.specs.Orders.{Bytes, path_cmp}
use Rattle.ephemerals.proofs.Totals.{path_total}
use Rattle.names.specs.Names.{number_among, with_new_name, number_or_next}
use Rattle.names.proofs.Numbers.{number_is, one_text, no_growth, growth, kept_or_last, stays}
use Rattle.batcher.specs.declared.met.Met.{Met}
use Rattle.batcher.specs.declared.owners.Owners.{Owners}
use Rattle.batcher.specs.declared.owners.NewPath.{NewPath}
use Rattle.batcher.specs.Inner.Owners.{group_beside, get_by_path, AreBeside, HaveNumbered, paths_of, AreNumbered}
use Rattle.batcher.specs.Inner.Joining.{met_with, unowned_paths}
use Rattle.batcher.proofs.NewPaths.{all_map, all_push}

-- ---- a path that gets a group

pub within_groups : (owners : Owners) (p : Bytes) (n : ℕ) → AreBeside owners → number_among owners.names p ≡ Some n
    → n < length owners.groups.items
within_groups owners p n beside is =
    let within = (number_is owners.names p n is).1 in
    omega (arith, beside)

module _ (old : Owners) (n k : ℕ) (p : Bytes) (beside : AreBeside old) (is : number_among old.names p ≡ Some n) where
  beside_given : (q : Bytes)
      → group_beside (set old.groups.items n (Some k)) (number_among old.names q)
      ≡ cond (eq_by_cmp path_cmp q p) (Some k) (get_by_path old q)
  beside_given q = by (eq_by_cmp path_cmp q p) refl
    where
      other : (m : ℕ) → number_among old.names q ≡ Some m → eq_by_cmp path_cmp q p ≡ false → (b : Bool) → nat_eq m n ≡ b
          → get_or (set old.groups.items n (Some k)) m None ≡ get_or old.groups.items m None
      other m has e true same =
          absurd (true≢false
          (sym ((eq_by_cmp_equiv path_total).refl q)
          ∙ ap (λ r. eq_by_cmp path_cmp q r)
          (one_text old.names q p n (has ∙ ap Some (eqb-true m n same)) is)
          ∙ e))
      other m has e false differ =
          get_or-set_other old.groups.items n m (Some k) None (apart m n differ)
        where
          apart : (m n : ℕ) → nat_eq m n ≡ false → m ≢ n
          apart m n h = grind (arith, nat_tests)

      kept : eq_by_cmp path_cmp q p ≡ false → (o : Option ℕ) → number_among old.names q ≡ o
          → group_beside (set old.groups.items n (Some k)) o ≡ group_beside old.groups.items o
      kept e None has = refl
      kept e (Some m) has = other m has e (nat_eq m n) refl

      by : (b : Bool) → eq_by_cmp path_cmp q p ≡ b
          → group_beside (set old.groups.items n (Some k)) (number_among old.names q)
          ≡ cond b (Some k) (get_by_path old q)
      by true e =
          ap (group_beside (set old.groups.items n (Some k)))
          (ap (number_among old.names) (tells_apart exact_bytes q p e) ∙ is)
          ∙ get_or-set_at old.groups.items n n (Some k) None refl (within_groups old p n beside is)
      by false e = kept e (number_among old.names q) refl

  pub owned_now : (new : Owners) → new.names ≡ old.names → new.groups.items ≡ set old.groups.items n (Some k)
      → (q : Bytes)
      → get_by_path new q ≡ cond (eq_by_cmp path_cmp q p) (Some k) (get_by_path old q)
  owned_now new names groups q = (λ i. group_beside (groups i) (number_among (names i) q)) ∙ beside_given q

-- ---- a path that gets a number

get_none_last : (groups : List (Option ℕ)) (m : ℕ) → get_or (groups ++ None ∷ []) m None ≡ get_or groups m None
get_none_last [] zero = refl
get_none_last [] (suc m) = get_or_past (None ∷ []) (suc m) None (omega arith)
get_none_last (g ∷ gs) zero = refl
get_none_last (g ∷ gs) (suc m) = get_none_last gs m

none_last : (groups : List (Option ℕ)) (o : Option ℕ) → group_beside (groups ++ None ∷ []) o ≡ group_beside groups o
none_last groups None = refl
none_last groups (Some m) = get_none_last groups m

module _ (old new : Owners) (p : Bytes) (beside : AreBeside old) (names : new.names ≡ with_new_name old.names p) where
  numbers_stay : (q : Bytes) (n : ℕ) → number_among old.names q ≡ Some n → number_among new.names q ≡ Some n
  numbers_stay q n is = ap (λ ns. number_among ns q) names ∙ stays old.names p q n is

  pub numbered_before : new.groups.items ≡ old.groups.items → number_or_next old.names p < length old.groups.items
      → HaveNumbered old new
  numbered_before groups within =
      let same = names ∙ no_growth old.names p (omega (arith, beside)) in
      record {
        beside = ap length groups ∙ beside ∙ sym (ap length same);
        numbers = numbers_stay;
        owners = λ q. (λ i. group_beside (groups i) (number_among (same i) q));
      }

  pub numbered_last : new.groups.items ≡ old.groups.items ++ None ∷ []
      → length old.groups.items ≤ number_or_next old.names p
      → HaveNumbered old new
  numbered_last groups past =
      let more = names ∙ growth old.names p (omega (arith, beside)) in
      record {
        beside = ap length groups ∙ length-append old.groups.items (None ∷ [])
            ∙ ap (λ n. n + 1) beside
            ∙ sym (ap length more ∙ length-append old.names (p ∷ []));
        numbers = numbers_stay;
        owners = λ q. (λ i. group_beside (groups i) (number_among (names i) q))
            ∙ none_last old.groups.items (number_among (with_new_name old.names p) q) ∙ by q (kept_or_last old.names p q);
      }
    where
      by : (q : Bytes)
          → (number_among (with_new_name old.names p) q ≡ number_among old.names q)
          ⊎ ((number_among old.names q ≡ None) × (number_among (with_new_name old.names p) q ≡ Some (length old.names)))
          → group_beside old.groups.items (number_among (with_new_name old.names p) q)
          ≡ group_beside old.groups.items (number_among old.names q)
      by q (inl kept) = ap (group_beside old.groups.items) kept
      by q (inr last) =
          ap (group_beside old.groups.items) last.1
          ∙ get_or_past old.groups.items (length old.names) None (omega (arith, beside))
          ∙ sym (ap (group_beside old.groups.items) last.0)

pub all_numbered : (old new : Owners) → HaveNumbered old new → (paths : List NewPath) → AreNumbered old.names paths
    → AreNumbered new.names paths
all_numbered old new kept paths all =
    all_map (λ (u : NewPath). number_among old.names u.path ≡ Some u.number)
    (λ (u : NewPath). number_among new.names u.path ≡ Some u.number)
    (λ u is. kept.numbers u.path u.number is) paths all

pub numbered_push : (names : List Bytes) (paths : List NewPath) (u : NewPath) → AreNumbered names paths
    → number_among names u.path ≡ Some u.number
    → AreNumbered names (paths ++ u ∷ [])
numbered_push names paths u all is =
    all_push (λ (u : NewPath). number_among names u.path ≡ Some u.number) paths u all is

pub numbered_then : (a b c : Owners) → HaveNumbered a b → HaveNumbered b c → HaveNumbered a c
numbered_then a b c first then =
    record {
      beside = then.beside;
      numbers = λ q n is. then.numbers q n (first.numbers q n is);
      owners = λ q. then.owners q ∙ first.owners q;
    }

pub nothing_numbered : (a : Owners) → AreBeside a → HaveNumbered a a
nothing_numbered a beside = record { beside = beside; numbers = λ q n is. is; owners = λ q. refl }

-- ---- the owner of a path that has a number

pub owner_is : (old new : Owners) (p : Bytes) (n : ℕ) (o : Option ℕ) → HaveNumbered old new
    → number_among new.names p ≡ Some n → o ≡ group_beside new.groups.items (Some n)
    → get_by_path old p ≡ o
owner_is old new p n o kept is has =
    sym (kept.owners p) ∙ ap (group_beside new.groups.items) is ∙ sym has

pub met_none : (owner : Bytes → Option ℕ) (met : Met) (p : Bytes) → owner p ≡ None → met ≡ met_with met (owner p)
met_none owner met p e = sym (ap (met_with met) e)

pub unowned_none : (owner : Bytes → Option ℕ) (p : Bytes) → owner p ≡ None → p ∷ [] ≡ unowned_paths owner (p ∷ [])
unowned_none owner p e = sym (ap (λ (o : Option ℕ). cond (is_none o) (p ∷ []) []) e)

pub owned_some : (owner : Bytes → Option ℕ) (p : Bytes) (k : ℕ) → owner p ≡ Some k
    → [] ≡ unowned_paths owner (p ∷ [])
owned_some owner p k e = sym (ap (λ (o : Option ℕ). cond (is_none o) (p ∷ []) []) e)

pub paths_push : (paths : List NewPath) (u : NewPath) → paths_of (paths ++ u ∷ []) ≡ paths_of paths ++ u.path ∷ []
paths_push paths u = map-append (λ (n : NewPath). n.path) paths (u ∷ [])
