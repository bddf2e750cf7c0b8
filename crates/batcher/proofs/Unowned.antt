-- The paths of a transaction that no group owns, and a group that gains them.
use Rattle.std.proofs.Common.{◌≡◌, ℕ, ◌+◌, List, [], ◌∷◌, ◌++◌, Bool, true, false, cond, ◌||◌, ◌&&◌, Option, Some, None, is_none, refl, sym, ap, ◌∙◌, subst, drop, append_assoc}
use Rattle.std.specs.Ordering.{eq_by_cmp}
use Rattle.std.proofs.lemmas.Map.Views.{any-filter_same, tells_apart}
use Rattle.std.proofs.lemmas.Map.Lookups.{exact_bytes}
use Rattle.ephemerals.specs.Orders.{Bytes, path_cmp}
use Rattle.txn_codec.specs.declared.txn.Txn.{Txn}
use Rattle.data_tree.specs.Footprint.{has_path, footprint}
use Rattle.data_tree.specs.Commuting.{GroupedTxn}
use Rattle.batcher.specs.declared.met.Met.{Met}
use Rattle.batcher.specs.Groups.{group_with, group_for, paths_in}
use Rattle.batcher.specs.Inner.Joining.{unowned_paths, met_with, all_met}
use Rattle.batcher.proofs.Steps.{IsNext}
use Rattle.batcher.proofs.Owning.{same, none, or_else, group_with-behind, met_or_new}
use Rattle.batcher.proofs.Members.{paths_here, paths_there}

-- ---- the paths that no group owns

pub has_unowned : (owner : Bytes → Option ℕ) (paths : List Bytes) (q : Bytes)
    → has_path (unowned_paths owner paths) q ≡ (is_none (owner q) && has_path paths q)
has_unowned owner paths q =
    any-filter_same (eq_by_cmp path_cmp q) (λ p. is_none (owner p)) (is_none (owner q))
    (λ p e. ap (λ x. is_none (owner x)) (sym (tells_apart exact_bytes q p e))) paths

-- A path that a group owns is one of its transactions'.
in_its_group : (ts : List GroupedTxn) (q : Bytes) (k : ℕ) → group_with ts q ≡ Some k
    → has_path (paths_in k ts) q ≡ true
in_its_group [] q k is = absurd (none k (sym is))
in_its_group (t ∷ ts) q k is = by (λ e. in_its_group ts q k e) (has_path (footprint t.1) q) refl is
  where
    by : (group_with ts q ≡ Some k → has_path (paths_in k ts) q ≡ true) → (b : Bool)
        → has_path (footprint t.1) q ≡ b
        → cond b (Some t.0) (group_with ts q) ≡ Some k → has_path (paths_in k (t ∷ ts)) q ≡ true
    by rest true h is = subst (λ j. has_path (paths_in j (t ∷ ts)) q ≡ true) (same is) (paths_here t ts q h)
    by rest false h is = paths_there k t ts q (rest is)

-- The group has a transaction's other paths already.
pub others_are_there : (before : List GroupedTxn) (paths : List Bytes) (k : ℕ) → group_for before paths ≡ Some k
    → (q : Bytes)
    → (has_path (paths_in k before) q || has_path (unowned_paths (group_with before) paths) q)
    ≡ (has_path (paths_in k before) q || has_path paths q)
others_are_there before paths k is q =
    ap (λ b. has_path (paths_in k before) q || b) (has_unowned (group_with before) paths q)
    ∙ by (group_with before q) refl (has_path paths q) refl
  where
    by : (o : Option ℕ) → group_with before q ≡ o → (b : Bool) → has_path paths q ≡ b
        → (has_path (paths_in k before) q || (is_none o && b)) ≡ (has_path (paths_in k before) q || b)
    by None e b h = refl
    by (Some j) e false h = refl
    by (Some j) e true h =
        let there = in_its_group before q k
        (e ∙ ap (λ o. or_else o (Some k)) (sym e) ∙ met_or_new before paths k is q h) in
        ap (λ x. x || false) there ∙ sym (ap (λ x. x || true) there)

pub owner_now : (before : List GroupedTxn) (k : ℕ) (t : Txn) (q : Bytes)
    → cond (has_path (unowned_paths (group_with before) (footprint t)) q) (Some k) (group_with before q)
    ≡ group_with (before ++ (k, t) ∷ []) q
owner_now before k t q =
    ap (λ b. cond b (Some k) (group_with before q)) (has_unowned (group_with before) (footprint t) q)
    ∙ by (group_with before q) (has_path (footprint t) q)
    ∙ sym (group_with-behind before (k, t) q)
  where
    by : (o : Option ℕ) (b : Bool) → cond (is_none o && b) (Some k) o ≡ or_else o (cond b (Some k) None)
    by None true = refl
    by None false = refl
    by (Some j) b = refl

-- ---- the paths of a transaction, one after the other

module _ (owner : Bytes → Option ℕ) (paths : List Bytes) (i : ℕ) (p : Bytes) (next : IsNext paths i p) where
  pub met_next : (old new all : Met) → new ≡ met_with old (owner p) → all_met owner old (drop i paths) ≡ all
      → all_met owner new (drop (i + 1) paths) ≡ all
  met_next old new all is before =
      ap (λ m. all_met owner m (drop (i + 1) paths)) is ∙ sym (ap (all_met owner old) next) ∙ before

  pub unowned_next : (old new all : List Bytes) → new ≡ old ++ unowned_paths owner (p ∷ [])
      → old ++ unowned_paths owner (drop i paths) ≡ all
      → new ++ unowned_paths owner (drop (i + 1) paths) ≡ all
  unowned_next old new all is before =
      ap (λ l. l ++ rest) is
      ∙ append_assoc old (unowned_paths owner (p ∷ [])) rest
      ∙ ap (λ l. old ++ l) (by (is_none (owner p)))
      ∙ sym (ap (λ ps. old ++ unowned_paths owner ps) next)
      ∙ before
    where
      rest : List Bytes
      rest = unowned_paths owner (drop (i + 1) paths)

      by : (b : Bool) → cond b (p ∷ []) [] ++ rest ≡ cond b (p ∷ rest) rest
      by true = refl
      by false = refl
