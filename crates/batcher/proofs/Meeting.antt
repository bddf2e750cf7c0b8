-- The group that is met.
use Rattle.std.proofs.Common.{◌≡◌, ℕ, ◌+◌, ◌<◌, ◌≤◌, max, nat_eq, List, [], ◌∷◌, Bool, true, false, cond, ◌&&◌, ◌||◌, Option, Some, None, refl, sym, ap, ◌∙◌, arith}
use Rattle.std.specs.List.{cons_option, filter_map, list_any, list_all}
use Rattle.std.specs.Ordering.{eq_by_cmp}
use Rattle.std.specs.Cmp.{eq_by_cmp_equiv}
use Rattle.std.proofs.lemmas.Bool.{eqb-true, eq-eqb}
use mathlib.Core.Bool.{true≢false}
use Rattle.ephemerals.specs.Orders.{Bytes, path_cmp}
use Rattle.ephemerals.proofs.Totals.{path_total}
use Rattle.data_tree.specs.Footprint.{has_path, footprint}
use Rattle.data_tree.specs.Commuting.{GroupedTxn}
use Rattle.batcher.specs.declared.met.Met.TheVariants.{Nothing, Group, Several}
use Rattle.batcher.specs.Groups.{group_with, group_count, only_group, group_for}
use Rattle.batcher.specs.Inner.Joining.{met_with, all_met, met_group}
use Rattle.batcher.proofs.Owning.{same, none}

-- ---- the groups that are met path by path

several : (new : ℕ) (owner : Bytes → Option ℕ) (ps : List Bytes) → met_group new (all_met owner Several ps) ≡ None
several new owner [] = refl
several new owner (p ∷ ps) = by (owner p) (several new owner ps)
  where
    by : (o : Option ℕ) → met_group new (all_met owner Several ps) ≡ None
        → met_group new (all_met owner (met_with Several o) ps) ≡ None
    by None rest = rest
    by (Some k) rest = rest

met_more : (new : ℕ) (owner : Bytes → Option ℕ) (k : ℕ) (ps : List Bytes)
    → met_group new (all_met owner (Group k) ps) ≡ cond (list_all (λ j. nat_eq j k) (filter_map owner ps)) (Some k) None
met_more new owner k [] = refl
met_more new owner k (p ∷ ps) = by (owner p) (met_more new owner k ps)
  where
    known : (j : ℕ) (b : Bool)
        → met_group new (all_met owner (Group k) ps)
        ≡ cond (list_all (λ i. nat_eq i k) (filter_map owner ps)) (Some k) None
        → met_group new (all_met owner (cond b (Group k) Several) ps)
        ≡ cond (b && list_all (λ i. nat_eq i k) (filter_map owner ps)) (Some k) None
    known j true rest = rest
    known j false rest = several new owner ps

    by : (o : Option ℕ)
        → met_group new (all_met owner (Group k) ps)
        ≡ cond (list_all (λ j. nat_eq j k) (filter_map owner ps)) (Some k) None
        → met_group new (all_met owner (met_with (Group k) o) ps)
        ≡ cond (list_all (λ j. nat_eq j k) (cons_option o (filter_map owner ps))) (Some k) None
    by None rest = rest
    by (Some j) rest = known j (nat_eq j k) rest

met_first : (new : ℕ) (owner : Bytes → Option ℕ) (ps : List Bytes)
    → met_group new (all_met owner Nothing ps) ≡ only_group new (filter_map owner ps)
met_first new owner [] = refl
met_first new owner (p ∷ ps) = by (owner p) (met_first new owner ps)
  where
    by : (o : Option ℕ) → met_group new (all_met owner Nothing ps) ≡ only_group new (filter_map owner ps)
        → met_group new (all_met owner (met_with Nothing o) ps) ≡ only_group new (cons_option o (filter_map owner ps))
    by None rest = rest
    by (Some k) rest = met_more new owner k ps

pub met_is : (before : List GroupedTxn) (owner : Bytes → Option ℕ)
    → ((path : Bytes) → owner path ≡ group_with before path)
    → (p : Bytes) (ps : List Bytes)
    → met_group (group_count before) (all_met owner Nothing (p ∷ ps)) ≡ group_for before (p ∷ ps)
met_is before owner is p ps =
    ap (λ (f : Bytes → Option ℕ). met_group (group_count before) (all_met f Nothing (p ∷ ps))) (λ i path. is path i)
    ∙ met_first (group_count before) (group_with before) (p ∷ ps)

-- ---- the same paths meet the same group

abbrev is_one : ℕ → List ℕ → Bool
is_one j ks = list_any (λ i. nat_eq i j) ks

-- A path that the group has.
record Has (owner : Bytes → Option ℕ) (j : ℕ) (ps : List Bytes) : Type 0 where
  path : Bytes
  there : has_path ps path ≡ true
  own : owner path ≡ Some j

reflexive : (p : Bytes) → eq_by_cmp path_cmp p p ≡ true
reflexive p = (eq_by_cmp_equiv path_total).refl p

pub or_true : (b : Bool) → (b || true) ≡ true
or_true true = refl
or_true false = refl

met_from : (owner : Bytes → Option ℕ) (j : ℕ) (ps : List Bytes) → is_one j (filter_map owner ps) ≡ true → Has owner j ps
met_from owner j [] h = absurd (true≢false (sym h))
met_from owner j (p ∷ ps) h = by (met_from owner j ps) (owner p) refl h
  where
    later : Has owner j ps → Has owner j (p ∷ ps)
    later has =
        record {
          path = has.path;
          there = ap (λ b. eq_by_cmp path_cmp has.path p || b) has.there ∙ or_true (eq_by_cmp path_cmp has.path p);
          own = has.own;
        }

    here : (is_one j (filter_map owner ps) ≡ true → Has owner j ps) → (k : ℕ) → owner p ≡ Some k → (b : Bool)
        → nat_eq k j ≡ b → (b || is_one j (filter_map owner ps)) ≡ true → Has owner j (p ∷ ps)
    here rest k e true eq h =
        record {
          path = p;
          there = ap (λ b. b || has_path ps p) (reflexive p);
          own = e ∙ ap Some (eqb-true k j eq);
        }
    here rest k e false eq h = later (rest h)

    by : (is_one j (filter_map owner ps) ≡ true → Has owner j ps) → (o : Option ℕ) → owner p ≡ o
        → is_one j (cons_option o (filter_map owner ps)) ≡ true → Has owner j (p ∷ ps)
    by rest None e h = later (rest h)
    by rest (Some k) e h = here rest k e (nat_eq k j) refl h

-- ---- a group that is met was opened

group_with-below : (before : List GroupedTxn) (p : Bytes) (k : ℕ) → group_with before p ≡ Some k
    → k < group_count before
group_with-below [] p k is = absurd (none k (sym is))
group_with-below (t ∷ ts) p k is = by (λ e. group_with-below ts p k e) (has_path (footprint t.1) p) is
  where
    by : (group_with ts p ≡ Some k → k < group_count ts) → (b : Bool) → cond b (Some t.0) (group_with ts p) ≡ Some k
        → k < max (t.0 + 1) (group_count ts)
    by rest true is = let e = same is in omega arith
    by rest false is = let below = rest is in omega arith

pub group_for-below : (before : List GroupedTxn) (ps : List Bytes) (k : ℕ) → group_for before ps ≡ Some k
    → k ≤ group_count before
group_for-below before [] k is = let e = same is in omega arith
group_for-below before (p ∷ ps) k is = by (filter_map (group_with before) (p ∷ ps)) refl is
  where
    only_first : (j : ℕ) (b : Bool) → cond b (Some j) None ≡ Some k → j ≡ k
    only_first j true is = same is
    only_first j false is = absurd (none k (sym is))

    by : (ks : List ℕ) → filter_map (group_with before) (p ∷ ps) ≡ ks → only_group (group_count before) ks ≡ Some k
        → k ≤ group_count before
    by [] e is = let new = same is in omega arith
    by (j ∷ js) e is =
        let has = met_from (group_with before) j (p ∷ ps)
        (ap (is_one j) e ∙ ap (λ b. b || is_one j js) (eq-eqb j j refl)) in
        let below = group_with-below before has.path j has.own in
        let first = only_first j (list_all (λ i. nat_eq i j) js) is in
        omega arith
