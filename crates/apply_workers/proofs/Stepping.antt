-- The invariants of a step: the result of the groups when their rest is applied, and that a group has cells at its own
-- paths alone.
use Rattle.std.proofs.Common.{◌≡◌, ℕ, ◌+◌, nat_eq, List, [], ◌∷◌, Bool, true, false, cond, map, refl, sym, ap, ◌∙◌, append_assoc}
use Rattle.std.specs.List.{AllByRecursion, count_by}
use Rattle.std.specs.FinSet as set
use Rattle.std.proofs.lemmas.List.Sums.{sum_by-cons}
use mathlib.Core.Bool.{true≢false}
use Rattle.ephemerals.specs.Orders.{Bytes, Names}
use Rattle.txn_codec.specs.declared.txn.Txn.{Txn}
use Rattle.data_tree.specs.State.{State}
use Rattle.data_tree.specs.Meaning.{answer_of}
use Rattle.data_tree.specs.Footprint.{has_path, footprint, KeepsToCells, IsSameCell}
use Rattle.data_tree.specs.Cells.{effect_in_cells, outcomes_in_cells, IsEmptyCell}
use Rattle.data_tree.specs.Commuting.{TransactionsKeepToTheirFootprints}
use Rattle.apply_workers.specs.declared.step.Step.{Step}
use Rattle.apply_workers.specs.declared.step.Step.TheVariants.{Claim, Do, Give}
use Rattle.apply_workers.specs.declared.holder.Holder.TheVariants.{Held, Home}
use Rattle.apply_workers.specs.Schedule.{GroupState, Progress, can_be_taken, has_work, is_finished_by, claimed_by, with_next_done, done_by, given_by, progress_after, try_step, run_steps, with_rest_done}

-- ---- the result of a group

claimed_same : (worker next : ℕ) (g : GroupState) → with_rest_done (claimed_by worker next g) ≡ with_rest_done g
claimed_same worker next g = by (nat_eq g.number next)
  where
    by : (b : Bool) → with_rest_done (cond b (record g { holder = Held worker }) g) ≡ with_rest_done g
    by true = refl
    by false = refl

next_same : (g : GroupState) → with_rest_done (with_next_done g g.left) ≡ with_rest_done g
next_same g = by g.left
  where
    by : (left : List Txn)
        → with_rest_done (with_next_done (record g { left = left }) left) ≡ with_rest_done (record g { left = left })
    by [] = refl
    by (t ∷ ts) =
        let meant = effect_in_cells g.cells t in
        λ i. record (with_rest_done (record g { left = t ∷ ts }))
        { outcomes = append_assoc g.outcomes (answer_of meant ∷ []) (outcomes_in_cells meant.state ts) i }

done_same : (worker : ℕ) (g : GroupState) → with_rest_done (done_by worker g) ≡ with_rest_done g
done_same worker g = by (has_work worker g)
  where
    by : (b : Bool) → with_rest_done (cond b (with_next_done g g.left) g) ≡ with_rest_done g
    by true = next_same g
    by false = refl

given_same : (worker : ℕ) (g : GroupState) → with_rest_done (given_by worker g) ≡ with_rest_done g
given_same worker g = by (is_finished_by worker g)
  where
    by : (b : Bool) → with_rest_done (cond b (record g { holder = Home }) g) ≡ with_rest_done g
    by true = refl
    by false = refl

all_same : (change : GroupState → GroupState) → ((g : GroupState) → with_rest_done (change g) ≡ with_rest_done g)
    → (groups : List GroupState) → map with_rest_done (map change groups) ≡ map with_rest_done groups
all_same change same [] = refl
all_same change same (g ∷ gs) = λ i. same g i ∷ all_same change same gs i

taken_same : (p : Progress) (s : Step) → map with_rest_done (progress_after p s).groups ≡ map with_rest_done p.groups
taken_same p (Claim worker) = all_same (claimed_by worker p.next) (claimed_same worker p.next) p.groups
taken_same p (Do worker) = all_same (done_by worker) (done_same worker) p.groups
taken_same p (Give worker) = all_same (given_by worker) (given_same worker) p.groups

step_same : (p : Progress) (s : Step) → map with_rest_done (try_step p s).groups ≡ map with_rest_done p.groups
step_same p s = by (can_be_taken p s)
  where
    by : (b : Bool) → map with_rest_done (cond b (progress_after p s) p).groups ≡ map with_rest_done p.groups
    by true = taken_same p s
    by false = refl

pub run_same : (p : Progress) (steps : List Step)
    → map with_rest_done (run_steps p steps).groups ≡ map with_rest_done p.groups
run_same p [] = refl
run_same p (s ∷ ss) = run_same (try_step p s) ss ∙ step_same p s

-- 1 for a group that has the path.
abbrev share : Bytes → GroupState → ℕ
share path g = cond (set.contains g.paths path) 1 0

pub count_finished : (path : Bytes) (groups : List GroupState)
    → count_by (λ (g : GroupState). set.contains g.paths path) (map with_rest_done groups)
    ≡ count_by (λ (g : GroupState). set.contains g.paths path) groups
count_finished path [] = refl
count_finished path (g ∷ gs) =
    sum_by-cons (share path) (with_rest_done g) (map with_rest_done gs)
    ∙ ap (λ n. share path g + n) (count_finished path gs)
    ∙ sym (sum_by-cons (share path) g gs)

-- ---- the cells of a group

-- The transactions left touch the group's own paths alone.
abbrev pub IsLeft : Names → Txn → Type 0
IsLeft paths t = KeepsToCells t × ((q : Bytes) → has_path (footprint t) q ≡ true → set.contains paths q ≡ true)

pub record IsApart (g : GroupState) : Type 0 where
  pub left : AllByRecursion (IsLeft g.paths) g.left
  pub cells : (q : Bytes) → set.contains g.paths q ≡ false → IsEmptyCell g.cells q

pub same_empty : {s t : State} {q : Bytes} → IsSameCell s t q → IsEmptyCell t q → IsEmptyCell s q
same_empty e empty = record { node = e.node ∙ empty.node; owners = λ w. e.owners w ∙ empty.owners w }

outside : (ps : List Bytes) (paths : Names) → ((q : Bytes) → has_path ps q ≡ true → set.contains paths q ≡ true)
    → (q : Bytes) → set.contains paths q ≡ false → (b : Bool) → has_path ps q ≡ b → has_path ps q ≡ false
outside ps paths sub q out true e = absurd (true≢false (sym (sub q e) ∙ out))
outside ps paths sub q out false e = e

claimed_apart : (worker next : ℕ) (g : GroupState) → IsApart g → IsApart (claimed_by worker next g)
claimed_apart worker next g apart = by (nat_eq g.number next)
  where
    by : (b : Bool) → IsApart (cond b (record g { holder = Held worker }) g)
    by true = record { left = apart.left; cells = apart.cells }
    by false = apart

next_apart : TransactionsKeepToTheirFootprints → (g : GroupState) → IsApart g → IsApart (with_next_done g g.left)
next_apart keep g apart = by g.left apart.left
  where
    by : (left : List Txn) → AllByRecursion (IsLeft g.paths) left
        → IsApart (with_next_done (record g { left = left }) left)
    by [] all = record { left = tt; cells = apart.cells }
    by (t ∷ ts) all = record {
      left = all.1;
      cells = λ q out.
          let cell = (keep t all.0.0).state.frame g.cells q (outside (footprint t) g.paths all.0.1 q out _ refl) in
          same_empty (record { node = cell.node; owners = cell.owners }) (apart.cells q out);
    }

done_apart : TransactionsKeepToTheirFootprints → (worker : ℕ) (g : GroupState) → IsApart g
    → IsApart (done_by worker g)
done_apart keep worker g apart = by (has_work worker g)
  where
    by : (b : Bool) → IsApart (cond b (with_next_done g g.left) g)
    by true = next_apart keep g apart
    by false = apart

given_apart : (worker : ℕ) (g : GroupState) → IsApart g → IsApart (given_by worker g)
given_apart worker g apart = by (is_finished_by worker g)
  where
    by : (b : Bool) → IsApart (cond b (record g { holder = Home }) g)
    by true = record { left = apart.left; cells = apart.cells }
    by false = apart

all_apart : (change : GroupState → GroupState) → ((g : GroupState) → IsApart g → IsApart (change g))
    → (groups : List GroupState) → AllByRecursion IsApart groups → AllByRecursion IsApart (map change groups)
all_apart change stay [] all = tt
all_apart change stay (g ∷ gs) all = (stay g all.0, all_apart change stay gs all.1)

taken_apart : TransactionsKeepToTheirFootprints → (p : Progress) (s : Step) → AllByRecursion IsApart p.groups
    → AllByRecursion IsApart (progress_after p s).groups
taken_apart keep p (Claim worker) all =
    all_apart (claimed_by worker p.next) (claimed_apart worker p.next) p.groups all
taken_apart keep p (Do worker) all = all_apart (done_by worker) (done_apart keep worker) p.groups all
taken_apart keep p (Give worker) all = all_apart (given_by worker) (given_apart worker) p.groups all

step_apart : TransactionsKeepToTheirFootprints → (p : Progress) (s : Step) → AllByRecursion IsApart p.groups
    → AllByRecursion IsApart (try_step p s).groups
step_apart keep p s all = by (can_be_taken p s)
  where
    by : (b : Bool) → AllByRecursion IsApart (cond b (progress_after p s) p).groups
    by true = taken_apart keep p s all
    by false = all

pub run_apart : TransactionsKeepToTheirFootprints → (p : Progress) (steps : List Step)
    → AllByRecursion IsApart p.groups → AllByRecursion IsApart (run_steps p steps).groups
run_apart keep p [] all = all
run_apart keep p (s ∷ ss) all = run_apart keep (try_step p s) ss (step_apart keep p s all)
