-- A pair that was added and is removed again, and the changes of pairs.
use Rattle.std.proofs.Common.{◌≡◌, ℤ, pos, [], ◌∷◌, Bool, true, false, not, ◌&&◌, refl, sym, if◌then◌else◌}
use mathlib.Core.Bool.{true≢false}
use Rattle.std.specs.Ordering.{int_eq}
use Rattle.std.specs.FinSet as set
use Rattle.ephemerals.specs.Orders.{Bytes, OwnerPairs}
use Rattle.ephemerals.specs.Pairs.{with_pair, without_pair}
use Rattle.data_tree.specs.State.{State}
use Rattle.data_tree.specs.Meaning.{after_changes, lost_pair}
use Rattle.data_tree.specs.Meaning.Change.{Disown}
use Rattle.ephemerals.proofs.Totals.{pair_total, pair_exact}
use Rattle.values.proofs.SetSteps.{remove-insert, insert-present}

pub undo_owned : (s : OwnerPairs) (owner : ℤ) (path : Bytes)
    → (not (int_eq owner (pos 0)) && not (set.contains s (owner, path))) ≡ true
    → without_pair (with_pair s owner path) owner path ≡ s
undo_owned s owner path = by (int_eq owner (pos 0)) (set.contains s (owner, path)) refl
  where
    by : (a b : Bool) → set.contains s (owner, path) ≡ b → (not a && not b) ≡ true
        → (if a then (if a then s else set.insert s (owner, path))
        else set.remove (if a then s else set.insert s (owner, path)) (owner, path)) ≡ s
    by true b e h = absurd (true≢false (sym h))
    by false true e h = absurd (true≢false (sym h))
    by false false e h = remove-insert pair_total pair_exact s (owner, path) e

pub kept_owned : (s : OwnerPairs) (owner : ℤ) (path : Bytes)
    → (not (int_eq owner (pos 0)) && not (set.contains s (owner, path))) ≡ false → with_pair s owner path ≡ s
kept_owned s owner path = by (int_eq owner (pos 0)) (set.contains s (owner, path)) refl
  where
    by : (a b : Bool) → set.contains s (owner, path) ≡ b → (not a && not b) ≡ false
        → (if a then s else set.insert s (owner, path)) ≡ s
    by true b e h = refl
    by false true e h = sym (insert-present pair_total pair_exact s (owner, path) e)
    by false false e h = absurd (true≢false h)

pub after_changes-lost_pair : (s : State) (owner : ℤ) (path : Bytes)
    → after_changes s (lost_pair owner path)
    ≡ record { nodes = s.nodes; pairs = without_pair s.pairs owner path; sessions = s.sessions }
after_changes-lost_pair s owner path = by (int_eq owner (pos 0))
  where
    by : (b : Bool)
        → after_changes s (if b then [] else Disown owner path ∷ [])
        ≡ record {
          nodes = s.nodes;
          pairs = if b then s.pairs else set.remove s.pairs (owner, path);
          sessions =
              s.sessions;
        }
    by true = refl
    by false = refl
