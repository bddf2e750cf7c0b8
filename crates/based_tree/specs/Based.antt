-- A tree, and the base that it came from.
use Rattle.std.specs.Prelude.{◌≡◌, List, Result, OnOk, IfOk, Vec, refl}
use Rattle.std.specs.Coded.{Coded, code_by, coded×}
use Rattle.std.specs.declared.alloc.Global.{Global}
use Rattle.std.specs.Borrow.{Bor, MutBor}
use Rattle.values.specs.declared.fault.NoMemory.{NoMemory}
use Rattle.txn_codec.specs.declared.txn.Txn.{Txn}
use Rattle.data_tree.specs.State.{State}
use Rattle.data_tree.specs.Meaning.{state_after, outcomes_of_txns}
use Rattle.data_tree.specs.declared.outcome.Outcome.{Outcome}

pub record BasedTree : Type 0 where
  -- The state that the log starts from.
  pub base : State
  -- The state that reads show.
  pub tree : State

-- The tree is the base.
abbrev pub at_base : State → BasedTree
at_base s = record { base = s; tree = s }

-- The contract of a closure that applies transactions to a tree, one after the other: it may be called with every tree
-- and every list.
pub record AppliesTxns (pre : MutBor State → Bor (List Txn) → Type 0)
    (post : MutBor State → Bor (List Txn) → Result (Vec Outcome Global) NoMemory → MutBor State → Type 0) : Type 0 where
  pub may : (tree : MutBor State) (txns : Bor (List Txn)) → pre tree txns
  pub tree : (tree : MutBor State) (txns : Bor (List Txn)) (r : Result (Vec Outcome Global) NoMemory)
      (left : MutBor State)
      → post tree txns r left → OnOk r (left.now ≡ state_after tree.now txns.now)
  pub outcomes : (tree : MutBor State) (txns : Bor (List Txn)) (r : Result (Vec Outcome Global) NoMemory)
      (left : MutBor State)
      → post tree txns r left → IfOk r (λ v. v.items ≡ outcomes_of_txns tree.now txns.now)

-- ---- code

abbrev pub based_code : Coded State → Coded BasedTree
based_code state =
    code_by (State × State) (coded× state state) (λ b. (b.base, b.tree))
    (λ p. record { base = p.0; tree = p.1 }) (λ _. refl)
