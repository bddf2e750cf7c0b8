-- Lists of transactions that are applied in parts.
use Rattle.std.proofs.Common.{◌≡◌, List, [], ◌∷◌, ◌++◌, refl, sym, ap, ap₂, ◌∙◌, append_assoc}
use Rattle.txn_codec.specs.declared.txn.Txn.{Txn}
use Rattle.data_tree.specs.State.{State}
use Rattle.data_tree.specs.Meaning.{effect_of_txn, answer_of, state_after, outcomes_of_txns}
use Rattle.data_tree.specs.declared.outcome.Outcome.{Outcome}

pub state_after-append : (s : State) (front rest : List Txn)
    → state_after s (front ++ rest) ≡ state_after (state_after s front) rest
state_after-append s [] rest = refl
state_after-append s (t ∷ ts) rest = state_after-append (effect_of_txn s t).state ts rest

pub outcomes-append : (s : State) (front rest : List Txn)
    → outcomes_of_txns s (front ++ rest) ≡ outcomes_of_txns s front ++ outcomes_of_txns (state_after s front) rest
outcomes-append s [] rest = refl
outcomes-append s (t ∷ ts) rest =
    ap (λ os. answer_of (effect_of_txn s t) ∷ os) (outcomes-append (effect_of_txn s t).state ts rest)

-- What is left to be applied leads from a state and outcomes to those of the whole list.
pub record IsOnTheWay (start : State) (whole : List Txn) (before : List Outcome) (s : State) (rest : List Txn)
    (outcomes : List Outcome) : Type 0 where
  pub tree : state_after s rest ≡ state_after start whole
  pub answers : outcomes ++ outcomes_of_txns s rest ≡ before ++ outcomes_of_txns start whole

-- The next part of the rest was applied.
pub part_applied : (start : State) (whole : List Txn) (before : List Outcome) (s : State) (rest : List Txn)
    (outcomes : List Outcome) (part later : List Txn) (s' : State) (outcomes' : List Outcome)
    → IsOnTheWay start whole before s rest outcomes → rest ≡ part ++ later → s' ≡ state_after s part
    → outcomes' ≡ outcomes ++ outcomes_of_txns s part
    → IsOnTheWay start whole before s' later outcomes'
part_applied start whole before s rest outcomes part later s' outcomes' on split state answered =
    record {
      tree = ap (λ u. state_after u later) state
          ∙ sym (state_after-append s part later)
          ∙ sym (ap (state_after s) split)
          ∙ on.tree;
      answers = ap₂ (λ os u. os ++ outcomes_of_txns u later) answered state
          ∙ append_assoc outcomes (outcomes_of_txns s part) (outcomes_of_txns (state_after s part) later)
          ∙ sym (ap (λ os. outcomes ++ os) (outcomes-append s part later))
          ∙ sym (ap (λ ts. outcomes ++ outcomes_of_txns s ts) split)
          ∙ on.answers;
    }
