-- The groups of a batch as they are stored, and the groups that these represent.
use Rattle.std.specs.Prelude.{ℕ, ◌+◌, ◌≤◌, List, [], ◌∷◌, length, drop, refl}
use Rattle.std.specs.Coded.{Coded, code_by, coded×, coded_list}
use Rattle.txn_codec.specs.declared.txn.Txn.{Txn}
use Rattle.data_tree.specs.State.{State}
use Rattle.data_tree.specs.declared.outcome.Outcome.{Outcome}
use Rattle.batcher.specs.Class.{TxnGroup}
use Rattle.apply_workers.specs.Places.{at_places}
use Rattle.apply_workers.specs.Schedule.{GroupState}
use Rattle.apply_workers.specs.declared.holder.Holder.{Holder}
use Rattle.apply_workers.specs.declared.holder.Holder.TheVariants.{Waiting}

-- A group's holder, its cells, and the outcomes of the transactions applied so far.
pub record GroupProgress : Type 0 where
  pub holder : Holder
  pub cells : State
  pub outcomes : List Outcome

-- No worker has claimed it, and no transaction was applied.
abbrev pub unclaimed_group : State → GroupProgress
unclaimed_group cells = record { holder = Waiting; cells = cells; outcomes = [] }

-- Group k of the transactions, with this class. As many of its transactions are applied as there are outcomes.
abbrev pub group_state_of : List Txn → ℕ → TxnGroup → GroupProgress → GroupState
group_state_of txns k class hand = record {
  number = k;
  holder = hand.holder;
  paths = class.paths;
  cells = hand.cells;
  left = at_places txns (drop (length hand.outcomes) class.members);
  outcomes = hand.outcomes;
}

-- The groups from number k on.
abbrev pub group_states_from : List Txn → ℕ → List TxnGroup → List GroupProgress → List GroupState
group_states_from txns k [] hands = []
group_states_from txns k (c ∷ cs) [] = []
group_states_from txns k (c ∷ cs) (h ∷ hs) = group_state_of txns k c h ∷ group_states_from txns (k + 1) cs hs

-- Each class has a stored group, with no more outcomes than members.
abbrev pub AreWithinGroups : List TxnGroup → List GroupProgress → Type 0
AreWithinGroups [] [] = Unit {0}
AreWithinGroups [] (h ∷ hs) = ⊥
AreWithinGroups (c ∷ cs) [] = ⊥
AreWithinGroups (c ∷ cs) (h ∷ hs) = (length h.outcomes ≤ length c.members) × AreWithinGroups cs hs

-- The code by which values are compared.
abbrev pub group_progress_code : Coded Holder → Coded State → Coded Outcome → Coded GroupProgress
group_progress_code holder state outcome =
    code_by (Holder × (State × List Outcome)) (coded× holder (coded× state (coded_list outcome)))
    (λ h. (h.holder, (h.cells, h.outcomes))) (λ p. record { holder = p.0; cells = p.1.0; outcomes = p.1.1 }) (λ _. refl)
