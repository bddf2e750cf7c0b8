-- A tree that follows a leader.
use Rattle.std.specs.Prelude.{ℤ, refl}
use Rattle.std.specs.Coded.{Coded, code_by, coded×}
use Rattle.settings.specs.Settings.{EpochPair}
use Rattle.settings.specs.declared.dialect.Dialect.{Dialect}
use Rattle.data_tree.specs.State.{State}
use Rattle.data_tree.specs.Making.{with_session}
use Rattle.data_tree.specs.Meaning.{fresh_state}
use Rattle.learner_sync.specs.Learner.{Learner, new_learner, primed_learner}

pub record Replica : Type 0 where
  -- How far the leader was followed.
  pub learner : Learner
  -- The state that the log starts from.
  pub base : State
  -- The tree that reads show.
  pub tree : State

-- The tree is the base.
abbrev pub replica_at : Learner → State → Replica
replica_at l s = record { learner = l; base = s; tree = s }

-- Before any leader.
abbrev pub new_replica : Dialect → EpochPair → Replica
new_replica dialect epochs = replica_at (new_learner dialect epochs) fresh_state

-- A replica that serves in epoch 1, with one session.
abbrev pub primed_replica : Dialect → ℤ → ℤ → Replica
primed_replica dialect session time_out =
    replica_at (primed_learner dialect) (with_session fresh_state session time_out)

-- ---- code

abbrev pub replica_code : Coded Learner → Coded State → Coded Replica
replica_code learner state =
    code_by (Learner × (State × State)) (coded× learner (coded× state state))
    (λ r. (r.learner, (r.base, r.tree)))
    (λ p. record { learner = p.0; base = p.1.0; tree = p.1.1 }) (λ _. refl)
