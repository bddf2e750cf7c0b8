-- A batch that is being applied, one step at a time.
use Rattle.std.specs.Prelude.{ℕ, List, refl}
use Rattle.std.specs.Coded.{Coded, code_by, coded×, coded_ℕ, coded_list}
use Rattle.std.specs.FinSet as set
use Rattle.ephemerals.specs.Orders.{Names, path_cmp}
use Rattle.txn_codec.specs.declared.txn.Txn.{Txn}
use Rattle.data_tree.specs.State.{State}
use Rattle.data_tree.specs.declared.outcome.Outcome.{Outcome}
use Rattle.apply_workers.specs.declared.holder.Holder.{Holder}
use Rattle.apply_workers.specs.Schedule.{GroupState, Progress, initial_progress}

-- Its transactions, and the progress of its groups.
pub record BatchProgress : Type 0 where
  pub batch : List Txn
  pub progress : Progress

-- No step was taken yet.
abbrev pub unstarted_batch : State → List Txn → BatchProgress
unstarted_batch s txns = record { batch = txns; progress = initial_progress s txns }

-- ---- codes, by which values are compared

abbrev pub group_code : Coded Holder → Coded State → Coded Txn → Coded Outcome → Coded GroupState
group_code holder state txn outcome =
    code_by (ℕ × (Holder × (Names × (State × (List Txn × List Outcome)))))
    (coded× coded_ℕ
    (coded× holder
    (coded× (set.code {R = path_cmp} (coded_list coded_ℕ))
    (coded× state (coded× (coded_list txn) (coded_list outcome))))))
    (λ g. (g.number, (g.holder, (g.paths, (g.cells, (g.left, g.outcomes))))))
    (λ p. record {
      number = p.0;
      holder = p.1.0;
      paths = p.1.1.0;
      cells = p.1.1.1.0;
      left = p.1.1.1.1.0;
      outcomes = p.1.1.1.1.1;
    })
    (λ _. refl)

abbrev pub batch_progress_code : Coded Holder → Coded State → Coded Txn → Coded Outcome → Coded BatchProgress
batch_progress_code holder state txn outcome =
    code_by (List Txn × (ℕ × List GroupState))
    (coded× (coded_list txn) (coded× coded_ℕ (coded_list (group_code holder state txn outcome))))
    (λ u. (u.batch, (u.progress.next, u.progress.groups)))
    (λ p. record { batch = p.0; progress = record { next = p.1.0; groups = p.1.1 } }) (λ _. refl)
