-- The state of a learner.
use Rattle.std.specs.Prelude.{refl, ℤ, pos, List, [], Bool, true}
use Rattle.std.specs.Coded.{Coded, code_by, coded×, coded_ℤ, coded_bool, coded_list}
use Rattle.settings.specs.Settings.{EpochPair}
use Rattle.settings.specs.declared.dialect.Dialect.{Dialect}
use Rattle.txn_codec.specs.declared.txn.Txn.{Txn}
use Rattle.learner_sync.specs.declared.phase.Phase.{Phase}
use Rattle.learner_sync.specs.declared.phase.Phase.TheVariants as phase

pub record Learner : Type 0 where
  -- The dialect in which leaders speak. Nothing changes it.
  pub dialect : Dialect
  -- The phase between the learner and its leader.
  pub phase : Phase
  -- The greatest epoch of a leader that was accepted; from its LEADERINFO on, the epoch of the present leader.
  pub accepted_epoch : ℤ
  -- The epoch of the last leader that was followed.
  pub current_epoch : ℤ
  -- The greatest zxid so far.
  pub last_zxid : ℤ
  -- The zxid of the base, a state that is kept elsewhere.
  pub base_zxid : ℤ
  -- The transactions that were applied since the base.
  pub log : List Txn
  -- The transactions that wait for their commit, oldest first.
  pub proposals : List Txn
  -- No image, TRUNC or checkpoint has taken effect, so the log has every transaction.
  pub is_complete : Bool

-- Before any leader: the base is the tree before any transaction.
abbrev pub new_learner : Dialect → EpochPair → Learner
new_learner dialect epochs = record {
  dialect = dialect;
  phase = phase.Down;
  accepted_epoch = epochs.accepted;
  current_epoch = epochs.current;
  last_zxid = pos 0;
  base_zxid = pos 0;
  log = [];
  proposals = [];
  is_complete = true;
}

-- A learner that serves in epoch 1.
abbrev pub primed_learner : Dialect → Learner
primed_learner dialect =
    record (new_learner dialect (record { accepted = pos 1; current = pos 1 })) { phase = phase.Serving }

-- ---- code

abbrev pub learner_code : Coded Dialect → Coded Phase → Coded Txn → Coded Learner
learner_code dialect phase txn =
    code_by (Dialect × (Phase × (ℤ × (ℤ × (ℤ × (ℤ × (List Txn × (List Txn × Bool))))))))
    (coded× dialect (coded× phase (coded× coded_ℤ (coded× coded_ℤ (coded× coded_ℤ (coded× coded_ℤ
    (coded× (coded_list txn) (coded× (coded_list txn) coded_bool))))))))
    (λ l. (
      l.dialect,
      (
        l.phase,
        (
          l.accepted_epoch,
          (
            l.current_epoch,
            (
              l.last_zxid,
              (
                l.base_zxid,
                (l.log, (l.proposals, l.is_complete)),
              ),
            ),
          ),
        ),
      ),
    ))
    (λ p. record {
      dialect = p.0;
      phase = p.1.0;
      accepted_epoch = p.1.1.0;
      current_epoch = p.1.1.1.0;
      last_zxid = p.1.1.1.1.0;
      base_zxid = p.1.1.1.1.1.0;
      log = p.1.1.1.1.1.1.0;
      proposals = p.1.1.1.1.1.1.1.0;
      is_complete = p.1.1.1.1.1.1.1.1;
    })
    (λ _. refl)
