-- The contract of a part of a transaction.
use Rattle.std.specs.Prelude.{◌≡◌, ℤ, List, ◌++◌, Result, Ok, Err}
use Rattle.values.specs.declared.fault.NoMemory.{NoMemory}
use Rattle.data_tree.specs.State.{State}
use Rattle.data_tree.specs.Meaning.{TxnEffect}
use Rattle.data_tree.specs.declared.outcome.Trigger.{Trigger}

-- The error is returned, the state is left, and the triggers are appended to those before.
pub record IsEffectDone (meant : TxnEffect) (error : ℤ) (new : State) (before after : List Trigger) : Type 0 where
  pub state : new ≡ meant.state
  pub err : error ≡ meant.err
  pub fired : after ≡ before ++ meant.triggers

-- It was done; or an allocation was refused, and the state is as it was.
abbrev pub DoesEffect : TxnEffect → Result ℤ NoMemory → State → State → List Trigger → List Trigger → Type 0
DoesEffect meant (Ok error) old new before after = IsEffectDone meant error new before after
DoesEffect meant (Err e) old new before after = new ≡ old

-- The change without its triggers: the error is returned, and the state is left.
pub record IsChangeDone (meant : TxnEffect) (error : ℤ) (new : State) : Type 0 where
  pub state : new ≡ meant.state
  pub err : error ≡ meant.err

-- It was changed; or an allocation was refused, and the state is as it was.
abbrev pub DoesChange : TxnEffect → Result ℤ NoMemory → State → State → Type 0
DoesChange meant (Ok error) old new = IsChangeDone meant error new
DoesChange meant (Err e) old new = new ≡ old
