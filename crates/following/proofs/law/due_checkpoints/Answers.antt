use Rattle.following.proofs.Planning.{none_is_due_before, none_is_due_at_none}
use Rattle.following.proofs.law.due_checkpoints.Goals as goal

pub returns : goal.returns
returns c = record { before = none_is_due_before; none = none_is_due_at_none }
