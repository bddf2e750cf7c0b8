-- Cuts that were worked out by hand.
use Rattle.std.proofs.Common.{refl}
use Rattle.txn_codec.specs.declared.txn.TxnHeader.{TxnHeader}
use Rattle.batcher.specs.Rows.{WorkedCuts, CutsAreWorked}

worked : (h : TxnHeader) → WorkedCuts h
worked h =
    record {
      nothing = record { cut_is = refl; groups_are = refl };
      two_groups = record { cut_is = refl; groups_are = refl };
      meets_two = record { cut_is = refl; groups_are = refl };
      behind_it = record { cut_is = refl; groups_are = refl };
      barrier_in_front = record { cut_is = refl; groups_are = refl };
      barrier_behind = record { cut_is = refl; groups_are = refl };
      no_path = record { cut_is = refl; groups_are = refl };
      one_transaction = record { cut_is = refl; groups_are = refl };
      one_group = record { cut_is = refl; groups_are = refl };
    }

pub cuts_are_worked : CutsAreWorked
cuts_are_worked = worked
