use Rattle.std.proofs.Common.{◌≡◌, ◌++◌, length}
use Rattle.std.specs.List.{flat_map}
use Rattle.std.specs.Vec.Iter.{into_iter_items, into_iter_len}
use Rattle.replica.specs.Taking.{packets_of_act}
use Rattle.replica.proofs.replica.Replica.start.Given as goal

abbrev pub invariant-loop-act : goal.invariant-loop-act
invariant-loop-act l =
    record {
      sent : l.replies.items ++ flat_map packets_of_act (into_iter_items l.act-iterator)
          ≡ flat_map packets_of_act (into_iter_items l.initial.act-iterator);
      len : into_iter_len l.act-iterator ≡ length (into_iter_items l.act-iterator);
    }
