use Rattle.std.proofs.Common.{◌≡◌, ◌++◌}
use Rattle.std.specs.List.{flat_map}
use Rattle.std.specs.Slice.Iter.{chunks_rest, chunks_size}
use Rattle.read_processor.specs.Asking.{looks_at}
use Rattle.read_workers.specs.Working.{looks_for_work}
use Rattle.read_workers.proofs.readers.look_works.Given as goal

abbrev pub invariant-loop-asks : goal.invariant-loop-asks
invariant-loop-asks l =
    record {
      looks : flat_map looks_for_work l.works.items ++ looks_at l.fn.tree (chunks_rest l.asks-iterator)
          ≡ looks_at l.fn.tree l.fn.asks;
      size : chunks_size l.asks-iterator ≡ 64;
    }
