use Rattle.std.proofs.Common.{◌≡◌, ◌++◌, length}
use Rattle.std.specs.Vec.Iter.{into_iter_items, into_iter_len}
use Rattle.read_workers.specs.Working.{answers_of, AreAnswered}
use Rattle.read_workers.proofs.readers.all_answers.Given as goal

abbrev pub invariant-loop-group : goal.invariant-loop-group
invariant-loop-group l =
    record {
      answers : l.looks.items ++ answers_of (into_iter_items l.group-iterator) ≡ answers_of l.fn.groups.items;
      answered : AreAnswered (into_iter_items l.group-iterator) → AreAnswered l.fn.groups.items;
      len : into_iter_len l.group-iterator ≡ length (into_iter_items l.group-iterator);
    }
