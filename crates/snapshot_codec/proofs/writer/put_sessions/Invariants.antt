use Rattle.std.proofs.Common.{◌++◌, length, Some}
use Rattle.std.specs.FinMap as finmap
use Rattle.jute.specs.Format.{int, long, count_format, count_limit, pair_of}
use Rattle.snapshot_codec.proofs.Behind.{Left}
use Rattle.snapshot_codec.proofs.writer.put_sessions.Given as goal

abbrev pub invariant-loop-id : goal.invariant-loop-id
invariant-loop-id l =
    (goal.iterator-loop-id).can_next l.id-iterator
    × (goal.iterator-loop-id).is_finite l.id-iterator
    × Left (pair_of long int).written (pair_of long int).Fits
    (l.fn.out.items ++ (count_format count_limit).written (Some (length (finmap.entries l.sessions))))
    (finmap.entries l.sessions)
    l.out.items l.id-iterator
