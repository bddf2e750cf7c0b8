use Rattle.std.proofs.Common.{◌≡◌, ◌-◌}
use Rattle.jute.specs.Format.{read_n}
use Rattle.jute.proofs.Loop.{with_front}
use Rattle.jute.proofs.record.read_items.Given as goal

abbrev pub invariant-loop : goal.invariant-loop
invariant-loop g l = (l.reader ≡ l.fn.reader)
    × (with_front l.items.items (read_n g.T.ReadRecord.read_of (l.count - l.counter) l.ahead) ≡ read_n
    g.T.ReadRecord.read_of l.count l.fn.reader)
