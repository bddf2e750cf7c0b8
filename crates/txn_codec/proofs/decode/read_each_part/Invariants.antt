use Rattle.std.proofs.Common.{◌≡◌, ◌-◌}
use Rattle.jute.specs.Format.{read_n}
use Rattle.jute.proofs.Loop.{with_front}
use Rattle.txn_codec.specs.Spelling.{part_format_in}
use Rattle.txn_codec.proofs.decode.read_each_part.Given as goal

abbrev pub invariant-loop : goal.invariant-loop
invariant-loop l = (l.reader ≡ l.fn.reader)
    × (with_front l.parts.items (read_n (part_format_in l.fn.reads).read (l.count - l.counter) l.ahead)
    ≡ read_n (part_format_in l.fn.reads).read l.count l.fn.reader)
