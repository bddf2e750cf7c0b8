use Rattle.std.proofs.Common.{◌≡◌, ◌-◌, length}
use Rattle.client_records.specs.Multi.{parts_within, multi_read}
use Rattle.client_records.proofs.Parts.{with_front}
use Rattle.client_records.proofs.multi.read_parts.Given as goal

abbrev pub invariant-loop : goal.invariant-loop
invariant-loop l = (l.reader ≡ l.fn.reader) × (l.end ≡ length l.fn.reader)
    × (with_front l.parts.items (parts_within (l.end - l.counter) l.ahead) ≡ multi_read l.fn.reader)
