use Rattle.std.proofs.Common.{arith}
use Rattle.quorum_packet.proofs.Looking.{fields_unseen}
use Rattle.quorum_packet.proofs.unseen.scan_fields.Goals as goal

pub overflow_sub-result : goal.overflow_sub-result
overflow_sub-result c =
    let looked = fields_unseen c.args.bytes.now c.read_int.new.self c.read_long.new.self c.read_buffer.new.self
    c.read_count.new.self
    c.in_ok-read_int.field-0 c.in_ok-read_long.field-0 _ c.in_ok-read_count.field-0
    (λ i. omega (arith, c.type_inv.bytes i)) (rw c.new-ahead.ensures at c.in_ok-read_int.ensures)
    c.in_ok-read_long.ensures c.in_ok-read_buffer.ensures c.in_ok-read_count.ensures in
    rw c.rest.ensures looked.0

pub returns-clause-ok : goal.returns-clause-ok
returns-clause-ok c =
    let looked = fields_unseen c.args.bytes.now c.read_int.new.self c.read_long.new.self c.read_buffer.new.self
    c.read_count.new.self
    c.in_ok-read_int.field-0 c.in_ok-read_long.field-0 _ c.in_ok-read_count.field-0
    (λ i. omega (arith, c.type_inv.bytes i)) (rw c.new-ahead.ensures at c.in_ok-read_int.ensures)
    c.in_ok-read_long.ensures c.in_ok-read_buffer.ensures c.in_ok-read_count.ensures in
    rw (c.rest.ensures, c.from.ensures, c.unwrap_or-ids.ensures) looked.1
