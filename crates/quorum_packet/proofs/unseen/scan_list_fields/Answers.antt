use Rattle.std.proofs.Common.{arith}
use Rattle.quorum_packet.proofs.Entries.{list_fields_seen}
use Rattle.quorum_packet.proofs.unseen.scan_list_fields.Goals as goal

pub overflow_sub-result : goal.overflow_sub-result
overflow_sub-result c =
    let looked = list_fields_seen c.args.surrogates c.args.bytes.now c.read_long.new.self c.read_count.new.self
    c.in_ok-read_long.field-0 c.in_ok-read_count.field-0 (λ i. omega (arith, c.type_inv.bytes i))
    (rw c.new-ahead.ensures at c.in_ok-read_long.ensures) c.in_ok-read_count.ensures in
    rw c.rest.ensures looked.0

pub returns-clause-ok : goal.returns-clause-ok
returns-clause-ok c =
    let looked = list_fields_seen c.args.surrogates c.args.bytes.now c.read_long.new.self c.read_count.new.self
    c.in_ok-read_long.field-0 c.in_ok-read_count.field-0 (λ i. omega (arith, c.type_inv.bytes i))
    (rw c.new-ahead.ensures at c.in_ok-read_long.ensures) c.in_ok-read_count.ensures in
    rw (c.rest.ensures, c.unwrap_or-count.ensures) looked.1
