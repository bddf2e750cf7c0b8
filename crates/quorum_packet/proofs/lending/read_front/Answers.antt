use Rattle.std.proofs.Common.{arith}
use Rattle.quorum_packet.proofs.Finding.{front_less, front_found, found_writable}
use Rattle.quorum_packet.proofs.lending.read_front.Goals as goal

pub overflow_sub-result : goal.overflow_sub-result
overflow_sub-result c =
    front_less c.args.phase.now c.read_found.new.phase c.args.bytes.now c.rest-left.result.now c.in_ok-found.found
    (rw (c.rest-left.ensures, ← c.new-ahead.ensures) c.in_ok-found.ensures)

pub returns-clause-front : goal.returns-clause-front
returns-clause-front c =
    front_found c.args.phase.now c.read_found.new.phase c.args.bytes.now c.rest-left.result.now c.in_ok-found.found
    (λ i. omega (arith, c.type_inv.bytes i)) (rw (c.rest-left.ensures, ← c.new-ahead.ensures) c.in_ok-found.ensures)

pub returns-clause-writable : goal.returns-clause-writable
returns-clause-writable c =
    found_writable c.args.phase.now c.read_found.new.phase c.args.bytes.now c.rest-left.result.now c.in_ok-found.found
    (λ i. omega (arith, c.type_inv.bytes i)) (rw (c.rest-left.ensures, ← c.new-ahead.ensures) c.in_ok-found.ensures)
