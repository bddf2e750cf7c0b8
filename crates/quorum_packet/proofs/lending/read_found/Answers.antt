use Rattle.std.proofs.Common.{true, false, sym, ◌∙◌}
use Rattle.std.proofs.lemmas.Result.{err_from_is_err_and}
use Rattle.quorum_packet.proofs.Finding.{packet_found, packet_refused, hidden_found, part_found, part_refused}
use Rattle.quorum_packet.proofs.lending.read_found.Goals as goal

pub returns-in_err-packet-in-Packets : goal.returns-in_err-packet-in-Packets
returns-in_err-packet-in-Packets c =
    let p = err_from_is_err_and c.from_residual.result c.from_residual.ensures.1 in
    rw (p.1, p.2) (packet_refused c.in-Packets.dialect c.args.phase.now c.args.reader.now c.read.new.reader
    c.in_err-packet-in-Packets.field-0.0 c.in-Packets.is c.in_err-packet-in-Packets.ensures.0
    c.in_err-packet-in-Packets.ensures.1)

pub returns-in_err-read_part-in-Image : goal.returns-in_err-read_part-in-Image
returns-in_err-read_part-in-Image c =
    let p = err_from_is_err_and c.from_residual-in_err-read_part-in-Image.result
    c.from_residual-in_err-read_part-in-Image.ensures.1 in
    rw (p.1, p.2) (part_refused c.in-Image.dialect c.args.phase.now c.in-Image.parts c.read_part.new.phase
    c.args.reader.now
    c.read_part.new.reader c.in_err-read_part-in-Image.field-0.0 c.in-Image.is c.in_err-read_part-in-Image.ensures)

pub returns-then-is_end : goal.returns-then-is_end
returns-then-is_end c =
    part_found c.in-Image.dialect c.args.phase.now c.in-Image.parts c.read_part.new.phase c.args.reader.now
    c.read_part.new.reader
    c.in-Some.part true c.in-Image.is (rw c.in-Some.is at c.in_ok-read_part-in-Image.ensures)
    (sym c.is_end.ensures ∙ c.if-is_end.true)

pub returns-in_ok-packet-in-Packets : goal.returns-in_ok-packet-in-Packets
returns-in_ok-packet-in-Packets c =
    packet_found c.in-Packets.dialect c.args.phase.now c.phase_after_packet.result c.args.reader.now c.read.new.reader
    c.in_ok-packet-in-Packets.packet c.in-Packets.is c.in_ok-packet-in-Packets.ensures c.phase_after_packet.ensures

pub returns-in-None : goal.returns-in-None
returns-in-None c =
    hidden_found c.in-Image.dialect c.args.phase.now c.in-Image.parts c.read_part.new.phase c.args.reader.now
    c.read_part.new.reader
    c.in-Image.is (rw c.in-None.is at c.in_ok-read_part-in-Image.ensures)

pub returns-else-is_end : goal.returns-else-is_end
returns-else-is_end c =
    part_found c.in-Image.dialect c.args.phase.now c.in-Image.parts c.read_part.new.phase c.args.reader.now
    c.read_part.new.reader
    c.in-Some.part false c.in-Image.is (rw c.in-Some.is at c.in_ok-read_part-in-Image.ensures)
    (sym c.is_end.ensures ∙ c.if-is_end.false)
