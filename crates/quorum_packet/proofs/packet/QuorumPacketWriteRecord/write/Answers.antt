use Rattle.values.proofs.Gaining.{puts_behind, gains_behind, gains_first}
use Rattle.jute.proofs.Writing.{fails}
use Rattle.quorum_packet.specs.Packet.{packet_format}
use Rattle.quorum_packet.proofs.packet.QuorumPacketWriteRecord.write.Goals as goal

pub returns-in_err-put_blob : goal.returns-in_err-put_blob
unfolding packet_format
returns-in_err-put_blob c =
    fails _ c.from_residual-in_err-put_blob.ensures.0
    (gains_behind _ _ c.in_ok-write.ensures
    (gains_behind _ _ c.in_ok-write-2.ensures
    (gains_first _ c.in_err-put_blob.ensures)))

pub returns : goal.returns
unfolding packet_format
returns c =
    puts_behind _ _ _ _ _ _ c.in_ok-write.ensures
    (puts_behind _ _ _ _ _ _ c.in_ok-write-2.ensures
    (puts_behind _ _ _ _ _ _ c.in_ok-put_blob.ensures c.put_vector.ensures))
