use Rattle.std.proofs.Common.{◌+◌, List, [], ◌∷◌, drop, map}
use Rattle.std.proofs.lemmas.List.{at_drop_more}
use Rattle.std.proofs.lemmas.Result.{err_from_is_err_and}
use Rattle.quorum_packet.specs.declared.packet.QuorumPacket.{QuorumPacket}
use Rattle.world.specs.Sending.{to_leader}
use Rattle.world.proofs.Steps.{putting, stops_in_step}
use Rattle.observer_core.proofs.leader.send_each.Goals as goal

pub returns-in_err-send_to_leader : goal.returns-in_err-send_to_leader
returns-in_err-send_to_leader c =
    let p = err_from_is_err_and c.from_residual.result c.from_residual.ensures.1 in
    let l = c.loop-packet in
    let is = rw (← c.packet-item.is) at (at_drop_more (λ (ps : List QuorumPacket). putting (map to_leader ps))
    c.args.packets.now l.packet-index c.packet-item.result c.loop-packet-test.true) in
    rw p.1 (stops_in_step _ (putting (map to_leader c.args.packets.now)) _ _ _
    (putting (to_leader c.packet-item.result ∷ []))
    (λ u. putting (map to_leader (drop (l.packet-index + 1) c.args.packets.now))) is
    c.in_err-send_to_leader.ensures l.invariant)
