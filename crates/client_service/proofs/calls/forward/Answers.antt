use Rattle.std.proofs.Common.{arith}
use Rattle.client_service.proofs.calls.forward.Goals as goal

pub send_to_leader-requires : goal.send_to_leader-requires
send_to_leader-requires c = c.in_ok-request.ensures.writable (omega (arith, c.requires))
    (omega (arith, c.ids-ids.ensures.few)) c.ids-ids.ensures.writable
