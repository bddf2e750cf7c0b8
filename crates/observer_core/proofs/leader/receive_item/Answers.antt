use Rattle.world.specs.World.{World}
use Rattle.quorum_packet.specs.Lending.{owned_item}
use Rattle.observer_core.proofs.Delivering.{not_taken}
use Rattle.observer_core.proofs.leader.receive_item.Goals as goal

pub returns-in-Err : goal.returns-in-Err
returns-in-Err c =
    let inside = c.stage-inside.inside.0.0 in
    let w : World = record { settings = inside.settings; replica = inside.replica; clients = inside.clients } in
    rw (← c.stage.view_is, ← c.stage-inside.view_is) (not_taken (record { loading = c.args.loader.now; world = w })
    (owned_item c.args.item) _ c.in-Err.error c.take.new.loader c.take.new.self c.in-Err.ensures.takes)
