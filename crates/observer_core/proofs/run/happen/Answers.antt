use Rattle.std.proofs.Common.{◌≡◌, ap, rules}
use Rattle.observer_core.specs.Leader.{with_leader}
use Rattle.observer_core.specs.Play.{is_serving_clients}
use Rattle.observer_core.proofs.Waiting.{bytes_taken, settled_before}
use Rattle.observer_core.proofs.run.happen.Goals as goal

pub returns-in-ClientBytes : goal.returns-in-ClientBytes
returns-in-ClientBytes g c =
    let serves : c.is_serving-serving.result ≡ is_serving_clients c.machine.inside.stage.after = search rules in
    rw (c.in-ClientBytes.is, ← c.machine.view_is) (bytes_taken c.others_stay.ensures c.take_client_bytes.result
    c.machine.inside.leader c.machine.inside.stage c.take_client_bytes.new.stage c.args.asked.now.items
    c.take_client_bytes.new.asked.items c.is_serving-serving.result c.in-ClientBytes.number
    c.in-ClientBytes.bytes serves (rw c.as_slice.ensures at c.take_client_bytes.ensures))

pub returns-in_ok-settle_reads-in_default : goal.returns-in_ok-settle_reads-in_default
returns-in_ok-settle_reads-in_default g c =
    let leader = c.machine-in_default.inside.leader in
    rw (← c.machine-in_default.view_is) (settled_before c.happen_alone.result _
    (with_leader leader c.settle_reads.new.stage) c.happen_alone.new.machine _ _ _
    (ap (with_leader leader) c.in_ok-settle_reads-in_default.ensures.answered)
    c.in_ok-settle_reads-in_default.ensures.none_left c.happen_alone.ensures)
