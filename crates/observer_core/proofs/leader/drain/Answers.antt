use Rattle.std.proofs.Common.{sym, ◌∙◌, Err}
use Rattle.snapshot_codec.specs.Made.{Loading}
use Rattle.world.specs.World.{World}
use Rattle.observer_core.specs.Leader.{WorldAndLoading}
use Rattle.observer_core.proofs.Delivering.{packet_taken, packet_stops, packet_refused}
use Rattle.observer_core.proofs.leader.drain.Goals as goal

abbrev both : Loading → World → WorldAndLoading
both loading w = record { loading = loading; world = w }

pub returns-in-Err-NoMemory-receive_item-clause-delivers : goal.returns-in-Err-NoMemory-receive_item-clause-delivers
returns-in-Err-NoMemory-receive_item-clause-delivers c =
    let l = c.loop-item in
    let first = rw c.in-Ok-Some.field-0-is at c.in-Ok-Some.ensures.first in
    packet_stops _ _ _ _ (both l.loader l.stage.after)
    (both c.receive_item.new.loader c.receive_item.new.stage.after) _ _ _ first.0 l.invariant.so_far
    (rw c.in-Err-NoMemory-receive_item.field-0-is at c.in-Err-NoMemory-receive_item.ensures)

pub returns-in-Err-Fault-receive_item-clause-delivers : goal.returns-in-Err-Fault-receive_item-clause-delivers
returns-in-Err-Fault-receive_item-clause-delivers c =
    let l = c.loop-item in
    let first = rw c.in-Ok-Some.field-0-is at c.in-Ok-Some.ensures.first in
    let after = both c.receive_item.new.loader c.receive_item.new.stage.after in
    packet_refused _ _ _ _ (both l.loader l.stage.after) after _ _ _ first.0 l.invariant.so_far
    c.in-Err-Fault-receive_item.fault
    (rw c.in-Err-Fault-receive_item.field-0-is at c.in-Err-Fault-receive_item.ensures)
    ∙ (λ i. record {
      outputs = c.receive_item.new.stage.outputs;
      after = record { left = after; place = Err (sym c.in-Err-Fault-receive_item.fault-is i) };
    })

pub loop-item-preserved : goal.loop-item-preserved
loop-item-preserved c =
    let l = c.loop-item in
    let first = rw c.in-Ok-Some.field-0-is at c.in-Ok-Some.ensures.first in
    record {
      so_far = packet_taken _ _ _ _ (both l.loader l.stage.after)
          (both c.receive_item.new.loader c.receive_item.new.stage.after) _ _ _ first.0 l.invariant.so_far c.in-Ok.ensures;
      source = c.next.ensures.source ∙ l.invariant.source;
    }
