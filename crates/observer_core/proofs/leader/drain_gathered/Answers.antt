use Rattle.std.proofs.Common.{Err, sym, ◌∙◌}
use Rattle.std.proofs.lemmas.Result.{err_from_is_err_and}
use Rattle.quorum_packet.specs.Items.{items_shown_at}
use Rattle.snapshot_codec.specs.Made.{Loading}
use Rattle.world.specs.World.{World}
use Rattle.quorum_packet.specs.Lending.{owned_item}
use Rattle.observer_core.specs.Leader.{WorldAndLoading, item_step, take_items}
use Rattle.observer_core.proofs.Batches.{item_taken, refused_at_end, stopped_at_item, unsettled_at_end}
use Rattle.observer_core.proofs.leader.drain_gathered.Goals as goal

abbrev both : Loading → World → WorldAndLoading
both loading w = record { loading = loading; world = w }

pub returns-in_err-settle_txns-in-Ok-None-clause-delivers : goal.returns-in_err-settle_txns-in-Ok-None-clause-delivers
returns-in_err-settle_txns-in-Ok-None-clause-delivers g c =
    let p = err_from_is_err_and c.from_residual.result c.from_residual.ensures.1 in
    let l = c.item in
    rw p.1 (unsettled_at_end c.args.stage.now.outputs l.stage.outputs
    (take_items item_step (both c.args.loader.now c.args.stage.now.after) (items_shown_at c.args.items.now.place)) l.done
    (both l.loader l.stage.after) (items_shown_at l.items.place) l.invariant.so_far
    c.settle_txns.new.stage.outputs c.in_err-settle_txns-in-Ok-None.ensures)

pub returns-in_err-settle_txns-in-Err-Fault-clause-delivers : goal.returns-in_err-settle_txns-in-Err-Fault-clause-delivers
returns-in_err-settle_txns-in-Err-Fault-clause-delivers g c =
    let h = c.from_residual-in_err-settle_txns-in-Err-Fault in
    let p = err_from_is_err_and h.result h.ensures.1 in
    let l = c.item in
    rw p.1 (unsettled_at_end c.args.stage.now.outputs l.stage.outputs
    (take_items item_step (both c.args.loader.now c.args.stage.now.after) (items_shown_at c.args.items.now.place)) l.done
    (both l.loader l.stage.after) (items_shown_at l.items.place) l.invariant.so_far
    c.settle_txns-in-Err-Fault.new.stage.outputs c.in_err-settle_txns-in-Err-Fault.ensures)

pub returns-in-Err-NoMemory-take_item-clause-delivers : goal.returns-in-Err-NoMemory-take_item-clause-delivers
returns-in-Err-NoMemory-take_item-clause-delivers g c =
    let l = c.item in
    let first = rw c.in-Ok-Some.field-0-is at c.in-Ok-Some.ensures.first in
    stopped_at_item c.args.stage.now.outputs l.stage.outputs
    (take_items item_step (both c.args.loader.now c.args.stage.now.after) (items_shown_at c.args.items.now.place)) l.done
    (both l.loader l.stage.after) (items_shown_at l.items.place) l.invariant.so_far
    (owned_item c.in-Ok-Some.item) (items_shown_at c.next.new.self.place) c.take_item.new.stage.outputs first.0
    ((rw c.in-Err-NoMemory-take_item.field-0-is at c.in-Err-NoMemory-take_item.ensures.takes)
    (items_shown_at c.next.new.self.place))

pub returns-in-Err-Fault-take_item-clause-delivers : goal.returns-in-Err-Fault-take_item-clause-delivers
returns-in-Err-Fault-take_item-clause-delivers g c =
    let l = c.item in
    let first = rw c.in-Ok-Some.field-0-is at c.in-Ok-Some.ensures.first in
    let after = both c.take_item.new.loader c.take_item.new.stage.after in
    refused_at_end c.args.stage.now.outputs l.stage.outputs
    (take_items item_step (both c.args.loader.now c.args.stage.now.after) (items_shown_at c.args.items.now.place)) l.done
    (both l.loader l.stage.after) (items_shown_at l.items.place) l.invariant.so_far
    (owned_item c.in-Ok-Some.item) (items_shown_at c.next.new.self.place) c.take_item.new.stage.outputs after
    c.in-Err-Fault-take_item.fault first.0
    ((rw c.in-Err-Fault-take_item.field-0-is at c.in-Err-Fault-take_item.ensures.takes)
    (items_shown_at c.next.new.self.place))
    ∙ (λ i. record {
      outputs = c.take_item.new.stage.outputs;
      after = record { left = after; place = Err (sym c.in-Err-Fault-take_item.fault-is i) };
    })

pub item-preserved : goal.item-preserved
item-preserved g c =
    let l = c.item in
    let first = rw c.in-Ok-Some.field-0-is at c.in-Ok-Some.ensures.first in
    record {
      so_far = item_taken c.args.stage.now.outputs l.stage.outputs
          (take_items item_step (both c.args.loader.now c.args.stage.now.after) (items_shown_at c.args.items.now.place)) l.done
          (both l.loader l.stage.after) (items_shown_at l.items.place) l.invariant.so_far
          (owned_item c.in-Ok-Some.item) (items_shown_at c.next.new.self.place) c.take_item.new.stage.outputs c.take_item.new.done
          (both c.take_item.new.loader c.take_item.new.stage.after) first.0
          (c.in-Ok.ensures.takes (items_shown_at c.next.new.self.place));
      source = c.next.ensures.source ∙ l.invariant.source;
      within = c.in-Ok.ensures.within;
    }
