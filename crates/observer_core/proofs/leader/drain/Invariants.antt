use Rattle.std.proofs.Common.{◌≡◌}
use Rattle.quorum_packet.specs.Items.{items_shown_at}
use Rattle.quorum_packet.specs.Feed.{unread_len}
use Rattle.observer_core.specs.Leader.{item_step, take_items}
use Rattle.world.proofs.Steps.{SoFar}
use Rattle.observer_core.proofs.leader.drain.Given as goal

-- Delivering what is left completes what was to be delivered.
abbrev pub invariant-loop-item : goal.invariant-loop-item
invariant-loop-item l =
    record {
      so_far : SoFar l.fn.stage.outputs (take_items item_step (record { loading = l.fn.loader; world = l.fn.stage.after })
          (items_shown_at l.fn.items.place))
          l.stage.outputs
          (take_items item_step (record { loading = l.loader; world = l.stage.after }) (items_shown_at l.items.place));
      source : l.items.source ≡ l.fn.items.source;
    }

abbrev pub decreases-loop-item : goal.decreases-loop-item
decreases-loop-item l = unread_len l.items.place.unread
