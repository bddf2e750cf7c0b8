use Rattle.std.proofs.Common.{◌≡◌, ◌≤◌, length}
use Rattle.quorum_packet.specs.Items.{items_shown_at}
use Rattle.quorum_packet.specs.Feed.{unread_len}
use Rattle.observer_core.specs.Leader.{item_step, take_items}
use Rattle.observer_core.specs.Inner.{take_items_after}
use Rattle.world.proofs.Steps.{SoFar}
use Rattle.observer_core.proofs.leader.drain_gathered.Given as goal

-- Applying what was gathered, and delivering what is left, completes what was to be delivered.
abbrev pub invariant-item : goal.invariant-item
invariant-item g l =
    record {
      so_far : SoFar l.fn.stage.outputs (take_items item_step (record { loading = l.fn.loader; world = l.fn.stage.after })
          (items_shown_at l.fn.items.place))
          l.stage.outputs
          (take_items_after l.done (record { loading = l.loader; world = l.stage.after }) (items_shown_at l.items.place));
      source : l.items.source ≡ l.fn.items.source;
      within : l.done ≤ length l.stage.after.replica.learner.log;
    }

abbrev pub decreases-item : goal.decreases-item
decreases-item g l = unread_len l.items.place.unread
