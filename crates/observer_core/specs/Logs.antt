-- The relation of a world's log to its tree, and what a refusal leaves.
use Rattle.std.specs.Prelude.{◌≡◌, ℕ, List, ◌∷◌, ◌++◌, Some, None, Ok, Err}
use Rattle.values.specs.declared.fault.Fault.{Fault}
use Rattle.jute.specs.Stream.{Place, Items, with_more_bytes}
use Rattle.quorum_packet.specs.declared.item.Item.{Item}
use Rattle.quorum_packet.specs.declared.phase.Phase.{Phase}
use Rattle.quorum_packet.specs.Feed.{end_of}
use Rattle.quorum_packet.specs.Items.{items_shown_at}
use Rattle.replica.specs.Replica.{Replica}
use Rattle.replica.specs.Laws.{FollowsItsLog}
use Rattle.world.specs.declared.world.Settings.{Settings}
use Rattle.observer_core.specs.declared.event.Event.{Event}
use Rattle.observer_core.specs.declared.event.Event.TheVariants.{LeaderBytes, LeaderEnd}
use Rattle.world.specs.World.{World}
use Rattle.observer_core.specs.Machine.{Leader, Machine}
use Rattle.world.specs.Steps.{StepResult, no_output, and_then}
use Rattle.observer_core.specs.Leader.{WorldAndLoading, Delivery, item_step, deliver_item, deliver_all, on_leader_fault}
use Rattle.observer_core.specs.Play.{play, play_event, new_machine, primed_machine}

-- The tree is the base with the log applied, and the log's zxids ascend up to the last zxid. This holds at the start,
-- and no event ends it.
pub record MachinesFollowTheirLogs : Type 0 where
  pub starts : (settings : Settings) → FollowsItsLog (new_machine settings).world.replica
  pub starts_primed : (settings : Settings) → FollowsItsLog (primed_machine settings).world.replica
  pub plays : (m : Machine) (events : List Event) → FollowsItsLog m.world.replica
      → FollowsItsLog (play m events).after.world.replica

-- The items of a leader's stream are taken in order, up to the first that is refused.
abbrev pub delivery_of_items : Leader → World → List Item → StepResult (Delivery WorldAndLoading)
delivery_of_items l w items = deliver_all item_step (record { loading = l.loading; world = w }) items

-- The items that are complete once these bytes of the leader have come, and the place after them.
abbrev pub items_of_bytes : Leader → List ℕ → Items Phase Item
items_of_bytes l bytes = items_shown_at (with_more_bytes l.place bytes)

-- The leader is followed on from this place.
abbrev pub following_at : Place Phase → WorldAndLoading → Machine
following_at place d =
    record { leader = Some (record { place = place; loading = d.loading }); world = d.world }

-- The tree, the base, the log and the epochs are as before.
pub record KeepsState (before after : Replica) : Type 0 where
  pub tree : after.tree ≡ before.tree
  pub base : after.base ≡ before.base
  pub log : after.learner.log ≡ before.learner.log
  pub last_zxid : after.learner.last_zxid ≡ before.learner.last_zxid
  pub accepted_epoch : after.learner.accepted_epoch ≡ before.learner.accepted_epoch
  pub current_epoch : after.learner.current_epoch ≡ before.learner.current_epoch

pub record RefusalsChangeNothing : Type 0 where
  -- A refused packet or part has no output, leaves the world, and ends the stream with its fault.
  pub item : (d : Delivery WorldAndLoading) (i : Item) (e : Fault) → item_step d.left i ≡ Err e
      → deliver_item item_step d i ≡ no_output (record { left = d.left; fault = Some e })
  -- If bytes of the leader contain a refused item, the outputs and the state left are those of the items before it,
  -- followed by the loss of the leader for that fault.
  pub bytes : (l : Leader) (w : World) (bytes : List ℕ) (taken others : List Item) (refused : Item) (e : Fault)
      → (items_of_bytes l bytes).found ≡ taken ++ refused ∷ others
      → (delivery_of_items l w taken).after.fault ≡ None
      → item_step (delivery_of_items l w taken).after.left refused ≡ Err e
      → play_event (record { leader = Some l; world = w }) (LeaderBytes bytes)
      ≡ and_then (delivery_of_items l w taken) (λ d. on_leader_fault e d.left.world)
  -- If all items of the bytes are taken, and what comes after them is unreadable, the leader is lost for that fault after
  -- them.
  pub fields : (l : Leader) (w : World) (bytes : List ℕ) (e : Fault)
      → (items_of_bytes l bytes).left.unread ≡ Err e
      → (delivery_of_items l w (items_of_bytes l bytes).found).after.fault ≡ None
      → play_event (record { leader = Some l; world = w }) (LeaderBytes bytes)
      ≡ and_then (delivery_of_items l w (items_of_bytes l bytes).found) (λ d. on_leader_fault e d.left.world)
  -- If what comes after them is the beginning of another one, it waits for more.
  pub waits : (l : Leader) (w : World) (bytes rest : List ℕ)
      → (items_of_bytes l bytes).left.unread ≡ Ok rest
      → (delivery_of_items l w (items_of_bytes l bytes).found).after.fault ≡ None
      → play_event (record { leader = Some l; world = w }) (LeaderBytes bytes)
      ≡ and_then (delivery_of_items l w (items_of_bytes l bytes).found)
      (λ d. no_output (following_at (items_of_bytes l bytes).left d.left))
  -- If the stream ends where it may not, inside a packet or an image, the leader is lost for that fault.
  pub ends : (l : Leader) (w : World) (e : Fault) → end_of l.place ≡ Err e
      → play_event (record { leader = Some l; world = w }) LeaderEnd ≡ on_leader_fault e w
  -- The loss of a leader leaves the tree, the base, the log and the epochs.
  pub loss : (w : World) (e : Fault) → KeepsState w.replica (on_leader_fault {L = Leader} e w).after.world.replica
