-- The state that a refused item leaves.
use Rattle.std.proofs.Common.{◌≡◌, ℕ, List, ◌∷◌, ◌++◌, Option, Some, None, is_some, Result, Ok, Err, refl, ap, ◌∙◌}
use Rattle.std.proofs.lemmas.List.{append-nil}
use Rattle.values.specs.declared.fault.Fault.{Fault}
use Rattle.jute.specs.Stream.{Items, Unread}
use Rattle.quorum_packet.specs.declared.item.Item.{Item}
use Rattle.quorum_packet.specs.declared.phase.Phase.{Phase}
use Rattle.observer_core.specs.declared.event.Event.TheVariants.{LeaderBytes}
use Rattle.world.specs.World.{World}
use Rattle.observer_core.specs.Machine.{Leader, Machine}
use Rattle.world.specs.Steps.{StepResult, prepend_outputs, no_output, and_then, fold_steps}
use Rattle.observer_core.specs.Leader.{WorldAndLoading, Delivery, item_step, delivery_of, deliver_item, is_refused, place_or_fault, place_after, leader_at, with_leader_or_fault, on_leader_fault, on_stream_end}
use Rattle.observer_core.specs.Play.{play_event}
use Rattle.observer_core.specs.Logs.{delivery_of_items, items_of_bytes, RefusalsChangeNothing}
use Rattle.world.proofs.Steps.{passed_over, goes_on, happening_on}

abbrev refused_with : Delivery WorldAndLoading → Fault → Delivery WorldAndLoading
refused_with d e = record { left = d.left; fault = Some e }

item_refused : (d : Delivery WorldAndLoading) (i : Item) (e : Fault) → item_step d.left i ≡ Err e
    → deliver_item item_step d i ≡ no_output (refused_with d e)
item_refused d i e is = ap (λ r. delivery_of r d.left) is

-- After a refusal the other items are ignored.
others_dropped : (d : Delivery WorldAndLoading) (refused : Item) (others : List Item) (e : Fault) → d.fault ≡ None
    → item_step d.left refused ≡ Err e
    → fold_steps is_refused (deliver_item item_step) d (refused ∷ others) ≡ no_output (refused_with d e)
others_dropped d refused others e none is =
    goes_on is_refused (deliver_item item_step) d refused others (ap is_some none)
    ∙ ap (λ (h : StepResult (Delivery WorldAndLoading)). prepend_outputs h.outputs
    (fold_steps is_refused (deliver_item item_step) h.after others))
    (item_refused d refused e is)
    ∙ passed_over is_refused (deliver_item item_step) (refused_with d e) others refl

module _ (l : Leader) (w : World) (bytes : List ℕ) where
  -- The machine once all items are delivered.
  abbrev finished : StepResult (Delivery WorldAndLoading) → StepResult Machine
  finished h =
      prepend_outputs h.outputs (with_leader_or_fault h.after.left.world
      (leader_at h.after.left.loading (place_after (items_of_bytes l bytes).left h.after.fault)))

  abbrev shown : Items Phase Item
  shown = items_of_bytes l bytes

  -- All items are taken.
  items_taken : (unread : Unread) → shown.left.unread ≡ unread
      → (delivery_of_items l w shown.found).after.fault ≡ None
      → play_event (record { leader = Some l; world = w }) (LeaderBytes bytes)
      ≡ and_then (delivery_of_items l w shown.found)
      (λ d. with_leader_or_fault d.left.world (leader_at d.left.loading (place_or_fault shown.left unread)))
  items_taken unread is none =
      let h = delivery_of_items l w shown.found in
      ap (λ (fault : Option Fault). prepend_outputs h.outputs (with_leader_or_fault h.after.left.world
      (leader_at h.after.left.loading (place_after shown.left fault)))) none
      ∙ ap (λ (u : Unread). prepend_outputs h.outputs (with_leader_or_fault h.after.left.world
      (leader_at h.after.left.loading (place_or_fault shown.left u)))) is

  bytes_refused : (taken others : List Item) (refused : Item) (e : Fault)
      → shown.found ≡ taken ++ refused ∷ others
      → (delivery_of_items l w taken).after.fault ≡ None
      → item_step (delivery_of_items l w taken).after.left refused ≡ Err e
      → play_event (record { leader = Some l; world = w }) (LeaderBytes bytes)
      ≡ and_then (delivery_of_items l w taken) (λ d. on_leader_fault e d.left.world)
  bytes_refused taken others refused e found none is =
      let h = delivery_of_items l w taken in
      ap (λ items. finished (delivery_of_items l w items)) found
      ∙ ap finished
      (happening_on is_refused (deliver_item item_step)
      (record { left = record { loading = l.loading; world = w }; fault = None })
      taken (refused ∷ others)
      ∙ ap (prepend_outputs h.outputs) (others_dropped h.after refused others e none is))
      ∙ ap (λ outputs. prepend_outputs outputs (on_leader_fault e h.after.left.world)) (append-nil h.outputs)

pub refusals_change_nothing : RefusalsChangeNothing
refusals_change_nothing = record {
  item = item_refused;
  bytes = bytes_refused;
  fields = λ l w bytes e unread none. items_taken l w bytes (Err e) unread none;
  waits = λ l w bytes rest unread none. items_taken l w bytes (Ok rest) unread none;
  ends = λ l w e is. ap (λ (r : Result (Unit {0}) Fault). on_stream_end {L = Leader} r w) is;
  loss = λ w e. record {
    tree = refl;
    base = refl;
    log = refl;
    last_zxid = refl;
    accepted_epoch = refl;
    current_epoch = refl;
  };
}
