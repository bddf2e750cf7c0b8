-- What a leader's stream does: each packet, and each part of an image or each whole image, in the order of the stream.
use Rattle.std.specs.Prelude.{ℕ, List, [], ◌∷◌, ◌++◌, map, Option, Some, None, is_some, Result, Ok, Err, Bool, true, false}
use Rattle.settings.specs.declared.dialect.Dialect.{Dialect}
use Rattle.values.specs.declared.fault.Fault.{Fault}
use Rattle.values.specs.declared.fault.Fault.TheVariants.{Short}
use Rattle.jute.specs.Format.{◌>>=◌}
use Rattle.jute.specs.Stream.{Place, Items, Unread, with_more_bytes, items_in, place_at}
use Rattle.snapshot_codec.specs.Made.{Loading}
use Rattle.quorum_packet.specs.declared.item.Item.{Item}
use Rattle.quorum_packet.specs.declared.phase.Phase.{Phase}
use Rattle.quorum_packet.specs.declared.phase.Phase.TheVariants.{Packets}
use Rattle.quorum_packet.specs.Feed.{end_of}
use Rattle.quorum_packet.specs.Items.{items_shown_at}
use Rattle.quorum_packet.specs.WholeItems.{WholeItem, whole_items}
use Rattle.replica.specs.declared.item_outcome.LeaderNews.{LeaderNews}
use Rattle.replica.specs.declared.item_outcome.LeaderNews.TheVariants as news
use Rattle.replica.specs.Taking.{ItemEffect, nothing_loaded, take_item, take_whole, follow_leader, without_leader}
use Rattle.watch_manager.specs.Watches.{fire}
use Rattle.world.specs.declared.output.Output.TheVariants.{CloseLeader}
use Rattle.world.specs.World.{World}
use Rattle.observer_core.specs.Machine.{Leader, MachineBy}
use Rattle.world.specs.Steps.{StepResult, prepend_outputs, no_output, and_then, fold_steps}
use Rattle.world.specs.Clients.{notices_of, close_all_clients}
use Rattle.world.specs.Sending.{to_leader}
use Rattle.leader_answers.specs.Answering.{answer_applied_txn, answer_sync, answer_revalidated, answer_ping}
use Rattle.forwarding.specs.Pending.{nothing_pending}

-- ---- one packet, part or image

-- The packets go to the leader at once, and an event to each watcher; the watches that fired are used up.
abbrev pub tell_effect : World → ItemEffect → StepResult World
tell_effect w t =
    let fired = fire w.clients.watches t.triggers in
    record {
      outputs = map to_leader t.replies ++ notices_of fired.events;
      after = record w { replica = t.replica; clients = record w.clients { watches = fired.left } };
    }

-- A PING is answered, and so are the clients whose session was created or has ended, whose write was applied, whose sync
-- the leader has done, or whose session it knows or doesn't.
abbrev pub answer_news : Option LeaderNews → World → StepResult World
answer_news None w = no_output w
answer_news (Some (news.Ping ping)) w = answer_ping w ping
answer_news (Some (news.Applied place results)) w = answer_applied_txn w place results
answer_news (Some news.SyncSettled) w = answer_sync w
answer_news (Some (news.Revalidated session lives)) w = answer_revalidated w session lives

-- Events come before answers.
abbrev pub send_effect : World → ItemEffect → StepResult World
send_effect w t = and_then (tell_effect w t) (answer_news t.news)

-- A world, and the image that is being loaded, apart from it.
pub record WorldAndLoading : Type 0 where
  pub loading : Loading
  pub world : World

abbrev pub step_with_loading : Loading → StepResult World → StepResult WorldAndLoading
step_with_loading loading h = record { outputs = h.outputs; after = record { loading = loading; world = h.after } }

-- What a packet or a part does, or the fault for which it is refused.
abbrev pub item_step : WorldAndLoading → Item → Result (StepResult WorldAndLoading) Fault
item_step d i = take_item d.loading d.world.replica i >>= λ t. Ok (step_with_loading t.loading (send_effect d.world t))

-- The same for packets and whole images.
abbrev pub whole_item_step : World → WholeItem → Result (StepResult World) Fault
whole_item_step w i = take_whole w.replica i >>= λ t. Ok (send_effect w t)

-- ---- a list of items, up to the first that is refused

-- The state left, and the fault of the item that was refused, if one was.
pub record Delivery (W : Type 0) : Type 0 where
  pub left : W
  pub fault : Option Fault

-- A refused item changes nothing and ends the stream.
abbrev pub delivery_of : {W : Type 0} → Result (StepResult W) Fault → W → StepResult (Delivery W)
delivery_of (Ok h) w = record { outputs = h.outputs; after = record { left = h.after; fault = None } }
delivery_of (Err e) w = no_output (record { left = w; fault = Some e })

abbrev pub deliver_item : {W I : Type 0} → (W → I → Result (StepResult W) Fault) → Delivery W → I
    → StepResult (Delivery W)
deliver_item take d i = delivery_of (take d.left i) d.left

abbrev pub is_refused : {W : Type 0} → Delivery W → Bool
is_refused d = is_some d.fault

abbrev pub deliver_all : {W I : Type 0} → (W → I → Result (StepResult W) Fault) → W → List I → StepResult (Delivery W)
deliver_all take w is = fold_steps is_refused (deliver_item take) (record { left = w; fault = None }) is

-- The place after the last item found, unless the unread bytes are a fault.
abbrev pub place_or_fault : {S : Type 0} → Place S → Unread → Result (Place S) Fault
place_or_fault place (Ok bytes) = Ok place
place_or_fault place (Err e) = Err e

abbrev pub place_after : {S : Type 0} → Place S → Option Fault → Result (Place S) Fault
place_after place None = place_or_fault place place.unread
place_after place (Some e) = Err e

-- The state left after all the items found, and the place of the stream, or the fault there.
pub record StreamProgress (S W : Type 0) : Type 0 where
  pub left : W
  pub place : Result (Place S) Fault

abbrev pub take_items : {S W I : Type 0} → (W → I → Result (StepResult W) Fault) → W → Items S I
    → StepResult (StreamProgress S W)
take_items take w found =
    let h = deliver_all take w found.found in
    record { outputs = h.outputs; after = record { left = h.after.left; place = place_after found.left h.after.fault } }

-- ---- two ways to read a leader's stream: part by part, and by whole images

-- The world, and the state of the stream or the fault that ended it.
pub record WorldAndLeader (L : Type 0) : Type 0 where
  pub world : World
  pub leader : Result L Fault

pub record StreamReader (L : Type 0) : Type 0 where
  -- The state at the start of a stream in this dialect.
  pub opened : Dialect → L
  -- What a piece of the stream does.
  pub taken : L → World → List ℕ → StepResult (WorldAndLeader L)
  -- Whether the stream may end in this state.
  pub ended : L → Result (Unit {0}) Fault

abbrev pub leader_at : Loading → Result (Place Phase) Fault → Result Leader Fault
leader_at loading r = r >>= λ place. Ok (record { place = place; loading = loading })

-- Part by part, so that no image is held besides the tree that it makes. An image that isn't complete is dropped with
-- the leader.
abbrev pub part_reader : StreamReader Leader
part_reader = record {
  opened = λ dialect. record { place = place_at (Packets dialect) []; loading = nothing_loaded dialect };
  taken = λ l w bytes.
      let h = take_items item_step (record { loading = l.loading; world = w })
      (items_shown_at (with_more_bytes l.place bytes)) in
      record {
        outputs = h.outputs;
        after = record { world = h.after.left.world; leader = leader_at h.after.left.loading h.after.place };
      };
  ended = λ l. end_of l.place;
}

-- A stream may end where no image is owed and no byte is unread.
abbrev pub whole_end : Bool → Unread → Result (Unit {0}) Fault
whole_end owed (Err e) = Err e
whole_end true (Ok bytes) = Err Short
whole_end false (Ok []) = Ok tt
whole_end false (Ok (b ∷ bytes)) = Err Short

-- By whole images.
abbrev pub image_reader : StreamReader (Place Bool)
image_reader = record {
  opened = λ dialect. place_at false [];
  taken = λ place w bytes.
      let stream = whole_items w.replica.learner.dialect in
      let h = take_items whole_item_step w (items_in stream (with_more_bytes place bytes)) in
      record { outputs = h.outputs; after = record { world = h.after.left; leader = h.after.place } };
  ended = λ place. whole_end place.phase place.unread;
}

-- ---- a leader connects, sends, and leaves

-- A step of the world, which leaves the state of the leader's stream.
abbrev pub with_leader : {L : Type 0} → Option L → StepResult World → StepResult (MachineBy L)
with_leader leader h = record { outputs = h.outputs; after = record { leader = leader; world = h.after } }

-- The observer introduces itself. While it has a leader, another one is ignored.
abbrev pub meet_leader : {L : Type 0} → StreamReader L → Option L → World → StepResult (MachineBy L)
meet_leader side None w =
    let t = follow_leader w.replica w.settings.server_id in
    record {
      outputs = map to_leader t.replies;
      after = record {
        leader = Some (side.opened w.replica.learner.dialect);
        world = record w { replica = t.replica };
      };
    }
meet_leader side (Some l) w = no_output (record { leader = Some l; world = w })

-- All connections are closed, and their watches and requests dropped. Proposals without a commit are forgotten.
abbrev pub disconnect_all : World → StepResult World
disconnect_all w =
    let closed = close_all_clients w.clients in
    record {
      outputs = closed.outputs;
      after =
          record w
          { replica = without_leader w.replica; clients = record closed.after { pending = nothing_pending } };
    }

-- The leader is gone, and the clients are closed.
abbrev pub on_leader_end : {L : Type 0} → World → StepResult (MachineBy L)
on_leader_end w = with_leader None (disconnect_all w)

-- A fault closes the leader and then the open connections. The rest of the leader's bytes is dropped.
abbrev pub on_leader_fault : {L : Type 0} → Fault → World → StepResult (MachineBy L)
on_leader_fault e w = prepend_outputs (CloseLeader e ∷ []) (on_leader_end w)

abbrev pub with_leader_or_fault : {L : Type 0} → World → Result L Fault → StepResult (MachineBy L)
with_leader_or_fault w (Ok l) = no_output (record { leader = Some l; world = w })
with_leader_or_fault w (Err e) = on_leader_fault e w

-- Without a leader its bytes are ignored.
abbrev pub take_leader_bytes : {L : Type 0} → StreamReader L → Option L → World → List ℕ → StepResult (MachineBy L)
take_leader_bytes side None w bytes = no_output (record { leader = None; world = w })
take_leader_bytes side (Some l) w bytes = and_then (side.taken l w bytes) (λ a. with_leader_or_fault a.world a.leader)

-- A stream that ends inside a packet or an image is a fault.
abbrev pub on_stream_end : {L : Type 0} → Result (Unit {0}) Fault → World → StepResult (MachineBy L)
on_stream_end (Ok u) w = on_leader_end w
on_stream_end (Err e) w = on_leader_fault e w

abbrev pub end_leader : {L : Type 0} → StreamReader L → Option L → World → StepResult (MachineBy L)
end_leader side None w = no_output (record { leader = None; world = w })
end_leader side (Some l) w = on_stream_end (side.ended l) w
