-- After every event the replica follows its log.
use Rattle.std.proofs.Common.{◌≡◌, ℕ, List, Option, Some, None, Result, Ok, Err, false, sym, subst, refl}
use Rattle.values.specs.declared.fault.Fault.{Fault}
use Rattle.jute.specs.Format.{◌>>=◌}
use Rattle.jute.specs.Stream.{with_more_bytes}
use Rattle.quorum_packet.specs.declared.item.Item.{Item}
use Rattle.quorum_packet.specs.Items.{items_shown_at}
use Rattle.quorum_packet.specs.Feed.{end_of}
use Rattle.replica.specs.Taking.{ItemEffect, take_item}
use Rattle.replica.specs.Laws.{FollowsItsLog, LogsAreFollowed as ReplicasFollow}
use Rattle.observer_core.specs.declared.event.Event.{Event}
use Rattle.observer_core.specs.declared.event.Event.TheVariants as event
use Rattle.world.specs.World.{World}
use Rattle.observer_core.specs.Machine.{Leader, Machine}
use Rattle.observer_core.specs.Leader.{tell_effect, answer_news, WorldAndLoading, step_with_loading, send_effect, item_step, Delivery, delivery_of, deliver_item, is_refused, deliver_all, place_after, part_reader, leader_at, meet_leader, with_leader_or_fault, take_leader_bytes, on_stream_end, end_leader}
use Rattle.world.specs.Clients.{heard_connection}
use Rattle.client_service.specs.Serve.{take_client_bytes, open_client, end_client, expire_session}
use Rattle.observer_core.specs.Play.{is_serving_clients, play_event, primed_session}
use Rattle.observer_core.specs.Logs.{MachinesFollowTheirLogs}
use Rattle.observer_core.proofs.Keeping.{happening_keeps}
use Rattle.observer_core.proofs.Unmoved.{client_same, open_same, end_same, expire_same, news_same}

abbrev pub Follows : World → Type 0
Follows w = FollowsItsLog w.replica

-- Another world with the same replica.
still_follows : (w v : World) → v.replica ≡ w.replica → Follows w → Follows v
still_follows w v same f = subst FollowsItsLog (sym same) f

module _ (law : ReplicasFollow) where
  pub deliver_follows : (d : Delivery WorldAndLoading) (i : Item) → Follows d.left.world
      → Follows (deliver_item item_step d i).after.left.world
  deliver_follows d i f = by (take_item d.left.loading d.left.world.replica i) refl
    where
      by : (r : Result ItemEffect Fault) → take_item d.left.loading d.left.world.replica i ≡ r
          → Follows (delivery_of (r >>= λ t. Ok (step_with_loading t.loading (send_effect d.left.world t)))
          d.left).after.left.world
      by (Ok t) e =
          let told = (tell_effect d.left.world t).after in
          still_follows told (answer_news t.news told).after (news_same t.news told)
          (law.takes d.left.loading d.left.world.replica i t f e)
      by (Err e) refused = f

  leave_follows : (w : World) (leader : Result Leader Fault) → Follows w
      → Follows (with_leader_or_fault w leader).after.world
  leave_follows w (Ok l) f = f
  leave_follows w (Err e) f = law.leaves w.replica f

  leader_follows : (leader : Option Leader) (w : World) (bytes : List ℕ) → Follows w
      → Follows (take_leader_bytes part_reader leader w bytes).after.world
  leader_follows None w bytes f = f
  leader_follows (Some l) w bytes f =
      let v : WorldAndLoading = record { loading = l.loading; world = w } in
      let found = items_shown_at (with_more_bytes l.place bytes) in
      let h = deliver_all item_step v found.found in
      leave_follows h.after.left.world (leader_at h.after.left.loading (place_after found.left h.after.fault))
      (happening_keeps (λ (d : Delivery WorldAndLoading). Follows d.left.world) is_refused (deliver_item item_step)
      (λ d i _. deliver_follows d i)
      (record { left = v; fault = None }) found.found f)

  meet_follows : (leader : Option Leader) (w : World) → Follows w
      → Follows (meet_leader part_reader leader w).after.world
  meet_follows None w f = law.begins w.replica w.settings.server_id f
  meet_follows (Some l) w f = f

  end_follows : (leader : Option Leader) (w : World) → Follows w → Follows (end_leader part_reader leader w).after.world
  end_follows None w f = f
  end_follows (Some l) w f = by (end_of l.place)
    where
      by : (r : Result (Unit {0}) Fault) → Follows (on_stream_end {L = Leader} r w).after.world
      by (Ok u) = law.leaves w.replica f
      by (Err e) = law.leaves w.replica f

  happen_follows : (m : Machine) (e : Event) → Follows m.world → Follows (play_event m e).after.world
  happen_follows m event.LeaderUp f = meet_follows m.leader m.world f
  happen_follows m (event.LeaderBytes bytes) f = leader_follows m.leader m.world bytes f
  happen_follows m event.LeaderEnd f = end_follows m.leader m.world f
  happen_follows m (event.ClientUp n address) f =
      still_follows m.world (open_client n address m.world) (open_same n address m.world) f
  happen_follows m (event.ClientBytes n bytes) f =
      let connection = heard_connection n m.world.clients in
      still_follows m.world (take_client_bytes (is_serving_clients m.world) n m.world connection bytes).after
      (client_same (is_serving_clients m.world) n m.world connection bytes) f
  happen_follows m (event.ClientEnd n) f = still_follows m.world (end_client n m.world) (end_same n m.world) f
  happen_follows m (event.Expire session) f =
      still_follows m.world (expire_session m.world session).after (expire_same m.world session) f
  happen_follows m event.Checkpoint f = law.rebases m.world.replica f

  pub logs_are_followed : MachinesFollowTheirLogs
  logs_are_followed = record {
    starts = λ settings. law.made settings.dialect settings.epochs;
    starts_primed = λ settings. law.primed settings.dialect (primed_session settings) settings.timeouts.greatest;
    plays = happening_keeps (λ (m : Machine). Follows m.world) (λ (m : Machine). false) play_event
        (λ m e _. happen_follows m e);
  }
