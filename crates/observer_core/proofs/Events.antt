-- What each event keeps, every list of events keeps.
use Rattle.std.proofs.Common.{◌≡◌, ℕ, ℤ, false, List, [], ◌∷◌, Option, Some, None, Result, Ok, Err, refl, ap, subst, sym}
use Rattle.std.proofs.lemmas.Bool.{cond_both}
use Rattle.std.specs.FinMap as finmap
use Rattle.values.specs.declared.fault.Fault.{Fault}
use Rattle.jute.specs.Format.{◌>>=◌}
use Rattle.jute.specs.Stream.{with_more_bytes}
use Rattle.snapshot_codec.specs.Made.{Loading}
use Rattle.quorum_packet.specs.declared.item.Item.{Item}
use Rattle.quorum_packet.specs.Items.{items_shown_at}
use Rattle.quorum_packet.specs.Feed.{end_of}
use Rattle.replica.specs.Taking.{ItemEffect, take_item}
use Rattle.sessions.specs.State.{SessionTable as Sessions, ConnectedClient}
use Rattle.sessions.specs.Sessions.{connection_of, close_as, close_if_some, close_connection}
use Rattle.world.specs.declared.output.Output.TheVariants.{CloseClient}
use Rattle.world.specs.World.{World}
use Rattle.world.specs.Steps.{StepResult}
use Rattle.world.specs.Clients.{idle_connection, is_open, heard_connection, with_connection, without_client}
use Rattle.world.specs.Sending.{close_client, with_sessions, close_client_if_some}
use Rattle.client_service.specs.Serve.{take_client_bytes, address_for, expire_session}
use Rattle.world.proofs.NatMaps.{get-removed}
use Rattle.observer_core.specs.declared.event.Event.{Event}
use Rattle.observer_core.specs.declared.event.Event.TheVariants as event
use Rattle.observer_core.specs.Machine.{Leader, Machine}
use Rattle.observer_core.specs.Leader.{WorldAndLoading, step_with_loading, send_effect, item_step, Delivery, delivery_of, deliver_item, is_refused, deliver_all, place_after, part_reader, leader_at, meet_leader, disconnect_all, with_leader_or_fault, take_leader_bytes, on_stream_end, end_leader}
use Rattle.observer_core.specs.Play.{is_serving_clients, with_checkpoint, play_event, play}
use Rattle.observer_core.proofs.Keeping.{happening_keeps}

-- ---- a session that is expired

-- A connection that is closed twice is closed.
close_again : (s : Sessions) (n : ℕ) → close_connection (close_connection s n) n ≡ close_connection s n
close_again s n = by (finmap.get s.connections n) refl
  where
    by : (o : Option ConnectedClient) → finmap.get s.connections n ≡ o
        → close_connection (close_as s n o) n ≡ close_as s n o
    by None e = ap (close_as s n) e
    by (Some c) e = ap (close_as (close_as s n (Some c)) n) (get-removed s.connections n)

-- A session that is expired only closes its connection.
pub expired_is_closed : (w : World) (session : ℤ)
    → expire_session w session ≡ close_client_if_some w (connection_of w.clients.sessions session)
expired_is_closed w session = by (connection_of w.clients.sessions session)
  where
    by : (o : Option ℕ)
        → close_client_if_some (with_sessions w (close_if_some w.clients.sessions o)) o ≡ close_client_if_some w o
    by None = refl
    by (Some n) =
        ap (λ (s : Sessions). record {
          outputs = CloseClient n ∷ [];
          after = record w { clients = record (without_client n w.clients) { sessions = s } };
        }) (close_again w.clients.sessions n)

-- ---- all events

-- Every event keeps it.
pub record IsKept (P : World → Type 0) : Type 0 where
  pub meets : (w : World) → P w → P (meet_leader part_reader None w).after.world
  pub effects : (loading : Loading) (w : World) (i : Item) (t : ItemEffect) → take_item loading w.replica i ≡ Ok t
      → P w → P (send_effect w t).after
  pub gone : (w : World) → P w → P (disconnect_all w).after
  pub opens : (n : ℕ) (address : Option (List ℕ)) (w : World) → P w
      → P (record w { clients = with_connection n (idle_connection address) w.clients })
  pub bytes : (n : ℕ) (w : World) (bytes : List ℕ) → P w
      → P (take_client_bytes (is_serving_clients w) n w (heard_connection n w.clients) bytes).after
  pub closes : (n : ℕ) (w : World) → P w → P (close_client n w).after
  pub checkpoints : (w : World) → P w → P (with_checkpoint w)

module _ (P : World → Type 0) (k : IsKept P) where
  pub deliver_keeps : (d : Delivery WorldAndLoading) (i : Item) → P d.left.world
      → P (deliver_item item_step d i).after.left.world
  deliver_keeps d i p = by (take_item d.left.loading d.left.world.replica i) refl
    where
      by : (r : Result ItemEffect Fault) → take_item d.left.loading d.left.world.replica i ≡ r
          → P (delivery_of (r >>= λ t. Ok (step_with_loading t.loading (send_effect d.left.world t)))
          d.left).after.left.world
      by (Ok t) e = k.effects d.left.loading d.left.world i t e p
      by (Err f) e = p

  loss_keeps : (w : World) (leader : Result Leader Fault) → P w → P (with_leader_or_fault w leader).after.world
  loss_keeps w (Ok l) p = p
  loss_keeps w (Err e) p = k.gone w p

  leader_keeps : (leader : Option Leader) (w : World) (bytes : List ℕ) → P w
      → P (take_leader_bytes part_reader leader w bytes).after.world
  leader_keeps None w bytes p = p
  leader_keeps (Some l) w bytes p =
      let v : WorldAndLoading = record { loading = l.loading; world = w } in
      let found = items_shown_at (with_more_bytes l.place bytes) in
      let d = (deliver_all item_step v found.found).after in
      loss_keeps d.left.world (leader_at d.left.loading (place_after found.left d.fault))
      (happening_keeps (λ (d : Delivery WorldAndLoading). P d.left.world) is_refused (deliver_item item_step)
      (λ d i _. deliver_keeps d i)
      (record { left = v; fault = None }) found.found p)

  meet_keeps : (leader : Option Leader) (w : World) → P w → P (meet_leader part_reader leader w).after.world
  meet_keeps None w p = k.meets w p
  meet_keeps (Some l) w p = p

  end_keeps : (leader : Option Leader) (w : World) → P w → P (end_leader part_reader leader w).after.world
  end_keeps None w p = p
  end_keeps (Some l) w p = by (end_of l.place)
    where
      by : (r : Result (Unit {0}) Fault) → P (on_stream_end {L = Leader} r w).after.world
      by (Ok u) = k.gone w p
      by (Err e) = k.gone w p

  left_keeps : (w : World) (o : Option ℕ) → P w → P (close_client_if_some w o).after
  left_keeps w None p = p
  left_keeps w (Some n) p = k.closes n w p

  pub event_keeps : (m : Machine) (e : Event) → P m.world → P (play_event m e).after.world
  event_keeps m event.LeaderUp p = meet_keeps m.leader m.world p
  event_keeps m (event.LeaderBytes bytes) p = leader_keeps m.leader m.world bytes p
  event_keeps m event.LeaderEnd p = end_keeps m.leader m.world p
  event_keeps m (event.ClientUp n address) p =
      cond_both (is_open n m.world.clients) _ _ P (λ _. p)
      (λ _. k.opens n (address_for address m.world.settings.dialect) m.world p)
  event_keeps m (event.ClientBytes n bytes) p = k.bytes n m.world bytes p
  event_keeps m (event.ClientEnd n) p =
      cond_both (is_open n m.world.clients) _ _ P (λ _. k.closes n m.world p) (λ _. p)
  event_keeps m (event.Expire session) p =
      subst (λ (h : StepResult World). P h.after) (sym (expired_is_closed m.world session))
      (left_keeps m.world (connection_of m.world.clients.sessions session) p)
  event_keeps m event.Checkpoint p = k.checkpoints m.world p

  -- What every event keeps is so after every list of events.
  pub plays_keep : (m : Machine) (events : List Event) → P m.world → P (play m events).after.world
  plays_keep = happening_keeps (λ (m : Machine). P m.world) (λ _. false) play_event (λ m e _ p. event_keeps m e p)
