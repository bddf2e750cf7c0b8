-- A machine that takes a leader's stream part by part, and one that takes whole images, stay alike.
use Rattle.std.proofs.Common.{◌≡◌, ℕ, Bool, true, false, List, [], ◌∷◌, ◌++◌, Option, Some, None, Result, Ok, Err, refl, sym, ap, subst, ◌∙◌}
use Rattle.settings.specs.declared.dialect.Dialect.{Dialect}
use Rattle.values.specs.declared.fault.Fault.{Fault}
use Rattle.jute.specs.Stream.{Unread, Place, with_more_bytes, items_in}
use Rattle.learner_sync.specs.Learner.{Learner}
use Rattle.learner_sync.specs.Learn.{checkpoint_in}
use Rattle.learner_sync.specs.declared.phase.Phase.{Phase as LearnerPhase}
use Rattle.learner_sync.specs.declared.phase.Phase.TheVariants as phase
use Rattle.snapshot_codec.specs.Made.{Loading}
use Rattle.quorum_packet.specs.Feed.{stream_end}
use Rattle.quorum_packet.specs.GroupedItems.{SameUnread, SamePlace, PiecesAreGrouped, ItemsAreInOrder}
use Rattle.quorum_packet.specs.Items.{items_shown_at}
use Rattle.quorum_packet.specs.WholeItems.{is_owed, whole_items}
use Rattle.quorum_packet.specs.declared.phase.Phase.{Phase}
use Rattle.quorum_packet.specs.declared.phase.Phase.TheVariants.{Packets, Image}
use Rattle.replica.specs.Replica.{Replica}
use Rattle.replica.specs.Taking.{nothing_loaded, follow_leader, is_serving, checkpoint_if}
use Rattle.replica.specs.Laws.{awaits_image_in, ImagesComeInParts, DialectStays}
use Rattle.observer_core.specs.declared.event.Event.{Event}
use Rattle.observer_core.specs.declared.event.Event.TheVariants as event
use Rattle.world.specs.World.{World}
use Rattle.observer_core.specs.Machine.{Leader, MachineBy, Machine}
use Rattle.world.specs.Steps.{StepResult, prepend_outputs, no_output}
use Rattle.observer_core.specs.Leader.{WorldAndLoading, item_step, whole_item_step, StreamProgress, take_items, leader_at, whole_end, part_reader, image_reader, with_leader, on_leader_fault, with_leader_or_fault, on_stream_end}
use Rattle.world.specs.Clients.{heard_connection}
use Rattle.client_service.specs.Serve.{take_client_bytes, open_client, end_client, expire_session}
use Rattle.observer_core.specs.Play.{is_serving_clients, with_checkpoint, play_event_by, play_event, play_by, play, new_machine, primed_machine, new_by, primed_by}
use Rattle.observer_core.specs.WholeImages.{HasSameEffect, PartsAreWholeImages}
use Rattle.observer_core.proofs.Simulation.{Expected, expected, Alike, LeadersAlike, Same, arrives_same}
use Rattle.observer_core.proofs.Unmoved.{client_same, open_same, end_same, expire_same}

-- ---- the relation

abbrev OpenAlike : Expected → Option Leader → Option (Place Bool) → Type 0
OpenAlike x None None = Unit {0}
OpenAlike x (Some l) (Some p) = Alike l.loading x l.place p
OpenAlike x l p = ⊥

record MachinesAlike (m : Machine) (n : MachineBy (Place Bool)) : Type 0 where
  world : m.world ≡ n.world
  leader : OpenAlike (expected m.world.replica) m.leader n.leader

record SameStep (a : StepResult Machine) (b : StepResult (MachineBy (Place Bool))) : Type 0 where
  outputs : a.outputs ≡ b.outputs
  machine : MachinesAlike a.after b.after

-- ---- the leader's bytes

-- The machine by parts after the items that came.
abbrev stood : StepResult (StreamProgress Phase WorldAndLoading) → Result (Place Phase) Fault → StepResult Machine
stood a r = prepend_outputs a.outputs (with_leader_or_fault a.after.left.world (leader_at a.after.left.loading r))

abbrev whole_stood : StepResult (StreamProgress Bool World) → Result (Place Bool) Fault
    → StepResult (MachineBy (Place Bool))
whole_stood b r = prepend_outputs b.outputs (with_leader_or_fault b.after.left r)

stood_same : (a : StepResult (StreamProgress Phase WorldAndLoading)) (b : StepResult (StreamProgress Bool World))
    → Same a b
    → SameStep (stood a a.after.place) (whole_stood b b.after.place)
stood_same a b s = by a.after.place b.after.place s.leader
  where
    by : (p : Result (Place Phase) Fault) (q : Result (Place Bool) Fault)
        → LeadersAlike a.after.left.loading (expected a.after.left.world.replica) p q
        → SameStep (stood a p) (whole_stood b q)
    by (Ok p) (Ok q) alike =
        record { outputs = λ i. s.outputs i ++ []; machine = record { world = s.world; leader = alike } }
    by (Err d) (Err e) same = record {
      outputs = λ i. s.outputs i ++ (on_leader_fault {L = Leader} (same i) (s.world i)).outputs;
      machine = record { world = λ i. (on_leader_fault {L = Leader} (same i) (s.world i)).after.world; leader = tt };
    }
    by (Ok p) (Err e) alike = absurd alike
    by (Err d) (Ok q) alike = absurd alike

-- ---- the end of a stream

ends_at : (d : Dialect) (l : Loading) (phase : Phase) (u v : Unread) → SameUnread d l phase u v
    → stream_end phase u ≡ whole_end (is_owed phase) v
ends_at d l (Packets dialect) (Ok u) (Ok v) s = ap (λ (x : List ℕ). stream_end (Packets dialect) (Ok x)) s.1 ∙ by v
  where
    by : (x : List ℕ) → stream_end (Packets dialect) (Ok x) ≡ whole_end false (Ok x)
    by [] = refl
    by (b ∷ bytes) = refl
ends_at d l (Image dialect phase) (Ok u) (Ok v) s = refl
ends_at d l phase (Err fault) (Err e) s = ap (λ x. Err x) s
ends_at d l phase (Ok u) (Err e) s = absurd s
ends_at d l phase (Err fault) (Ok v) s = absurd s

ends_same : (d : Dialect) (l : Loading) (place : Place Phase) (whole : Place Bool) → SamePlace d l place whole
    → stream_end place.phase place.unread ≡ whole_end whole.phase whole.unread
ends_same d l place whole s =
    ends_at d l place.phase place.unread whole.unread s.2
    ∙ ap (λ (owed : Bool). whole_end owed whole.unread) (sym s.1)

ended_same : (w : World) (r : Result (Unit {0}) Fault) → SameStep (on_stream_end r w) (on_stream_end r w)
ended_same w (Ok u) = record { outputs = refl; machine = record { world = refl; leader = tt } }
ended_same w (Err e) = record { outputs = refl; machine = record { world = refl; leader = tt } }

-- ---- a checkpoint

checkpoint_phase : (p : LearnerPhase) (l : Learner) → (checkpoint_in p l).phase ≡ l.phase
checkpoint_phase phase.Serving l = refl
checkpoint_phase p l = refl

rebased_phase : (b : Bool) (r : Replica) → (checkpoint_if b r).learner.phase ≡ r.learner.phase
rebased_phase true r = checkpoint_phase r.learner.phase r.learner
rebased_phase false r = refl

-- ---- events

-- The world changes, but what counts of the replica doesn't.
beside_same : (w : World) (l : Option Leader) (p : Option (Place Bool)) (h : StepResult World)
    → expected h.after.replica ≡ expected w.replica → OpenAlike (expected w.replica) l p
    → SameStep (with_leader l h) (with_leader p h)
beside_same w l p h same a = record {
  outputs = refl;
  machine = record { world = refl; leader = subst (λ (x : Expected). OpenAlike x l p) (sym same) a };
}

-- Both machines begin a stream at the same place.
opened_alike : (d : Dialect) (x : Expected) → x.dialect ≡ d
    → Alike (part_reader.opened d).loading x (part_reader.opened d).place (image_reader.opened d)
opened_alike d x speaks =
    record { same = (sym speaks, refl, (ap nothing_loaded (sym speaks), refl)); awaited = λ owes. absurd cc }

module _ (law : ImagesComeInParts) (stays : DialectStays) (pieces : PiecesAreGrouped) (order : ItemsAreInOrder) where
  -- Both machines have the same world.
  abbrev SameOn : World → Option Leader → Option (Place Bool) → Event → Type 0
  SameOn w l p e =
      SameStep (play_event_by part_reader (record { leader = l; world = w }) e)
      (play_event_by image_reader (record { leader = p; world = w }) e)

  step_on : (w : World) (l : Option Leader) (p : Option (Place Bool)) (e : Event)
      → OpenAlike (expected w.replica) l p → SameOn w l p e
  step_on w l p (event.ClientUp n address) a =
      beside_same w l p (no_output (open_client n address w)) (ap expected (open_same n address w)) a
  step_on w l p (event.ClientBytes n bytes) a =
      let connection = heard_connection n w.clients in
      beside_same w l p (take_client_bytes (is_serving_clients w) n w connection bytes)
      (ap expected (client_same (is_serving_clients w) n w connection bytes)) a
  step_on w l p (event.ClientEnd n) a =
      beside_same w l p (no_output (end_client n w)) (ap expected (end_same n w)) a
  step_on w l p (event.Expire session) a =
      beside_same w l p (expire_session w session) (ap expected (expire_same w session)) a
  step_on w l p event.Checkpoint a =
      beside_same w l p (no_output (with_checkpoint w))
      (λ i. record {
        dialect = stays.rebases w.replica i;
        image = ap awaits_image_in (rebased_phase (is_serving w.replica) w.replica) i;
      })
      a
  step_on w None None event.LeaderUp a =
      let d = w.replica.learner.dialect in
      let met = follow_leader w.replica w.settings.server_id in
      record {
        outputs = refl;
        machine = record {
          world = refl;
          leader = opened_alike d (expected met.replica) (stays.begins w.replica w.settings.server_id);
        };
      }
  step_on w None None (event.LeaderBytes bytes) a =
      record { outputs = refl; machine = record { world = refl; leader = tt } }
  step_on w None None event.LeaderEnd a = record { outputs = refl; machine = record { world = refl; leader = tt } }
  step_on w (Some l) (Some p) event.LeaderUp a =
      record { outputs = refl; machine = record { world = refl; leader = a } }
  step_on w (Some l) (Some p) (event.LeaderBytes bytes) a =
      stood_same (take_items item_step (record { loading = l.loading; world = w })
      (items_shown_at (with_more_bytes l.place bytes)))
      (take_items whole_item_step w (items_in (whole_items w.replica.learner.dialect) (with_more_bytes p bytes)))
      (arrives_same law stays pieces order l.loading l.place p w bytes a)
  step_on w (Some l) (Some p) event.LeaderEnd a =
      let same = ends_same w.replica.learner.dialect l.loading l.place p a.same in
      let stops = stream_end l.place.phase l.place.unread in
      subst (λ (r : Result (Unit {0}) Fault). SameStep (on_stream_end stops w) (on_stream_end r w)) same
      (ended_same w stops)
  step_on w None (Some p) e a = absurd a
  step_on w (Some l) None e a = absurd a

  step : (m : Machine) (n : MachineBy (Place Bool)) (e : Event) → MachinesAlike m n
      → SameStep (play_event m e) (play_event_by image_reader n e)
  step m n e a =
      subst (λ (w : World). SameStep (play_event m e)
      (play_event_by image_reader (record { leader = n.leader; world = w }) e))
      a.world (step_on m.world m.leader n.leader e a.leader)

  plays_alike : (m : Machine) (n : MachineBy (Place Bool)) (events : List Event) → MachinesAlike m n
      → SameStep (play m events) (play_by image_reader n events)
  plays_alike m n [] a = record { outputs = refl; machine = a }
  plays_alike m n (e ∷ events) a =
      let one = step m n e a in
      let others = plays_alike (play_event m e).after (play_event_by image_reader n e).after events one.machine in
      record { outputs = λ i. one.outputs i ++ others.outputs i; machine = others.machine }

  seen_same : (m : Machine) (n : MachineBy (Place Bool)) (events : List Event) → MachinesAlike m n
      → HasSameEffect (play m events) (play_by image_reader n events)
  seen_same m n events a =
      let s = plays_alike m n events a in
      record { outputs = s.outputs; world = s.machine.world }

  pub parts_are_whole_images : PartsAreWholeImages
  parts_are_whole_images = record {
    made = λ settings events. seen_same (new_machine settings) (new_by image_reader settings) events
        (record { world = refl; leader = tt });
    primed = λ settings events. seen_same (primed_machine settings) (primed_by image_reader settings) events
        (record { world = refl; leader = opened_alike settings.dialect _ refl });
  }
