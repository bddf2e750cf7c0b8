-- The turns of the loops over the leader's packets and parts, and over the connections.
use Rattle.std.proofs.Common.{append_assoc, map, ◌≡◌, ℕ, List, [], ◌∷◌, ◌++◌, Result, Ok, Err, Some, refl, sym, ap, subst, ◌∙◌}
use Rattle.std.specs.FinMap as finmap
use Rattle.std.specs.List.{All, AllByRecursion}
use Rattle.std.proofs.lemmas.List.Elements.{All-nil, All-cons}
use Rattle.values.specs.declared.fault.Fault.{Fault}
use Rattle.values.specs.declared.fault.NoMemory.{NoMemory}
use Rattle.values.specs.declared.fault.ReadError.TheVariants as errors
use Rattle.values.specs.Gains.{Gains, Puts}
use Rattle.values.proofs.Gaining.{gains_nothing, gains_behind}
use Rattle.jute.specs.Stream.{Place, Items, with_first}
use Rattle.quorum_packet.specs.declared.item.Item.{Item}
use Rattle.quorum_packet.specs.declared.phase.Phase.{Phase}
use Rattle.world.specs.declared.output.Output.{Output}
use Rattle.world.specs.World.{OpenConnection, OpenConnections, Clients, World}
use Rattle.world.specs.Steps.{StepResult, prepend_outputs, no_output, and_then, fold_steps}
use Rattle.world.specs.Clients.{close_clients, close_all_clients, notices_of}
use Rattle.observer_core.specs.Leader.{WorldAndLoading, step_with_loading, send_effect, item_step, Delivery, delivery_of, deliver_item, is_refused, place_after, StreamProgress, take_items}
use Rattle.world.specs.Sending.{with_watches, to_leader}
use Rattle.data_tree.specs.declared.outcome.Trigger.{Trigger}
use Rattle.quorum_packet.specs.declared.packet.QuorumPacket.{QuorumPacket}
use Rattle.observer_core.specs.Inner.{tell_all, send_outcome, ReceivesItem}
use Rattle.world.specs.Results.{MeetsStep}
use Rattle.jute.specs.Format.{◌>>=◌}
use Rattle.snapshot_codec.specs.Made.{Loading}
use Rattle.replica.specs.Replica.{Replica}
use Rattle.replica.specs.declared.item_outcome.ItemOutcome.{ItemOutcome}
use Rattle.replica.specs.Taking.{ItemEffect, TakesItem, take_item}
use Rattle.watch_manager.specs.declared.event.Event.{Event}
use Rattle.watch_manager.specs.Watches.{fire}
use Rattle.values.specs.declared.fault.ReadError.{ReadError}
use Rattle.world.proofs.Steps.{SoFar, steps, ends, stops, stops_in_step, passed_over}
use Rattle.world.proofs.NatMaps.{keys-empty}

abbrev came_to : Items Phase Item → StepResult (Delivery WorldAndLoading)
    → StepResult (StreamProgress Phase WorldAndLoading)
came_to i h = record {
  outputs = h.outputs;
  after = record { left = h.after.left; place = place_after i.left h.after.fault };
}

abbrev first_taken : WorldAndLoading → Items Phase Item → Result (StepResult WorldAndLoading) Fault
    → StepResult (StreamProgress Phase WorldAndLoading)
first_taken w i r = came_to i (and_then (delivery_of r w)
    (λ d. fold_steps is_refused (deliver_item item_step) d i.found))

-- No output on the way there.
abbrev pub quietly : WorldAndLoading → Result (Place Phase) Fault → StepResult (StreamProgress Phase WorldAndLoading)
quietly w place = no_output (record { left = w; place = place })

module _ (w : WorldAndLoading) (found : Items Phase Item) where
  pub taken_first : (p : Item) (others : Items Phase Item) (h : StepResult WorldAndLoading)
      → found ≡ with_first p others
      → item_step w p ≡ Ok h
      → take_items item_step w found ≡ prepend_outputs h.outputs (take_items item_step h.after others)
  taken_first p others h is taken = ap (take_items item_step w) is ∙ ap (first_taken w others) taken

  pub refused_first : (p : Item) (others : Items Phase Item) (e : Fault) → found ≡ with_first p others
      → item_step w p ≡ Err e
      → take_items item_step w found ≡ quietly w (Err e)
  refused_first p others e is refused =
      ap (take_items item_step w) is ∙ ap (first_taken w others) refused
      ∙ ap (came_to others) (passed_over is_refused (deliver_item item_step) (record { left = w; fault = Some e })
      others.found refl)

-- ---- one more packet or part

module _ (old now new : List Output) (whole : StepResult (StreamProgress Phase WorldAndLoading))
    (w after : WorldAndLoading)
    (found others : Items Phase Item) (p : Item)
    (is : found ≡ with_first p others) (s : SoFar old whole now (take_items item_step w found)) where
  pub packet_taken : ReceivesItem (Ok tt) now (item_step w p) w new after
      → SoFar old whole new (take_items item_step after others)
  packet_taken received = by (item_step w p) refl received
    where
      by : (m : Result (StepResult WorldAndLoading) Fault) → item_step w p ≡ m → ReceivesItem (Ok tt) now m w new after
          → SoFar old whole new (take_items item_step after others)
      by (Ok h) taken made = steps old whole now new (take_items item_step w found) h
          (λ (v : WorldAndLoading). take_items item_step v others)
          after (taken_first w found p others h is taken) made s
      by (Err e) refused none = absurd none

  -- An allocation was refused while it was taken.
  pub packet_stops : ReceivesItem (Err errors.NoMemory) now (item_step w p) w new after → Gains old whole.outputs new
  packet_stops received = by (item_step w p) refl received
    where
      by : (m : Result (StepResult WorldAndLoading) Fault) → item_step w p ≡ m
          → ReceivesItem (Err errors.NoMemory) now m w new after
          → Gains old whole.outputs new
      by (Ok h) taken g = stops_in_step old whole now new (take_items item_step w found) h
          (λ (v : WorldAndLoading). take_items item_step v others) (taken_first w found p others h is taken) g s
      by (Err e) refused same = stops old whole now new (take_items item_step w found)
          (rw same (gains_nothing now (take_items item_step w found).outputs)) s

  pub packet_refused : (e : Fault) → ReceivesItem (Err (errors.Fault e)) now (item_step w p) w new after
      → prepend_outputs old whole ≡ record { outputs = new; after = record { left = after; place = Err e } }
  packet_refused e received =
      ends old whole now (take_items item_step w found) (record { left = w; place = Err e })
      (refused_first w found p others e is received.0) s
      ∙ (λ i. record { outputs = sym received.1.0 i; after = record { left = sym received.1.1 i; place = Err e } })

-- ---- what is sent

pub all_of : {A : Type 0} (P : A → Type 0) (xs : List A) → AllByRecursion P xs → All P xs
all_of P [] a = All-nil P
all_of P (x ∷ xs) a = All-cons P x xs a.0 (all_of P xs a.1)

-- The packets were sent, and then all of the events or a prefix of them.
pub told_first : (r : Result (Unit {0}) NoMemory) (old mid new sent told : List Output) → mid ≡ old ++ sent
    → Puts r mid told new
    → Puts r old (sent ++ told) new
told_first (Ok u) old mid new sent told is put = put ∙ ap (λ (o : List Output). o ++ told) is
    ∙ append_assoc old sent told
told_first (Err e) old mid new sent told is gains = gains_behind old sent is gains

pub told_meets : (r : Result (Unit {0}) NoMemory) (old mid new : List Output) (w after : World)
    (packets : List QuorumPacket) (triggers : List Trigger) (events : List (ℕ × Event))
    → events ≡ (fire w.clients.watches triggers).events
    → after ≡ with_watches w (fire w.clients.watches triggers).left
    → mid ≡ old ++ map to_leader packets → Puts r mid (notices_of events) new
    → MeetsStep r old (tell_all w packets triggers) new after
told_meets (Ok u) old mid new w after packets triggers events fired rest sent put =
    let sends = map to_leader packets in
    let all : new ≡ old ++ (sends ++ notices_of (fire w.clients.watches triggers).events) =
    told_first (Ok tt) old mid new sends (notices_of (fire w.clients.watches triggers).events) sent
    (put ∙ ap (λ (es : List (ℕ × Event)). mid ++ notices_of es) fired) in
    λ i. record { outputs = sym all i; after = sym rest i }
told_meets (Err e) old mid new w after packets triggers events fired rest sent gains =
    gains_behind old (map to_leader packets) sent
    (subst (λ (es : List (ℕ × Event)). Gains mid (notices_of es) new) fired gains)

module _ (d : WorldAndLoading) (i : Item) (old : List Output) where
  abbrev telling_it : Result ItemEffect Fault → Result (StepResult WorldAndLoading) Fault
  telling_it r = r >>= λ t. Ok (step_with_loading t.loading (send_effect d.world t))

  module _ (brought : ItemOutcome) (loading : Loading) (r : Replica)
      (taken : take_item d.loading d.world.replica i ≡ Ok
      (record {
        replies = brought.replies;
        triggers = brought.triggers;
        news = brought.news;
        loading = loading;
        replica = r;
      })) where
    -- The item was taken, and its effect was sent.
    pub received : (new : List Output) (after : World)
        → MeetsStep (Ok tt) old (send_outcome (record d.world { replica = r }) brought) new after
        → ReceivesItem (Ok tt) old (item_step d i) d new (record { loading = loading; world = after })
    received new after told =
        subst (λ (m : Result (StepResult WorldAndLoading) Fault).
        ReceivesItem (Ok tt) old m d new (record { loading = loading; world = after }))
        (sym (ap telling_it taken)) (ap (step_with_loading loading) told)

  -- An allocation was refused while it was taken.
  pub untaken : (after : WorldAndLoading) → ReceivesItem (Err errors.NoMemory) old (item_step d i) d old after
  untaken after = by (item_step d i)
    where
      by : (m : Result (StepResult WorldAndLoading) Fault) → ReceivesItem (Err errors.NoMemory) old m d old after
      by (Ok h) = gains_nothing old h.outputs
      by (Err e) = refl

  -- The item was refused for a fault.
  pub refused : (e : Fault) (loading : Loading) (r : Replica) → take_item d.loading d.world.replica i ≡ Err e
      → loading ≡ d.loading → r ≡ d.world.replica
      → ReceivesItem (Err (errors.Fault e)) old (item_step d i) d old
      (record { loading = loading; world = record d.world { replica = r } })
  refused e loading r taken same_loading same_replica = (
    ap telling_it taken,
    (
      refl,
      λ i. record {
        loading = same_loading i;
        world = record d.world { replica = same_replica i };
      },
    ),
  )

  -- The item was refused, or an allocation was.
  pub not_taken : (e : ReadError) (loading : Loading) (r : Replica)
      → TakesItem (Err e) (take_item d.loading d.world.replica i)
      d.loading d.world.replica loading r
      → ReceivesItem (Err e) old (item_step d i) d old
      (record { loading = loading; world = record d.world { replica = r } })
  not_taken errors.NoMemory loading r t = untaken (record { loading = loading; world = record d.world { replica = r } })
  not_taken (errors.Fault e) loading r t = refused e loading r t.0 t.1 t.2

-- ---- connections

pub none_open : (old : Clients) → old.connections ≡ finmap.empty → close_all_clients old ≡ no_output old
none_open old is =
    ap (λ (m : OpenConnections). close_clients (finmap.keys m) old) is ∙ ap (λ (ks : List ℕ). close_clients ks old)
    (keys-empty OpenConnection)
