-- The contracts of the private functions. No public contract cites this.
use Rattle.std.specs.Prelude.{◌≡◌, ℕ, ℤ, List, ◌++◌, map, drop, Result, Ok, Err, Option, Some, None, length, ◌-◌}
use Rattle.std.specs.List.{slice_get}
use Rattle.std.specs.Int.{int_min}
use Rattle.values.specs.Gains.{Gains}
use Rattle.values.specs.declared.fault.Fault.{Fault}
use Rattle.values.specs.declared.fault.NoMemory.{NoMemory}
use Rattle.values.specs.declared.fault.ReadError.{ReadError}
use Rattle.values.specs.declared.fault.ReadError.TheVariants as errors
use Rattle.jute.specs.Stream.{Place, Items, with_first}
use Rattle.quorum_packet.specs.declared.item.Item.{Item}
use Rattle.quorum_packet.specs.declared.phase.Phase.{Phase}
use Rattle.world.specs.declared.output.Output.{Output}
use Rattle.world.specs.World.{World}
use Rattle.observer_core.specs.Machine.{Leader, Machine}
use Rattle.world.specs.Steps.{StepResult, no_output, and_then}
use Rattle.observer_core.specs.Gathering.{tell_outcomes, apply_in_turn}
use Rattle.observer_core.specs.Leader.{WorldAndLoading, StreamProgress, WorldAndLeader, answer_news, item_step, take_items, with_leader}
use Rattle.world.specs.Sending.{to_leader, with_clients_of}
use Rattle.leader_answers.specs.Answering.{answer_applied_txn}
use Rattle.txn_codec.specs.declared.txn.Txn.{Txn}
use Rattle.data_tree.specs.Meaning.{outcomes_of_txns}
use Rattle.data_tree.specs.declared.outcome.Outcome.{Outcome}
use Rattle.data_tree.specs.declared.outcome.Trigger.{Trigger}
use Rattle.quorum_packet.specs.declared.packet.QuorumPacket.{QuorumPacket}
use Rattle.world.specs.Clients.{notices_of}
use Rattle.replica.specs.declared.item_outcome.ItemOutcome.{ItemOutcome}
use Rattle.watch_manager.specs.Watches.{fire}
use Rattle.world.specs.Results.{MeetsStep, SoFar}
use Rattle.client_service.specs.Runs.{AskedRead, answer_all_asked}

-- The packets go to the leader, and an event to each watcher.
abbrev pub tell_all : World → List QuorumPacket → List Trigger → StepResult World
tell_all w packets triggers =
    let fired = fire w.clients.watches triggers in
    record {
      outputs = map to_leader packets ++ notices_of fired.events;
      after = record w { clients = record w.clients { watches = fired.left } };
    }

-- What an item brought is told, and then the clients that it concerns are answered.
abbrev pub send_outcome : World → ItemOutcome → StepResult World
send_outcome w brought = and_then (tell_all w brought.replies brought.triggers) (answer_news brought.news)

-- A packet or part was taken; or it was refused, and nothing changed; or an allocation was refused.
abbrev pub ReceivesItem : Result (Unit {0}) ReadError → List Output → Result (StepResult WorldAndLoading) Fault
    → WorldAndLoading
    → List Output → WorldAndLoading → Type 0
ReceivesItem (Ok u) old (Ok h) before new after = MeetsStep (Ok u) old h new after
ReceivesItem (Ok u) old (Err e) before new after = ⊥
ReceivesItem (Err errors.NoMemory) old (Ok h) before new after = Gains old h.outputs new
ReceivesItem (Err errors.NoMemory) old (Err e) before new after = new ≡ old
ReceivesItem (Err (errors.Fault e)) old meant before new after = (meant ≡ Err e) × ((new ≡ old) × (after ≡ before))

-- The transactions of the log after the first `done` are applied, and then the items are taken.
abbrev pub take_items_after : ℕ → WorldAndLoading → Items Phase Item → StepResult (StreamProgress Phase WorldAndLoading)
take_items_after done d found =
    and_then (apply_in_turn d.world (drop done d.world.replica.learner.log))
    (λ w. take_items item_step (record d { world = w }) found)

-- The transaction at this place of the log, which has this outcome, answers its client.
abbrev pub answer_outcome : ℕ → Option Outcome → World → StepResult World
answer_outcome place None w = no_output w
answer_outcome place (Some outcome) w = answer_applied_txn w place outcome.results

abbrev pub last_outcome : List Outcome → Option Outcome
last_outcome outcomes = slice_get outcomes (length outcomes - 1)

-- The watchers of each outcome are told, and then the client of the last, whose transaction has this place.
abbrev pub tell_and_answer : World → ℕ → List Outcome → StepResult World
tell_and_answer w place outcomes =
    and_then (with_clients_of w (tell_outcomes w.clients outcomes)) (answer_outcome place (last_outcome outcomes))

-- The transactions are applied one after the other, and the last, which has this place, answers its client.
abbrev pub settle_and_answer : World → ℕ → List Txn → StepResult World
settle_and_answer w place txns =
    and_then (apply_in_turn w txns) (answer_outcome place (last_outcome (outcomes_of_txns w.replica.tree txns)))

-- One more item was taken or gathered; or it was refused, and what was gathered before it is settled; or an allocation
-- was refused. The others are the items after it.
abbrev pub TakesNextItem : Result (Unit {0}) ReadError → List Output → ℕ → WorldAndLoading → Item → List Output → ℕ
    → WorldAndLoading → Type 0
TakesNextItem (Ok u) old done before i new done-after after =
    (others : Items Phase Item)
    → SoFar old (take_items_after done before (with_first i others)) new (take_items_after done-after after others)
TakesNextItem (Err (errors.Fault e)) old done before i new done-after after =
    (others : Items Phase Item)
    → MeetsStep (Ok tt) old (take_items_after done before (with_first i others)) new
    (record { left = after; place = Err e })
TakesNextItem (Err errors.NoMemory) old done before i new done-after after =
    (others : Items Phase Item) → Gains old (take_items_after done before (with_first i others)).outputs new

-- Packets and parts were delivered, and the stream goes on or ended with a fault.
abbrev pub DeliversItems : Result (Option Fault) NoMemory → List Output
    → StepResult (StreamProgress Phase WorldAndLoading) → List Output
    → Place Phase → WorldAndLoading → Type 0
DeliversItems (Ok None) old whole new place left =
    MeetsStep (Ok tt) old whole new (record { left = left; place = Ok place })
DeliversItems (Ok (Some e)) old whole new place left =
    MeetsStep (Ok tt) old whole new (record { left = left; place = Err e })
DeliversItems (Err e) old whole new place left = Gains old whole.outputs new

-- A piece was taken, and the stream goes on or ended with a fault.
abbrev pub FollowsStream : Result (Option Fault) NoMemory → List Output → StepResult (WorldAndLeader Leader)
    → List Output → Leader
    → World → Type 0
FollowsStream (Ok None) old whole new leader world =
    MeetsStep (Ok tt) old whole new (record { world = world; leader = Ok leader })
FollowsStream (Ok (Some e)) old whole new leader world =
    MeetsStep (Ok tt) old whole new (record { world = world; leader = Err e })
FollowsStream (Err e) old whole new leader world = Gains old whole.outputs new

-- The reads that wait are answered.
abbrev pub answer_waiting : List AskedRead → Machine → StepResult Machine
answer_waiting asked m = with_leader m.leader (answer_all_asked asked m.world)

-- After the reads that waited a step was made, but for the answers to the reads that wait now; or an allocation was
-- refused.
abbrev pub LeavesReads : Result (Unit {0}) NoMemory → StepResult Machine → List AskedRead
    → (Machine → StepResult Machine) → StepResult Machine → List AskedRead → Type 0
LeavesReads (Ok u) old asked step new left =
    SoFar old.outputs (and_then (answer_waiting asked old.after) step) new.outputs (answer_waiting left new.after)
LeavesReads (Err e) old asked step new left =
    Gains old.outputs (and_then (answer_waiting asked old.after) step).outputs new.outputs

-- The lesser of two timeouts, of which each may be missing.
abbrev pub lesser_timeout : Option ℤ → Option ℤ → Option ℤ
lesser_timeout None other = other
lesser_timeout (Some one) None = Some one
lesser_timeout (Some one) (Some other) = Some (int_min one other)
