-- Reads that wait while events are played.
use Rattle.std.proofs.Common.{◌≡◌, List, [], ◌∷◌, ℕ, Option, Result, Ok, Err, Bool, sym, ap, subst, ◌∙◌}
use Rattle.std.proofs.lemmas.List.{append-nil}
use Rattle.world.specs.Clients.{heard_connection}
use Rattle.values.specs.declared.fault.NoMemory.{NoMemory}
use Rattle.sessions.specs.Agreement.{OtherConnectionsStay}
use Rattle.replica.specs.Taking.{is_serving}
use Rattle.world.specs.declared.output.Output.{Output}
use Rattle.world.specs.World.{World}
use Rattle.world.specs.Steps.{StepResult, no_output, and_then}
use Rattle.client_service.specs.Serve.{take_client_bytes}
use Rattle.world.specs.Results.{MeetsStep, MakesStep}
use Rattle.client_service.specs.Runs.{AskedRead, answer_all_asked, MakesOwing}
use Rattle.world.proofs.Steps.{begins, steps, same_left, behind_behind, then_meets}
use Rattle.client_service.proofs.Running.{answered_kept, kept_itself}
use Rattle.observer_core.specs.declared.event.Event.{Event}
use Rattle.observer_core.specs.declared.event.Event.TheVariants.{ClientBytes}
use Rattle.observer_core.specs.Machine.{Leader, Machine}
use Rattle.observer_core.specs.Leader.{with_leader}
use Rattle.observer_core.specs.Play.{is_serving_clients, play_event, play}
use Rattle.observer_core.specs.Inner.{answer_waiting, LeavesReads}

-- A step of the world is a step of the machine.
pub with_leader_meets : (r : Result (Unit {0}) NoMemory) (leader : Option Leader) (old new : StepResult World)
    (step : World → StepResult World) → MakesStep r old step new
    → MakesStep r (with_leader leader old) (λ (m : Machine). with_leader m.leader (step m.world)) (with_leader leader new)
with_leader_meets (Ok u) leader old new step made = ap (with_leader leader) made
with_leader_meets (Err e) leader old new step gains = gains

-- Answers to reads don't change whether clients are served.
pub bytes_taken : OtherConnectionsStay → (r : Result (Unit {0}) NoMemory) (leader : Option Leader)
    (old new : StepResult World) (asked left : List AskedRead) (serving : Bool) (n : ℕ) (bytes : List ℕ)
    → serving ≡ is_serving_clients old.after
    → MakesOwing r old asked (λ u. take_client_bytes serving n u (heard_connection n u.clients) bytes) new left
    → LeavesReads r (with_leader leader old) asked (λ m. play_event m (ClientBytes n bytes)) (with_leader leader new)
    left
bytes_taken stay r leader old new asked left serving n bytes serves owing =
    by r (subst (λ (b : Bool). MakesOwing r old asked (taken b) new left)
    (serves ∙ sym (ap is_serving (answered_kept stay asked old.after old.after (kept_itself old.after)).replica)) owing)
  where
    taken : Bool → World → StepResult World
    taken b u = take_client_bytes b n u (heard_connection n u.clients) bytes

    by : (r : Result (Unit {0}) NoMemory)
        → MakesOwing r old asked (taken (is_serving_clients (answer_all_asked asked old.after).after)) new left
        → LeavesReads r (with_leader leader old) asked (λ m. play_event m (ClientBytes n bytes))
        (with_leader leader new) left
    by (Ok u) s = record { front = s.front; put = s.put; leads = ap (with_leader leader) s.leads }
    by (Err e) gains = gains

-- All that waited was answered, and then a step was tried that leaves nothing waiting.
pub settled_before : (r : Result (Unit {0}) NoMemory) (old mid new : StepResult Machine) (asked left : List AskedRead)
    (step : Machine → StepResult Machine) → MakesStep (Ok tt) old (answer_waiting asked) mid → left ≡ []
    → MakesStep r mid step new → LeavesReads r old asked step new left
settled_before r old mid new asked left step answered none made =
    by r (then_meets r old.outputs mid.outputs new.outputs (answer_waiting asked old.after) step mid.after new.after
    answered made)
  where
    whole : StepResult Machine
    whole = and_then (answer_waiting asked old.after) step

    by : (r : Result (Unit {0}) NoMemory) → MeetsStep r old.outputs whole new.outputs new.after
        → LeavesReads r old asked step new left
    by (Ok u) all = same_left old.outputs whole new.outputs (no_output new.after) (answer_waiting left new.after)
        (ap (λ (reads : List AskedRead). answer_waiting reads new.after) (sym none))
        (steps old.outputs whole old.outputs new.outputs whole whole no_output new.after
        (λ i. record { outputs = sym (append-nil whole.outputs) i; after = whole.after }) all
        (begins old.outputs whole))
    by (Err e) gains = gains

-- The reads that wait are answered, and then the events are played.
abbrev pub play_after : List AskedRead → Machine → List Event → StepResult Machine
play_after asked m events = and_then (answer_waiting asked m) (λ u. play u events)

pub event_first : (asked : List AskedRead) (m : Machine) (event : Event) (others : List Event)
    → play_after asked m (event ∷ others)
    ≡ and_then (and_then (answer_waiting asked m) (λ u. play_event u event)) (λ u. play u others)
event_first asked m event others =
    let h = answer_waiting asked m in
    let one = play_event h.after event in
    behind_behind h.outputs one.outputs (play one.after others)

pub no_event_left : (asked : List AskedRead) (m : Machine) → play_after asked m [] ≡ answer_waiting asked m
no_event_left asked m =
    let h = answer_waiting asked m in
    ap (λ (os : List Output). record { outputs = os; after = h.after }) (append-nil h.outputs)
