-- The steps of a turn.
use Rattle.std.specs.Prelude.{◌≡◌, ◌≢◌, ℕ, List, [], ◌∷◌, ◌++◌, Contains, true, Some, IsSome}
use Rattle.std.specs.List.Sorted.{IsStrictlyIncreasing}
use Rattle.observer_core.specs.Machine.{Machine}
use Rattle.observer_core.specs.Play.{play}
use Rattle.intake.specs.declared.message.Message.{Message}
use Rattle.intake.specs.Messages.{PortMessage, events_of, part_of_port, messages_of_port, share_of_port}
use Rattle.intake.specs.Links.{is_open_port, taken_at, waiting_at, seen_at, owed_at, AllStay, KeepOnlyIfFull}
use Rattle.intake.specs.Desk.{Desk, IsRemembered, ForgetsNone, TakesTurn, TakesNothing}

-- Before messages are taken, `later` has the clients' ports that the turn is to come to, in order.
pub record BeginsTurn (old new : Desk) : Type 0 where
  pub is_open : IsSome old.machine
  pub rests : TakesNothing old new
  pub fresh : new.fresh ≡ []
  pub forgets_none : ForgetsNone old new
  pub sorted : IsStrictlyIncreasing new.later
  pub full : KeepOnlyIfFull new.links

-- The messages of a port that were seen are taken and played, and the outputs put.
pub record FeedsPort (n : ℕ) (old new : Desk) : Type 0 where
  pub fresh : new.fresh ≡ old.fresh ++ seen_at old.links n
  pub machine : (m : Machine) → old.machine ≡ Some m
      → new.machine ≡ Some (play m (events_of (seen_at old.links n))).after
  pub took : (k : ℕ) → taken_at new.links k ≡ taken_at old.links k ++ part_of_port k (seen_at old.links n)
  pub owes : (m : Machine) → old.machine ≡ Some m → (k : ℕ) → is_open_port k old.links ≡ true
      → owed_at new.links k
      ≡ owed_at old.links k ++ share_of_port k (play m (events_of (seen_at old.links n))).outputs
  pub none_waits : waiting_at new.links n ≡ []
  pub others_wait : (k : ℕ) → k ≢ n → waiting_at new.links k ≡ waiting_at old.links k
  pub stay : AllStay old.links new.links
  pub full : KeepOnlyIfFull old.links → KeepOnlyIfFull new.links
  pub next : new.next ≡ old.next
  pub later : new.later ≡ old.later

-- The messages are of these ports, one port after the other.
abbrev pub AreOfPorts : List ℕ → List PortMessage → Type 0
AreOfPorts [] came = came ≡ []
AreOfPorts (n ∷ ns) came =
    (ms : List Message) × (rest : List PortMessage) × (came ≡ messages_of_port n ms ++ rest) × AreOfPorts ns rest

-- Messages of these ports are appended to those of the turn.
abbrev pub AddsOfPorts : List ℕ → List PortMessage → List PortMessage → Type 0
AddsOfPorts numbers old new = (came : List PortMessage) × (new ≡ old ++ came) × AreOfPorts numbers came

-- A turn that was made up to here goes on with these ports of clients: each is fed, or left for the next turn.
pub record ServesPorts (numbers : List ℕ) (old new : Desk) : Type 0 where
  pub adds : AddsOfPorts numbers old.fresh new.fresh
  pub goes_on : (m : Machine) (first : Desk) → TakesTurn m first old → TakesTurn m first new
  pub served : (n : ℕ) → n ≢ 0 → Contains numbers n → IsRemembered n new
  pub forgets_none : ForgetsNone old new
