-- A hub: a desk, and the list of all messages that it took.
use Rattle.std.specs.Prelude.{◌≡◌, ◌≤◌, ℕ, zero, suc, List, [], ◌∷◌, ◌++◌, length, take, Result, Ok, Err, refl}
use Rattle.std.specs.FinMap as finmap
use Rattle.std.specs.Coded.{Coded, code_by, coded×, coded_ℕ, coded_list}
use Rattle.observer_core.specs.Machine.{Machine}
use Rattle.observer_core.specs.declared.engine.Stop.{Stop}
use Rattle.intake.specs.declared.port.PortEnd.{PortEnd}
use Rattle.intake.specs.Messages.{PortMessage, ComeByNumber}
use Rattle.intake.specs.Desk.{Desk, new_desk, AddsPort, TakesNothing, AnswersTurn}
use Rattle.intake.specs.Agreement.{DeskAgrees}

pub record Hub : Type 0 where
  pub desk : Desk
  -- All messages taken, in order.
  pub taken : List PortMessage
  -- For each port, by number, how many messages were taken when it was added.
  pub since : List ℕ

-- A hub without a port.
abbrev pub new_hub : Machine → Hub
new_hub m = record { desk = new_desk m; taken = []; since = [] }

-- The desk gains a port, after the messages taken so far.
pub record GainsPort (old : Hub) (port : PortEnd) (new : Hub) : Type 0 where
  pub desk : AddsPort old.desk port new.desk
  pub taken : new.taken ≡ old.taken
  pub since : new.since ≡ old.since ++ length old.taken ∷ []

-- The desk made a turn, after which it was `turned`. Its messages are appended to the list, by the numbers of their
-- ports.
pub record GainsTurn (count : ℕ) (turned : Desk) (old new : Hub) : Type 0 where
  pub turn : AnswersTurn (Ok count) old.desk.machine old.desk turned
  pub order : ComeByNumber turned.fresh
  pub desk : new.desk ≡ record turned { fresh = [] }
  pub taken : new.taken ≡ old.taken ++ turned.fresh
  pub since : new.since ≡ old.since

-- The list stays, and the desk is one that refused a turn.
pub record RefusesTurn (stop : Stop) (old new : Hub) : Type 0 where
  pub desk : AnswersTurn (Err stop) old.desk.machine old.desk new.desk
  pub taken : new.taken ≡ old.taken
  pub since : new.since ≡ old.since

abbrev pub TurnsHub : Result ℕ Stop → Hub → Hub → Type 0
TurnsHub (Ok count) old new = (turned : Desk) × GainsTurn count turned old new
TurnsHub (Err stop) old new = RefusesTurn stop old new

-- The hub without a port's ends.
abbrev pub without_port : Hub → ℕ → Hub
without_port h n = record h { desk = record h.desk { links = finmap.remove h.desk.links n } }

-- The number at a place; 0 past the end.
abbrev pub number_at : List ℕ → ℕ → ℕ
number_at [] n = 0
number_at (x ∷ xs) zero = x
number_at (x ∷ xs) (suc n) = number_at xs n

-- The messages taken when a port was added.
abbrev pub taken_before : Hub → ℕ → List PortMessage
taken_before h n = take (number_at h.since n) h.taken

-- The hub began with this machine, and its desk agrees with all messages that it took since.
pub record IsHubSince (began : Machine) (h : Hub) : Type 0 where
  pub agrees : DeskAgrees began h.desk h.taken (taken_before h)
  pub within : (n : ℕ) → number_at h.since n ≤ length h.taken
  pub ports : length h.since ≡ h.desk.next

-- A new hub begins with its machine. Adding a port, a turn, a refused turn that leaves the desk open, a look at a
-- finished port and removing one keep it a hub since then.
pub record HubsRun : Type 0 where
  pub opens : (m : Machine) → IsHubSince m (new_hub m)
  pub adds : (began : Machine) (old : Hub) (port : PortEnd) (new : Hub) → GainsPort old port new
      → IsHubSince began old → IsHubSince began new
  pub turns : (began : Machine) (old : Hub) (count : ℕ) (turned : Desk) (new : Hub) → GainsTurn count turned old new
      → IsHubSince began old → IsHubSince began new
  pub waits : (began : Machine) (old new : Hub) → TakesNothing old.desk new.desk → new.taken ≡ old.taken
      → new.since ≡ old.since → IsHubSince began old → IsHubSince began new
  pub closes : (began : Machine) (old : Hub) (n : ℕ) → IsHubSince began old → IsHubSince began (without_port old n)

-- ---- its code

abbrev pub hub_code : Coded Desk → Coded (List PortMessage) → Coded Hub
hub_code desk taken =
    code_by (Desk × (List PortMessage × List ℕ)) (coded× desk (coded× taken (coded_list coded_ℕ)))
    (λ h. (h.desk, (h.taken, h.since))) (λ p. record { desk = p.0; taken = p.1.0; since = p.1.1 }) (λ _. refl)
