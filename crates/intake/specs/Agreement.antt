-- A desk agrees with the messages that it took.
use Rattle.std.specs.Prelude.{◌≡◌, ◌≤◌, ◌==◌, ℕ, List, [], ◌++◌, Some, None, true, if◌then◌else◌}
use Rattle.std.specs.FinMap as finmap
use Rattle.observer_core.specs.Machine.{Machine}
use Rattle.observer_core.specs.Play.{play}
use Rattle.world.specs.declared.output.Output.{Output}
use Rattle.intake.specs.declared.port.PortEnd.{PortEnd}
use Rattle.intake.specs.Messages.{PortMessage, events_of, part_of_port, share_of_port}
use Rattle.intake.specs.Links.{is_open_port, taken_at, owed_at}
use Rattle.intake.specs.Desk.{Desk, new_desk, AddsPort, TakesTurn, TakesNothing}

-- The outputs of a machine for these messages.
abbrev pub outputs_of : Machine → List PortMessage → List Output
outputs_of m taken = (play m (events_of taken)).outputs

-- The desk began with the machine `began`, and has taken these messages since; `before n` is the list of messages when
-- port n was added. Its machine is the one after them. The messages taken of an open port are its part of them, in
-- order. The outputs put into its outbox, followed by those kept for it, are its share of the outputs without those
-- from before the port was added.
pub record DeskAgrees (began : Machine) (d : Desk) (taken : List PortMessage) (before : ℕ → List PortMessage) : Type 0
  where
    pub machine : d.machine ≡ Some (play began (events_of taken)).after
    pub took : (n : ℕ) → is_open_port n d.links ≡ true → taken_at d.links n ≡ part_of_port n taken
    pub owes : (n : ℕ) → is_open_port n d.links ≡ true
        → share_of_port n (outputs_of began (before n)) ++ owed_at d.links n ≡ share_of_port n (outputs_of began taken)
    -- A port that wasn't added yet sent nothing.
    pub unused : (n : ℕ) → d.next ≤ n → (finmap.get d.links n ≡ None) × (part_of_port n taken ≡ [])

-- The lists before the ports, with a port added.
abbrev pub with_port : ℕ → List PortMessage → (ℕ → List PortMessage) → ℕ → List PortMessage
with_port port taken before n = if n == port then taken else before n

-- A new desk agrees with the empty list. Adding a port, a turn, a turn that takes nothing, and removing a port keep a
-- desk agreeing.
pub record DesksAgree : Type 0 where
  pub opens : (m : Machine) (before : ℕ → List PortMessage) → DeskAgrees m (new_desk m) [] before
  pub adds : (began : Machine) (old new : Desk) (port : PortEnd) (taken : List PortMessage)
      (before : ℕ → List PortMessage)
      → DeskAgrees began old taken before → AddsPort old port new
      → DeskAgrees began new taken (with_port port.number taken before)
  pub turns : (began m : Machine) (old new : Desk) (taken : List PortMessage) (before : ℕ → List PortMessage)
      → DeskAgrees began old taken before → old.machine ≡ Some m → TakesTurn m old new
      → DeskAgrees began new (taken ++ new.fresh) before
  pub waits : (began : Machine) (old new : Desk) (taken : List PortMessage) (before : ℕ → List PortMessage)
      → DeskAgrees began old taken before → TakesNothing old new → DeskAgrees began new taken before
  pub closes : (began : Machine) (old : Desk) (n : ℕ) (taken : List PortMessage) (before : ℕ → List PortMessage)
      → DeskAgrees began old taken before
      → DeskAgrees began (record old { links = finmap.remove old.links n }) taken before
