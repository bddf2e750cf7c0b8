-- The events of messages, and one port's part of a list.
use Rattle.std.specs.Prelude.{◌≡◌, ◌==◌, ◌++◌, ℕ, List, map, filter, not, if◌then◌else◌}
use Rattle.std.specs.List.Sorted.{IsNonDecreasingBy}
use Rattle.observer_core.specs.declared.event.Event.{Event}
use Rattle.observer_core.specs.declared.event.Event.TheVariants as events
use Rattle.world.specs.declared.output.Output.{Output}
use Rattle.world.specs.declared.output.Output.TheVariants.{ToLeader, ToClient, CloseLeader, CloseClient}
use Rattle.intake.specs.declared.message.Message.{Message}
use Rattle.intake.specs.declared.message.Message.TheVariants.{Up, Bytes, End, Checkpoint, Expire}

-- A message with its port.
abbrev pub PortMessage : Type 0
PortMessage = ℕ × Message

-- The event of a port's message: port 0 is the leader's, and port n is connection n.
abbrev pub event_of_message : ℕ → Message → Event
event_of_message n (Up address) = if n == 0 then events.LeaderUp else events.ClientUp n address
event_of_message n (Bytes bytes) = if n == 0 then events.LeaderBytes bytes else events.ClientBytes n bytes
event_of_message n End = if n == 0 then events.LeaderEnd else events.ClientEnd n
event_of_message n Checkpoint = events.Checkpoint
event_of_message n (Expire session) = events.Expire session

-- The events of messages, in order.
abbrev pub events_of : List PortMessage → List Event
events_of came = map (λ c. event_of_message c.0 c.1) came

-- A port's part of the messages, in order.
abbrev pub part_of_port : ℕ → List PortMessage → List Message
part_of_port n came = map (λ c. c.1) (filter (λ c. c.0 == n) came)

-- These messages, as a port's.
abbrev pub messages_of_port : ℕ → List Message → List PortMessage
messages_of_port n messages = map (λ m. (n, m)) messages

-- The leader's messages come before those of clients.
abbrev pub LeaderComesFirst : List PortMessage → Type 0
LeaderComesFirst came = filter (λ c. c.0 == 0) came ++ filter (λ c. not (c.0 == 0)) came ≡ came

-- The messages come port by port, and the ports by number.
abbrev pub ComeByNumber : List PortMessage → Type 0
ComeByNumber came = IsNonDecreasingBy (λ c. c.0) came

abbrev pub port_of : Output → ℕ
port_of (ToLeader bytes) = 0
port_of (ToClient n bytes) = n
port_of (CloseLeader fault) = 0
port_of (CloseClient n) = n

-- A port's share of outputs, in order.
abbrev pub share_of_port : ℕ → List Output → List Output
share_of_port n outputs = filter (λ o. port_of o == n) outputs
