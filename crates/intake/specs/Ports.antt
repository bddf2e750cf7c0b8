-- What went through a port, from its thread's end.
use Rattle.std.specs.Prelude.{◌≡◌, ℕ, List}
use Rattle.rtrb.specs.Ring.{sent, received, known_free, known_items, producer_capacity, consumer_capacity, SameProducer, SameConsumer}
use Rattle.world.specs.declared.output.Output.{Output}
use Rattle.intake.specs.declared.message.Message.{Message}
use Rattle.intake.specs.declared.port.PortEnd.{PortEnd}

abbrev pub sent_through : PortEnd → List Message
sent_through port = sent port.inbox

-- The outputs that it received.
abbrev pub received_through : PortEnd → List Output
received_through port = received port.outbox

-- As many messages as there is room for were sent and not seen to be taken.
abbrev pub IsFull : PortEnd → Type 0
IsFull port = known_free port.inbox ≡ 0

-- All messages sent were seen to be taken.
abbrev pub IsDrained : PortEnd → Type 0
IsDrained port = known_free port.inbox ≡ producer_capacity port.inbox

-- There is room for this many messages and as many outputs.
pub record HasRoom (capacity : ℕ) (port : PortEnd) : Type 0 where
  pub messages : known_free port.inbox ≡ capacity
  pub inbox : producer_capacity port.inbox ≡ capacity
  pub outbox : consumer_capacity port.outbox ≡ capacity

-- The same port, except for what went through.
pub record SamePort (old new : PortEnd) : Type 0 where
  pub number : new.number ≡ old.number
  pub inbox : SameProducer old.inbox new.inbox
  pub outbox : SameConsumer old.outbox new.outbox

-- The outputs that were seen in its outbox and weren't received yet.
abbrev pub unread_through : PortEnd → List Output
unread_through port = known_items port.outbox
