-- What the steps of a session do, one after the other.
use Rattle.std.specs.Prelude.{◌≡◌, ◌⊎◌, ℕ, ◌++◌, [], ◌∷◌, List, map, Option, Some, None, Bool, true, false, ⊤}
use Rattle.std.specs.Io.KnownBytes.{Appends, Consumes}
use Rattle.world.specs.declared.output.Output.{Output}
use Rattle.intake.specs.declared.message.Message.{Message}
use Rattle.intake.specs.declared.message.Message.TheVariants.{Up, Bytes, End}
use Rattle.intake.specs.declared.port.PortEnd.{PortEnd}
use Rattle.intake.specs.Ports.{sent_through, received_through, SamePort}
use Rattle.connection_loop.specs.declared.limits.AllowedWords.{AllowedWords}
use Rattle.connection_loop.specs.declared.session.Session.{Session}
use Rattle.connection_loop.specs.declared.session.Step.{Step}
use Rattle.connection_loop.specs.declared.session.Step.TheVariants.{Done, Idle, Over}
use Rattle.connection_loop.specs.Conversations.{IsFront, joined_pieces, bytes_of_outputs, IsRefusal}

-- What is under way in a session.
pub record Talk : Type 0 where
  pub port : PortEnd
  -- For which there was no room.
  pub held : Option Message
  pub unsent : List ℕ
  pub unwritten : List ℕ
  pub closing : Bool
  -- It has said that a word isn't allowed.
  pub refuses : Bool
  pub words : AllowedWords

abbrev pub talk_of : Session → Talk
talk_of s = record {
  port = s.port;
  held = s.held;
  unsent = s.incoming.bytes;
  unwritten = s.outgoing.bytes;
  closing = s.outgoing.closing;
  refuses = s.refuses;
  words = s.limits.words;
}

abbrev pub new_talk : PortEnd → AllowedWords → Talk
new_talk port words = record {
  port = port;
  held = None;
  unsent = [];
  unwritten = [];
  closing = false;
  refuses = false;
  words = words;
}

abbrev pub message_held : Option Message → List Message
message_held None = []
message_held (Some message) = message ∷ []

-- The messages that were sent, and the one that is held.
abbrev pub messages_given : Talk → List Message
messages_given t = sent_through t.port ++ message_held t.held

-- The same port; nothing was received, and these messages were sent or held.
pub record Gives (old new : Talk) (messages : List Message) : Type 0 where
  pub port : SamePort old.port new.port
  pub sent : messages_given new ≡ messages_given old ++ messages
  pub received : received_through new.port ≡ received_through old.port
  pub rest : new ≡ record old { port = new.port; held = new.held }

-- The same; and so was the last message, if it isn't left, or something is held.
pub record GivesLast (old new : Talk) (last left : Option Message) (none : Bool) : Type 0 where
  pub port : SamePort old.port new.port
  pub sent : messages_given new ++ message_held left ≡ messages_given old ++ message_held last
  pub received : received_through new.port ≡ received_through old.port
  pub none_left : none ≡ true → (new.held ≡ None) × (left ≡ None)

-- Outputs were received, and dropped.
pub record Drops (old new : Talk) : Type 0 where
  pub dropped : List Output
  pub port : SamePort old.port new.port
  pub sent : sent_through new.port ≡ sent_through old.port
  pub received : received_through new.port ≡ received_through old.port ++ dropped
  pub rest : new ≡ record old { port = new.port }

-- After the refusal of a word the connection closes.
abbrev pub ClosesIfRefused : Talk → Type 0
ClosesIfRefused t = t.refuses ≡ true → t.closing ≡ true

-- Text is added: none, or a front of a refusal, the first one.
abbrev pub IsAdded : Talk → Talk → List ℕ → Type 0
IsAdded old new text =
    (text ≡ [])
    ⊎ ((old.refuses ≡ false) × (new.refuses ≡ true) × (whole : List ℕ) × IsFront text whole × IsRefusal old.words whole)

-- In steps a session read these bytes and wrote others. What it read, after what it had, is sent on in pieces, or waits.
-- Outputs were received, and of the last ones some are lost; the bytes of the others, after what it had, were written,
-- or wait.
pub record Passes (old new : Talk) (unread left written has : Option (List ℕ)) (lost : List Output) : Type 0 where
  pub pieces : List (List ℕ)
  pub read : List ℕ
  pub outputs : List Output
  pub own : List ℕ
  pub wrote : List ℕ
  pub port : SamePort old.port new.port
  pub sent : messages_given new ≡ messages_given old ++ map Bytes pieces
  pub consumed : Consumes unread left read
  pub waits : joined_pieces pieces ++ new.unsent ≡ old.unsent ++ read
  pub received : received_through new.port ≡ received_through old.port ++ (outputs ++ lost)
  pub appended : Appends written has wrote
  pub unwritten : wrote ++ new.unwritten ≡ old.unwritten ++ (bytes_of_outputs outputs ++ own)
  pub added : IsAdded old new own
  pub refuses : old.refuses ≡ true → (new.refuses ≡ true) × (outputs ≡ [])
  pub words : new.words ≡ old.words

-- While the connection goes on, no output is lost.
abbrev pub GoesOn : Step → Talk → List Output → Type 0
GoesOn Done new lost = (lost ≡ []) × ClosesIfRefused new
GoesOn Idle new lost = (lost ≡ []) × ClosesIfRefused new
GoesOn Over new lost = ⊤

-- The result of a step.
pub record PassesOn (result : Step) (old new : Talk) (unread left written has : Option (List ℕ)) : Type 0 where
  pub lost : List Output
  pub goes : GoesOn result new lost
  pub passes : Passes old new unread left written has lost

-- A session that has begun, and then made steps.
pub record Runs (address : Option (List ℕ)) (old new : Talk) (unread left written has : Option (List ℕ)) : Type 0 where
  pub begun : Talk
  pub begins : Gives old begun (Up address ∷ [])
  pub lost : List Output
  pub passes : Passes begun new unread left written has lost

-- Outputs were dropped. What is given, with the last message, is all with the end.
pub record EndsSoFar (old new : Talk) (last : Option Message) : Type 0 where
  pub dropped : List Output
  pub port : SamePort old.port new.port
  pub received : received_through new.port ≡ received_through old.port ++ dropped
  pub left : messages_given new ++ message_held last ≡ messages_given old ++ End ∷ []

-- Outputs were dropped, and the end was sent after all messages; or no thread is left that would take them.
pub record Ends (Abandoned : Type 0) (old new : Talk) : Type 0 where
  pub dropped : List Output
  pub port : SamePort old.port new.port
  pub received : received_through new.port ≡ received_through old.port ++ dropped
  pub sent : (sent_through new.port ≡ messages_given old ++ End ∷ [])
      ⊎ (Abandoned × IsFront (sent_through new.port) (messages_given old ++ End ∷ []))
