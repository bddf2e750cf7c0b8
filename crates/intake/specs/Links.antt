-- The messages taken of a port, and the outputs put to it, given the hub's ends of all open ports.
use Rattle.std.specs.Prelude.{◌≡◌, ◌≢◌, ◌⊎◌, ℕ, List, [], ◌++◌, Contains, Option, Some, None, Bool, true}
use Rattle.std.specs.Ordering.{nat_cmp}
use Rattle.std.specs.BTreeMap.{BTreeMap}
use Rattle.std.specs.FinMap as finmap
use Rattle.rtrb.specs.Ring.{sent, received, known_free, known_items, consumer_capacity, IsPair, SameProducer, SameConsumer}
use Rattle.world.specs.declared.output.Output.{Output}
use Rattle.intake.specs.declared.message.Message.{Message}
use Rattle.intake.specs.declared.port.PortEnd.{PortEnd}
use Rattle.intake.specs.declared.link.Link.{Link}
use Rattle.intake.specs.Messages.{PortMessage, messages_of_port, part_of_port, share_of_port}

-- The hub's ends of each open port, by number.
abbrev pub Links : Type 0
Links = finmap.FinMap nat_cmp Link

abbrev pub links_of : BTreeMap ℕ Link → Links
links_of map = finmap.from_entries map.entries

abbrev pub is_open_port : ℕ → Links → Bool
is_open_port n links = finmap.contains_key links n

-- ---- of one port

-- The outputs put into a port's outbox, followed by those kept for it.
abbrev pub outputs_owed : Link → List Output
outputs_owed link = sent link.outbox ++ link.kept.items

abbrev pub taken_from : Option Link → List Message
taken_from None = []
taken_from (Some link) = received link.inbox

abbrev pub waiting_from : Option Link → List Message
waiting_from None = []
waiting_from (Some link) = known_items link.inbox

-- For how many messages an inbox has room.
abbrev pub room_from : Option Link → ℕ
room_from None = 0
room_from (Some link) = consumer_capacity link.inbox

abbrev pub put_to : Option Link → List Output
put_to None = []
put_to (Some link) = sent link.outbox

abbrev pub owed_to : Option Link → List Output
owed_to None = []
owed_to (Some link) = outputs_owed link

-- The outputs kept for a port.
abbrev pub kept_for : Option Link → List Output
kept_for None = []
kept_for (Some link) = link.kept.items

abbrev pub slot_from : Option Link → Option ℕ
slot_from None = None
slot_from (Some link) = Some link.slot

-- Outputs are kept for a port only if its outbox was full when it was last looked at.
abbrev pub KeepsIfFull : Option Link → Type 0
KeepsIfFull None = Unit {0}
KeepsIfFull (Some link) = (link.kept.items ≡ []) ⊎ (known_free link.outbox ≡ 0)

-- The end belongs to the rings of which the hub has these ends.
abbrev pub IsEndBy : PortEnd → Option Link → Type 0
IsEndBy end None = ⊥
IsEndBy end (Some link) = IsPair end.inbox link.inbox × IsPair link.outbox end.outbox

-- A port's ends as they were, except for what went through.
pub record IsSameLink (old new : Link) : Type 0 where
  pub inbox : SameConsumer old.inbox new.inbox
  pub outbox : SameProducer old.outbox new.outbox
  pub slot : new.slot ≡ old.slot

-- A port is open as before, and has the same rings.
abbrev pub StaysOpen : Option Link → Option Link → Type 0
StaysOpen None None = Unit {0}
StaysOpen (Some old) (Some new) = IsSameLink old new
StaysOpen None (Some new) = ⊥
StaysOpen (Some old) None = ⊥

-- ---- of all ports; a port that isn't open has nothing

abbrev pub taken_at : Links → ℕ → List Message
taken_at links n = taken_from (finmap.get links n)

-- The messages that were seen in a port's inbox and weren't taken yet.
abbrev pub waiting_at : Links → ℕ → List Message
waiting_at links n = waiting_from (finmap.get links n)

abbrev pub room_at : Links → ℕ → ℕ
room_at links n = room_from (finmap.get links n)

-- The messages that wait, as messages of the port.
abbrev pub seen_at : Links → ℕ → List PortMessage
seen_at links n = messages_of_port n (waiting_at links n)

abbrev pub outbox_at : Links → ℕ → List Output
outbox_at links n = put_to (finmap.get links n)

-- The outputs put into a port's outbox, followed by those kept for it.
abbrev pub owed_at : Links → ℕ → List Output
owed_at links n = owed_to (finmap.get links n)

abbrev pub kept_at : Links → ℕ → List Output
kept_at links n = kept_for (finmap.get links n)

-- The slot that a port's thread marks.
abbrev pub slot_at : Links → ℕ → Option ℕ
slot_at links n = slot_from (finmap.get links n)

-- Each port for which outputs are kept is among these.
abbrev pub KeepersAreAmong : List ℕ → Links → Type 0
KeepersAreAmong numbers links = (n : ℕ) → (kept_at links n ≡ []) ⊎ Contains numbers n

-- Outputs are kept only for ports whose outboxes were full when they were last looked at.
abbrev pub KeepOnlyIfFull : Links → Type 0
KeepOnlyIfFull links = (n : ℕ) → KeepsIfFull (finmap.get links n)

-- The end is that of an open port.
abbrev pub IsEnd : PortEnd → Links → Type 0
IsEnd end links = IsEndBy end (finmap.get links end.number)

-- The same ports are open, and have the same rings.
pub record AllStay (old new : Links) : Type 0 where
  pub at : (n : ℕ) → StaysOpen (finmap.get old n) (finmap.get new n)

-- No message is taken, and the outputs put are from those that were kept.
pub record TakesNoMessage (old new : Links) : Type 0 where
  pub stay : AllStay old new
  pub took : (n : ℕ) → taken_at new n ≡ taken_at old n
  pub owes : (n : ℕ) → owed_at new n ≡ owed_at old n

-- In each port, the same messages wait.
abbrev pub SameWait : Links → Links → Type 0
SameWait old new = (n : ℕ) → waiting_at new n ≡ waiting_at old n

-- Outputs that were kept for this port are put, as far as there is room for them.
pub record PutsKept (n : ℕ) (old new : Links) : Type 0 where
  pub rests : TakesNoMessage old new
  pub waits : SameWait old new
  pub full : KeepsIfFull (finmap.get new n)
  pub fewer : kept_at old n ≡ [] → kept_at new n ≡ []
  pub others : (k : ℕ) → k ≢ n → finmap.get new k ≡ finmap.get old k

-- More messages may be seen in the inboxes of these ports, and in no other.
pub record LooksAt (numbers : List ℕ) (old new : Links) : Type 0 where
  pub rests : TakesNoMessage old new
  pub full : KeepOnlyIfFull old → KeepOnlyIfFull new
  pub others : (n : ℕ) → (waiting_at new n ≡ waiting_at old n) ⊎ Contains numbers n

-- The messages of a port that were seen are taken, and appended to a list.
pub record TakesSeen (n : ℕ) (old : Links) (before : List PortMessage) (new : Links) (after : List PortMessage) : Type 0
  where
    pub stay : AllStay old new
    pub list : after ≡ before ++ seen_at old n
    pub took : (k : ℕ) → taken_at new k ≡ taken_at old k ++ part_of_port k (seen_at old n)
    pub none_waits : waiting_at new n ≡ []
    pub others_wait : (k : ℕ) → k ≢ n → waiting_at new k ≡ waiting_at old k
    pub owes : (k : ℕ) → owed_at new k ≡ owed_at old k
    pub full : KeepOnlyIfFull old → KeepOnlyIfFull new

-- Each open port gets its share of the outputs.
pub record PutsShares (old : Links) (outputs : List Output) (new : Links) : Type 0 where
  pub stay : AllStay old new
  pub took : (n : ℕ) → taken_at new n ≡ taken_at old n
  pub owes : (n : ℕ) → is_open_port n old ≡ true → owed_at new n ≡ owed_at old n ++ share_of_port n outputs
  pub waits : SameWait old new
  pub full : KeepOnlyIfFull old → KeepOnlyIfFull new
