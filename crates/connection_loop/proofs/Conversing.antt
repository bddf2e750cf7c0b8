-- What the steps of a session are from its beginning to its end.
use Rattle.std.proofs.Common.{◌≡◌, ◌⊎◌, inl, inr, ℕ, List, [], ◌∷◌, ◌++◌, map, Option, Some, None, IfSome, IsSome, Bool, true, false, true≢false, refl, sym, ap, subst, ◌∙◌}
use Rattle.std.specs.Io.KnownBytes.{Consumes}
use Rattle.std.proofs.lemmas.List.{append-nil, append_assoc}
use Rattle.four_letter.specs.declared.word.Word.{Word}
use Rattle.four_letter.specs.Words.{word_of}
use Rattle.world.specs.declared.output.Output.{Output}
use Rattle.intake.specs.declared.message.Message.{Message}
use Rattle.intake.specs.declared.message.Message.TheVariants.{Up, Bytes, End}
use Rattle.intake.specs.declared.port.PortEnd.{PortEnd}
use Rattle.intake.specs.Ports.{sent_through, received_through, SamePort}
use Rattle.connection_loop.specs.declared.limits.AllowedWords.{AllowedWords}
use Rattle.connection_loop.specs.Conversations.{IsFront, joined_pieces, bytes_of_outputs, messages_of, AreSent, SendsOn, WritesBack, IsNothing, IsRefusal}
use Rattle.connection_loop.specs.Inner.{Talk, message_held, messages_given, GivesLast, Drops, Runs, EndsSoFar, Ends, IsAdded}
use Rattle.connection_loop.specs.Limits.{has_word, allows_word}
use Rattle.connection_loop.proofs.Ports.{same_port, same_itself}

-- ---- the end

pub no_end_yet : (t : Talk) → EndsSoFar t t (Some End)
no_end_yet t = record {
  dropped = [];
  port = same_itself t.port;
  received = sym (append-nil (received_through t.port));
  left = refl;
}

pub drops_more : (a b c : Talk) (last : Option Message) → EndsSoFar a b last → Drops b c → EndsSoFar a c last
drops_more a b c last e d = record {
  dropped = e.dropped ++ d.dropped;
  port = same_port a.port b.port c.port e.port d.port;
  received = d.received ∙ ap (λ l. l ++ d.dropped) e.received ∙ append_assoc (received_through a.port) e.dropped d.dropped;
  left = ap (λ (l : List Message). l ++ message_held c.held ++ message_held last) d.sent
      ∙ ap (λ (m : Option Message). sent_through b.port ++ message_held m ++ message_held last)
      (ap (λ (t : Talk). t.held) d.rest)
      ∙ e.left;
}

pub gives_more : (a b c : Talk) (last left : Option Message) (none : Bool) → EndsSoFar a b last
    → GivesLast b c last left none → EndsSoFar a c left
gives_more a b c last left none e g = record {
  dropped = e.dropped;
  port = same_port a.port b.port c.port e.port g.port;
  received = g.received ∙ e.received;
  left = g.sent ∙ e.left;
}

-- The hub was only asked whether it has taken the messages.
pub asks_port : (a b c : Talk) (last : Option Message) → EndsSoFar a b last → SamePort b.port c.port
    → sent_through c.port ≡ sent_through b.port → received_through c.port ≡ received_through b.port
    → c.held ≡ b.held → EndsSoFar a c last
asks_port a b c last e port sent received held = record {
  dropped = e.dropped;
  port = same_port a.port b.port c.port e.port port;
  received = received ∙ e.received;
  left = ap (λ (l : List Message). l ++ message_held c.held ++ message_held last) sent
      ∙ ap (λ (m : Option Message). sent_through b.port ++ message_held m ++ message_held last) held
      ∙ e.left;
}

pub ends_sent : (Abandoned : Type 0) (a b : Talk) (last : Option Message) → EndsSoFar a b last → b.held ≡ None
    → last ≡ None → Ends Abandoned a b
ends_sent Abandoned a b last e held none = record {
  dropped = e.dropped;
  port = e.port;
  received = e.received;
  sent = inl (sym (append-nil (sent_through b.port)) ∙ sym (append-nil (sent_through b.port ++ []))
      ∙ ap (λ (m : Option Message). sent_through b.port ++ message_held m ++ []) (sym held)
      ∙ ap (λ (m : Option Message). messages_given b ++ message_held m) (sym none) ∙ e.left);
}

pub ends_abandoned : (Abandoned : Type 0) (a b : Talk) (last : Option Message) → EndsSoFar a b last → Abandoned
    → Ends Abandoned a b
ends_abandoned Abandoned a b last e abandoned = record {
  dropped = e.dropped;
  port = e.port;
  received = e.received;
  sent = inr (
    abandoned,
    (
      message_held b.held ++ message_held last,
      sym e.left ∙ append_assoc (sent_through b.port) (message_held b.held) (message_held last),
    ),
  );
}

still_sent : (A B : Type 0) (sent whole : List Message) → (A → B) → ((sent ≡ whole) ⊎ (A × IsFront sent whole))
    → (sent ≡ whole) ⊎ (B × IsFront sent whole)
still_sent A B sent whole so (inl is) = inl is
still_sent A B sent whole so (inr x) = inr (so x.0, x.1)

pub ends_as : (A B : Type 0) (a b : Talk) → Ends A a b → (A → B) → Ends B a b
ends_as A B a b e so = record {
  dropped = e.dropped;
  port = e.port;
  received = e.received;
  sent = still_sent A B (sent_through b.port) (messages_given a ++ End ∷ []) so e.sent;
}

-- ---- from the beginning to the end

sent_in_all : (address : Option (List ℕ)) (a b : Talk) (u l w h : Option (List ℕ)) (r : Runs address a b u l w h)
    → a.held ≡ None
    → messages_given b ++ End ∷ [] ≡ sent_through a.port ++ messages_of address r.passes.pieces
sent_in_all address a b u l w h r held =
    let pieces = map Bytes r.passes.pieces in
    let before = sent_through a.port in
    let all : messages_given b ≡ before ++ (Up address ∷ pieces) =
    r.passes.sent ∙ ap (λ (m : List Message). m ++ pieces) (r.begins.sent
    ∙ ap (λ (m : Option Message). before ++ message_held m ++ Up address ∷ []) held
    ∙ ap (λ (m : List Message). m ++ Up address ∷ []) (append-nil before))
    ∙ append_assoc before (Up address ∷ []) pieces in
    ap (λ (m : List Message). m ++ End ∷ []) all ∙ append_assoc before (Up address ∷ pieces) (End ∷ [])

are_sent : (Abandoned : Type 0) (messages : List Message) (a b c : Talk) → Ends Abandoned b c
    → messages_given b ++ End ∷ [] ≡ sent_through a.port ++ messages
    → (sent_through c.port ≡ messages_given b ++ End ∷ [])
    ⊎ (Abandoned × IsFront (sent_through c.port) (messages_given b ++ End ∷ []))
    → AreSent Abandoned messages a.port c.port
are_sent Abandoned messages a b c e all (inl sent) = inl (sent ∙ all)
are_sent Abandoned messages a b c e all (inr x) = inr (x.0, (x.1.0, sym all ∙ x.1.1))

pieces_read : (unread left : Option (List ℕ)) (pieces : List (List ℕ)) (read unsent : List ℕ)
    → Consumes unread left read → joined_pieces pieces ++ unsent ≡ read → IfSome unread (IsFront (joined_pieces pieces))
pieces_read None left pieces read unsent consumed waits = tt
pieces_read (Some xs) None pieces read unsent consumed waits = absurd consumed
pieces_read (Some xs) (Some ys) pieces read unsent consumed waits =
    (unsent ++ ys, consumed ∙ ap (λ l. l ++ ys) (sym waits) ∙ append_assoc (joined_pieces pieces) unsent ys)

pub sends_on : (address : Option (List ℕ)) (Abandoned : Type 0) (a b c : Talk) (u l w h : Option (List ℕ))
    → Runs address a b u l w h → Ends Abandoned b c → a.held ≡ None → a.unsent ≡ []
    → SendsOn address u Abandoned a.port c.port
sends_on address Abandoned a b c u l w h r e held unsent = record {
  pieces = r.passes.pieces;
  sent = are_sent Abandoned (messages_of address r.passes.pieces) a b c e (sent_in_all address a b u l w h r held) e.sent;
  read = pieces_read u l r.passes.pieces r.passes.read b.unsent r.passes.consumed
      (r.passes.waits ∙ ap (λ (t : List ℕ). t ++ r.passes.read) (ap (λ (t : Talk). t.unsent) r.begins.rest ∙ unsent));
}

-- What is said, whole, and that what was written is a front of it.
says_all : (a b : Talk) (words : AllowedWords) (own wrote unwritten bytes : List ℕ) → IsAdded a b own → a.words ≡ words
    → wrote ++ unwritten ≡ bytes ++ own
    → (says : List ℕ) × IsRefusal words says × IsFront wrote (bytes ++ says)
says_all a b words own wrote unwritten bytes (inl none) same is =
    ([], inl refl, (unwritten, ap (λ (l : List ℕ). bytes ++ l) (sym none) ∙ sym is))
says_all a b words own wrote unwritten bytes (inr x) same is = (
  x.2,
  subst (λ (w : AllowedWords). IsRefusal w x.2) same x.4,
  (
    unwritten ++ x.3.0,
    ap (λ (l : List ℕ). bytes ++ l) x.3.1 ∙ sym (append_assoc bytes own x.3.0)
        ∙ ap (λ (l : List ℕ). l ++ x.3.0) (sym is) ∙ append_assoc wrote unwritten x.3.0,
  ),
)

pub writes_back : (address : Option (List ℕ)) (Abandoned : Type 0) (Written : List ℕ → Type 0) (words : AllowedWords)
    (a b c : Talk) (u l w h : Option (List ℕ))
    → (r : Runs address a b u l w h) → Ends Abandoned b c → a.unwritten ≡ [] → a.words ≡ words
    → Written r.passes.wrote → WritesBack (IsRefusal words) Written a.port c.port
writes_back address Abandoned Written words a b c u l w h r e unwritten same written =
    let p = r.passes in
    let all = says_all r.begun b words p.own p.wrote b.unwritten (bytes_of_outputs p.outputs) p.added
    (ap (λ (t : Talk). t.words) r.begins.rest ∙ same)
    (p.unwritten ∙ ap (λ (t : List ℕ). t ++ (bytes_of_outputs p.outputs ++ p.own))
    (ap (λ (t : Talk). t.unwritten) r.begins.rest ∙ unwritten)) in
    record {
      outputs = p.outputs;
      dropped = r.lost ++ e.dropped;
      received = e.received ∙ ap (λ (o : List Output). o ++ e.dropped) (p.received
          ∙ ap (λ (o : List Output). o ++ (p.outputs ++ r.lost)) r.begins.received)
          ∙ append_assoc (received_through a.port) (p.outputs ++ r.lost) e.dropped
          ∙ ap (λ (o : List Output). received_through a.port ++ o) (append_assoc p.outputs r.lost e.dropped);
      says = all.0;
      said = all.1;
      written = p.wrote;
      were_written = written;
      front = all.2;
    }

is_allowed : (words : AllowedWords) (found : Option Word) → ((word : Word) → has_word words word ≡ true)
    → IsSome found → allows_word words found ≡ false → ⊥
is_allowed words None all some refused = absurd (true≢false (sym some))
is_allowed words (Some word) all some refused = true≢false (sym (all word) ∙ refused)

-- Where all words are allowed, none is refused.
says_nothing : (words : AllowedWords) (text : List ℕ) → ((word : Word) → has_word words word ≡ true)
    → IsRefusal words text → IsNothing text
says_nothing words text all (inl none) = none
says_nothing words text all (inr x) = absurd (is_allowed words (word_of x.0) all x.1 x.2)

pub writes_outputs : (words : AllowedWords) (Written : List ℕ → Type 0) (before after : PortEnd)
    → ((word : Word) → has_word words word ≡ true)
    → WritesBack (IsRefusal words) Written before after → WritesBack IsNothing Written before after
writes_outputs words Written before after all w = record {
  outputs = w.outputs;
  dropped = w.dropped;
  received = w.received;
  says = w.says;
  said = says_nothing words w.says all w.said;
  written = w.written;
  were_written = w.were_written;
  front = w.front;
}
