-- Steps of a session, one after the other.
use Rattle.std.proofs.Common.{◌≡◌, ◌⊎◌, inl, inr, ℕ, List, [], ◌∷◌, ◌++◌, map, length, take, drop, Result, Ok, Err, OnOk, OnErr, Option, Bool, true, false, true≢false, IsSome, refl, sym, ap, subst, ◌∙◌}
use Rattle.std.specs.Io.{StartsWith, appended_bytes}
use Rattle.std.specs.Io.KnownBytes.{Keeps, Appends, Consumes}
use Rattle.std.proofs.lemmas.Bool.{false_from_ne_true}
use Rattle.std.proofs.lemmas.Grind.{flat_map-append}
use Rattle.std.proofs.lemmas.List.{append-nil, append_assoc, map-append, take-append-drop}
use Rattle.values.specs.declared.fault.NoMemory.{NoMemory}
use Rattle.four_letter.specs.Words.{word_of}
use Rattle.world.specs.declared.output.Output.{Output}
use Rattle.world.specs.declared.output.Output.TheVariants.{ToLeader, ToClient, CloseLeader, CloseClient}
use Rattle.intake.specs.declared.message.Message.{Message}
use Rattle.intake.specs.declared.message.Message.TheVariants.{Bytes}
use Rattle.intake.specs.declared.port.PortEnd.{PortEnd}
use Rattle.intake.specs.Ports.{sent_through, received_through, SamePort}
use Rattle.connection_loop.specs.declared.limits.AllowedWords.{AllowedWords}
use Rattle.connection_loop.specs.declared.session.Step.{Step}
use Rattle.connection_loop.specs.declared.session.Step.TheVariants.{Done, Idle, Over}
use Rattle.connection_loop.specs.Conversations.{IsFront, joined_pieces, bytes_of_output, bytes_of_outputs, refusal_text, refusal_of, IsRefusal}
use Rattle.connection_loop.specs.Inner.{Talk, message_held, messages_given, Gives, Drops, Passes, PassesOn, GoesOn, IsAdded, ClosesIfRefused}
use Rattle.connection_loop.specs.Limits.{allows_word}
use Rattle.connection_loop.specs.Outgoing.{Unwritten, with_output, with_outputs, HasGathered, LosesOutput}
use Rattle.connection_loop.specs.Windows.{Window}
use Rattle.connection_loop.proofs.Gathering.{outputs_close}
use Rattle.connection_loop.proofs.Known.{consumes_none, appends_none, keeps_consumes, keeps_appends, consumes_more, appends_more}
use Rattle.connection_loop.proofs.Ports.{same_port, same_itself}

-- ---- one step

pub stays : (t : Talk) (unread left written has : Option (List ℕ)) → Consumes unread left [] → Appends written has []
    → Passes t t unread left written has []
stays t unread left written has consumed appended = record {
  pieces = [];
  read = [];
  outputs = [];
  own = [];
  wrote = [];
  port = same_itself t.port;
  sent = sym (append-nil (messages_given t));
  consumed = consumed;
  waits = sym (append-nil t.unsent);
  received = sym (append-nil (received_through t.port));
  appended = appended;
  unwritten = sym (append-nil t.unwritten);
  added = inl refl;
  refuses = λ e. (e, refl);
  words = refl;
}

pub stays_at : (a b : Talk) (unread left written has : Option (List ℕ)) → b ≡ a → Consumes unread left []
    → Appends written has [] → Passes a b unread left written has []
stays_at a b unread left written has same consumed appended =
    subst (λ (t : Talk). Passes a t unread left written has []) (sym same)
    (stays a unread left written has consumed appended)

pub passes_at : (a b c : Talk) (unread left written has : Option (List ℕ)) (lost : List Output)
    → Passes a b unread left written has lost → c ≡ b → Passes a c unread left written has lost
passes_at a b c unread left written has lost p same =
    subst (λ (t : Talk). Passes a t unread left written has lost) (sym same) p

-- The connection ends with this step.
pub ends_on : (step : Step) (a b : Talk) (unread left written has : Option (List ℕ)) (lost : List Output)
    → step ≡ Over → Passes a b unread left written has lost → PassesOn step a b unread left written has
ends_on step a b unread left written has lost is p =
    let at : PassesOn Over a b unread left written has = record { lost = lost; goes = tt; passes = p } in
    subst (λ (s : Step). PassesOn s a b unread left written has) (sym is) at

-- What was given to the port is a part of what is sent.
pub gives_pieces : (a b : Talk) (pieces : List (List ℕ)) (unread written : Option (List ℕ))
    → SamePort a.port b.port → messages_given b ≡ messages_given a ++ map Bytes pieces
    → received_through b.port ≡ received_through a.port
    → joined_pieces pieces ++ b.unsent ≡ a.unsent → b.unwritten ≡ a.unwritten
    → b.refuses ≡ a.refuses → b.words ≡ a.words → Passes a b unread unread written written []
gives_pieces a b pieces unread written port sent received waits unwritten refuses words = record {
  pieces = pieces;
  read = [];
  outputs = [];
  own = [];
  wrote = [];
  port = port;
  sent = sent;
  consumed = consumes_none unread;
  waits = waits ∙ sym (append-nil a.unsent);
  received = received ∙ sym (append-nil (received_through a.port));
  appended = appends_none written;
  unwritten = unwritten ∙ sym (append-nil a.unwritten);
  added = inl refl;
  refuses = λ e. (refuses ∙ e, refl);
  words = words;
}

pub gives_nothing : (a b : Talk) (unread written : Option (List ℕ)) → Gives a b []
    → Passes a b unread unread written written []
gives_nothing a b unread written g =
    gives_pieces a b [] unread written g.port g.sent g.received (ap (λ (t : Talk). t.unsent) g.rest) (ap (λ (t : Talk). t.unwritten) g.rest)
    (ap (λ (t : Talk). t.refuses) g.rest) (ap (λ (t : Talk). t.words) g.rest)

-- A piece is taken off what waits, and sent.
pub sends_piece : (a b : Talk) (piece : List ℕ) (n : ℕ) (unread written : Option (List ℕ))
    → piece ≡ take n a.unsent → Gives (record a { unsent = drop n a.unsent }) b (Bytes piece ∷ [])
    → Passes a b unread unread written written []
sends_piece a b piece n unread written is g =
    gives_pieces a b (piece ∷ []) unread written g.port g.sent g.received
    (ap (λ l. l ++ b.unsent) (append-nil piece ∙ is) ∙ ap (λ l. take n a.unsent ++ l) (ap (λ (t : Talk). t.unsent) g.rest)
    ∙ take-append-drop n a.unsent)
    (ap (λ (t : Talk). t.unwritten) g.rest)
    (ap (λ (t : Talk). t.refuses) g.rest) (ap (λ (t : Talk). t.words) g.rest)

pub reads : (a b : Talk) (read : List ℕ) (unread left written : Option (List ℕ))
    → b ≡ record a { unsent = b.unsent } → b.unsent ≡ a.unsent ++ read → Consumes unread left read
    → Passes a b unread left written written []
reads a b read unread left written rest is consumed =
    let at : Passes a (record a { unsent = b.unsent }) unread left written written [] =
    record {
      pieces = [];
      read = read;
      outputs = [];
      own = [];
      wrote = [];
      port = same_itself a.port;
      sent = sym (append-nil (messages_given a));
      consumed = consumed;
      waits = is;
      received = sym (append-nil (received_through a.port));
      appended = appends_none written;
      unwritten = sym (append-nil a.unwritten);
      added = inl refl;
      refuses = λ e. (e, refl);
      words = refl;
    } in
    subst (λ (t : Talk). Passes a t unread left written written []) (sym rest) at

pub writes : (a b : Talk) (n : ℕ) (unread written has : Option (List ℕ))
    → b ≡ record a { unwritten = drop n a.unwritten } → Appends written has (take n a.unwritten)
    → Passes a b unread unread written has []
writes a b n unread written has rest appended =
    let at : Passes a (record a { unwritten = drop n a.unwritten }) unread unread written has [] =
    record {
      pieces = [];
      read = [];
      outputs = [];
      own = [];
      wrote = take n a.unwritten;
      port = same_itself a.port;
      sent = sym (append-nil (messages_given a));
      consumed = consumes_none unread;
      waits = sym (append-nil a.unsent);
      received = sym (append-nil (received_through a.port));
      appended = appended;
      unwritten = take-append-drop n a.unwritten ∙ sym (append-nil a.unwritten);
      added = inl refl;
      refuses = λ e. (e, refl);
      words = refl;
    } in
    subst (λ (t : Talk). Passes a t unread unread written has []) (sym rest) at

-- The writer took so many bytes of what is gathered.
pub wrote_some : (a : Talk) (o n : Unwritten) (count : ℕ) (unread written has : Option (List ℕ))
    → o.bytes ≡ a.unwritten → o.closing ≡ a.closing → n ≡ record o { bytes = drop count o.bytes }
    → Appends written has (take count o.bytes)
    → Passes a (record a { unwritten = n.bytes; closing = n.closing }) unread unread written has []
wrote_some a o n count unread written has held closing is appended =
    writes a (record a { unwritten = n.bytes; closing = n.closing }) count unread written has
    (ap (λ (u : Unwritten). record a { unwritten = u.bytes; closing = u.closing }) is
    ∙ ap (λ c. record a { unwritten = drop count o.bytes; closing = c }) closing
    ∙ ap (λ l. record a { unwritten = drop count l }) held)
    (subst (λ (l : List ℕ). Appends written has (take count l)) held appended)

pub wrote_none : (a : Talk) (o n : Unwritten) (unread written has : Option (List ℕ))
    → o.bytes ≡ a.unwritten → o.closing ≡ a.closing → n ≡ o → Keeps written has
    → Passes a (record a { unwritten = n.bytes; closing = n.closing }) unread unread written has []
wrote_none a o n unread written has held closing is kept =
    stays_at a (record a { unwritten = n.bytes; closing = n.closing }) unread unread written has
    (ap (λ (u : Unwritten). record a { unwritten = u.bytes; closing = u.closing }) is
    ∙ ap (λ c. record a { unwritten = o.bytes; closing = c }) closing
    ∙ ap (λ l. record a { unwritten = l }) held)
    (consumes_none unread) (keeps_appends written has kept)

output_bytes : (u : Unwritten) (o : Output) → (with_output u o).bytes ≡ u.bytes ++ bytes_of_output o
output_bytes u (ToLeader bytes) = refl
output_bytes u (ToClient n bytes) = refl
output_bytes u (CloseLeader fault) = sym (append-nil u.bytes)
output_bytes u (CloseClient n) = sym (append-nil u.bytes)

outputs_bytes : (u : Unwritten) (os : List Output) → (with_outputs u os).bytes ≡ u.bytes ++ bytes_of_outputs os
outputs_bytes u [] = sym (append-nil u.bytes)
outputs_bytes u (o ∷ os) =
    outputs_bytes (with_output u o) os ∙ ap (λ l. l ++ bytes_of_outputs os) (output_bytes u o)
    ∙ append_assoc u.bytes (bytes_of_output o) (bytes_of_outputs os)

-- Outputs were gathered, and others received that are lost.
gathers_of : (a : Talk) (o n : Unwritten) (counted counts : Window) (came after : PortEnd) (found : Bool)
    (lost : List Output) (unread written : Option (List ℕ))
    → HasGathered o n counted counts a.port came found → o.bytes ≡ a.unwritten → o.closing ≡ a.closing
    → ClosesIfRefused a → SamePort came after → sent_through after ≡ sent_through came
    → received_through after ≡ received_through came ++ lost
    → Passes a (record a { port = after; unwritten = n.bytes; closing = n.closing }) unread unread written written lost
gathers_of a o n counted counts came after found lost unread written g held closing closes port sent received = record {
  pieces = [];
  read = [];
  outputs = g.outputs;
  own = [];
  wrote = [];
  port = same_port a.port came after g.port port;
  sent = ap (λ l. l ++ message_held a.held) (sent ∙ g.sent) ∙ sym (append-nil (messages_given a));
  consumed = consumes_none unread;
  waits = sym (append-nil a.unsent);
  received = received ∙ ap (λ l. l ++ lost) g.received ∙ append_assoc (received_through a.port) g.outputs lost;
  appended = appends_none written;
  unwritten = ap (λ (u : Unwritten). u.bytes) g.unwritten ∙ outputs_bytes o g.outputs
      ∙ ap (λ l. l ++ bytes_of_outputs g.outputs) held
      ∙ ap (λ l. a.unwritten ++ l) (sym (append-nil (bytes_of_outputs g.outputs)));
  added = inl refl;
  refuses = λ e. (e, g.none (closing ∙ closes e));
  words = refl;
}

pub gathers : (a b : Talk) (o n : Unwritten) (counted counts : Window) (found : Bool)
    (unread written : Option (List ℕ))
    → HasGathered o n counted counts a.port b.port found → o.bytes ≡ a.unwritten → o.closing ≡ a.closing
    → ClosesIfRefused a → b ≡ record a { port = b.port; unwritten = n.bytes; closing = n.closing }
    → Passes a b unread unread written written []
gathers a b o n counted counts found unread written g held closing closes rest =
    subst (λ (t : Talk). Passes a t unread unread written written []) (sym rest)
    (gathers_of a o n counted counts b.port b.port found [] unread written g held closing closes (same_itself b.port)
    refl (sym (append-nil (received_through b.port))))

pub gathered_closes : (a b : Talk) (o n : Unwritten) (counted counts : Window) (found : Bool)
    → HasGathered o n counted counts a.port b.port found → o.closing ≡ a.closing
    → ClosesIfRefused a → b ≡ record a { port = b.port; unwritten = n.bytes; closing = n.closing }
    → ClosesIfRefused b
gathered_closes a b o n counted counts found g closing closes rest refused =
    let was : a.refuses ≡ true = sym (ap (λ (t : Talk). t.refuses) rest) ∙ refused in
    ap (λ (t : Talk). t.closing) rest ∙ ap (λ (u : Unwritten). u.closing) g.unwritten
    ∙ outputs_close o g.outputs (closing ∙ closes was)

pub loses : (a b : Talk) (o n : Unwritten) (counted : Window) (unread written : Option (List ℕ))
    → (l : LosesOutput o n counted a.port b.port) → o.bytes ≡ a.unwritten → o.closing ≡ a.closing
    → ClosesIfRefused a → b ≡ record a { port = b.port; unwritten = n.bytes; closing = n.closing }
    → Passes a b unread unread written written (l.lost ∷ [])
loses a b o n counted unread written l held closing closes rest =
    subst (λ (t : Talk). Passes a t unread unread written written (l.lost ∷ [])) (sym rest)
    (gathers_of a o n counted l.counts l.came b.port l.found (l.lost ∷ []) unread written l.gathered held closing closes
    l.port l.sent l.received)

-- A word is refused, or the front of the text is said for which there is memory.
pub says : (a b : Talk) (text word : List ℕ) (unread written : Option (List ℕ))
    → a.refuses ≡ false → b ≡ record a { unwritten = a.unwritten ++ text; closing = b.closing; refuses = true }
    → IsFront text (refusal_of word) → IsSome (word_of word) → allows_word a.words (word_of word) ≡ false
    → Passes a b unread unread written written []
says a b text word unread written new rest front some refused =
    let at : Passes a (record a { unwritten = a.unwritten ++ text; closing = b.closing; refuses = true })
    unread unread written written [] =
    record {
      pieces = [];
      read = [];
      outputs = [];
      own = text;
      wrote = [];
      port = same_itself a.port;
      sent = sym (append-nil (messages_given a));
      consumed = consumes_none unread;
      waits = sym (append-nil a.unsent);
      received = sym (append-nil (received_through a.port));
      appended = appends_none written;
      unwritten = refl;
      added = inr (new, refl, refusal_of word, front, inr (word, some, refused, refl));
      refuses = λ e. absurd (true≢false (sym e ∙ new));
      words = refl;
    } in
    subst (λ (t : Talk). Passes a t unread unread written written []) (sym rest) at

-- ---- one step after the other

-- What is said comes after the outputs.
between : (bp op bq oq : List ℕ) → (op ≡ []) ⊎ ((bq ≡ []) × (oq ≡ []))
    → (bp ++ op) ++ (bq ++ oq) ≡ (bp ++ bq) ++ (op ++ oq)
between bp op bq oq (inl e) =
    ap (λ l. (bp ++ l) ++ (bq ++ oq)) e ∙ ap (λ l. l ++ (bq ++ oq)) (append-nil bp) ∙ sym (append_assoc bp bq oq)
    ∙ ap (λ l. (bp ++ bq) ++ (l ++ oq)) (sym e)
between bp op bq oq (inr e) =
    ap (λ l. (bp ++ op) ++ (l ++ oq)) e.0 ∙ ap (λ l. (bp ++ op) ++ l) e.1 ∙ append-nil (bp ++ op)
    ∙ ap (λ l. l ++ op) (sym (append-nil bp)) ∙ ap (λ l. (bp ++ l) ++ op) (sym e.0)
    ∙ ap (λ l. (bp ++ bq) ++ l) (sym (append-nil op) ∙ ap (λ l. op ++ l) (sym e.1))

is_nothing : (b c : Talk) (own : List ℕ) → b.refuses ≡ true → IsAdded b c own → own ≡ []
is_nothing b c own refuses (inl e) = e
is_nothing b c own refuses (inr x) = absurd (true≢false (sym refuses ∙ x.0))

no_outputs_after : (a b c : Talk) (op oq : List ℕ) (os : List Output) → IsAdded a b op → IsAdded b c oq
    → (b.refuses ≡ true → os ≡ []) → (op ≡ []) ⊎ ((bytes_of_outputs os ≡ []) × (oq ≡ []))
no_outputs_after a b c op oq os (inl e) next none = inl e
no_outputs_after a b c op oq os (inr x) next none =
    inr (ap bytes_of_outputs (none x.1), is_nothing b c oq x.1 next)

said_once : (a b c : Talk) (op oq : List ℕ) → IsAdded a b op → IsAdded b c oq → (a.refuses ≡ true → b.refuses ≡ true)
    → (b.refuses ≡ true → c.refuses ≡ true) → b.words ≡ a.words → IsAdded a c (op ++ oq)
said_once a b c op oq (inl e) (inl f) one next words = inl (ap (λ l. l ++ oq) e ∙ f)
said_once a b c op oq (inl e) (inr x) one next words =
    let new : a.refuses ≡ false = false_from_ne_true a.refuses (λ r. true≢false (sym (one r) ∙ x.0)) in
    let all = subst (λ (t : List ℕ). IsFront t x.2) (sym (ap (λ l. l ++ oq) e)) x.3 in
    inr (new, x.1, x.2, all, subst (λ (w : AllowedWords). IsRefusal w x.2) words x.4)
said_once a b c op oq (inr x) after one next words =
    let none = is_nothing b c oq x.1 after in
    let all = subst (λ (t : List ℕ). IsFront t x.2) (sym (ap (λ l. op ++ l) none ∙ append-nil op)) x.3 in
    inr (x.0, next x.1, x.2, all, x.4)

pub passes_then : (a b c : Talk) (u1 u2 u3 w1 w2 w3 : Option (List ℕ)) (lost : List Output)
    → Passes a b u1 u2 w1 w2 [] → Passes b c u2 u3 w2 w3 lost → Passes a c u1 u3 w1 w3 lost
passes_then a b c u1 u2 u3 w1 w2 w3 lost p q = record {
  pieces = p.pieces ++ q.pieces;
  read = p.read ++ q.read;
  outputs = p.outputs ++ q.outputs;
  own = p.own ++ q.own;
  wrote = p.wrote ++ q.wrote;
  port = same_port a.port b.port c.port p.port q.port;
  sent = q.sent ∙ ap (λ l. l ++ map Bytes q.pieces) p.sent ∙ append_assoc (messages_given a) (map Bytes p.pieces) (map Bytes q.pieces)
      ∙ ap (λ l. messages_given a ++ l) (sym (map-append Bytes p.pieces q.pieces));
  consumed = consumes_more u1 u2 u3 p.read q.read p.consumed q.consumed;
  waits = ap (λ l. l ++ c.unsent) (flat_map-append (λ (piece : List ℕ). piece) p.pieces q.pieces)
      ∙ append_assoc (joined_pieces p.pieces) (joined_pieces q.pieces) c.unsent ∙ ap (λ l. joined_pieces p.pieces ++ l) q.waits
      ∙ sym (append_assoc (joined_pieces p.pieces) b.unsent q.read) ∙ ap (λ l. l ++ q.read) p.waits
      ∙ append_assoc a.unsent p.read q.read;
  received = q.received ∙ ap (λ l. l ++ (q.outputs ++ lost)) (p.received
      ∙ ap (λ l. received_through a.port ++ l) (append-nil p.outputs))
      ∙ append_assoc (received_through a.port) p.outputs (q.outputs ++ lost)
      ∙ ap (λ l. received_through a.port ++ l) (sym (append_assoc p.outputs q.outputs lost));
  appended = appends_more w1 w2 w3 p.wrote q.wrote p.appended q.appended;
  unwritten = append_assoc p.wrote q.wrote c.unwritten ∙ ap (λ l. p.wrote ++ l) q.unwritten
      ∙ sym (append_assoc p.wrote b.unwritten (bytes_of_outputs q.outputs ++ q.own))
      ∙ ap (λ l. l ++ (bytes_of_outputs q.outputs ++ q.own)) p.unwritten
      ∙ append_assoc a.unwritten (bytes_of_outputs p.outputs ++ p.own) (bytes_of_outputs q.outputs ++ q.own)
      ∙ ap (λ l. a.unwritten ++ l)
      (between (bytes_of_outputs p.outputs) p.own (bytes_of_outputs q.outputs) q.own
      (no_outputs_after a b c p.own q.own q.outputs p.added q.added (λ e. (q.refuses e).1))
      ∙ ap (λ l. l ++ (p.own ++ q.own)) (sym (flat_map-append bytes_of_output p.outputs q.outputs)));
  added = said_once a b c p.own q.own p.added q.added (λ e. (p.refuses e).0) (λ e. (q.refuses e).0) p.words;
  refuses = λ e.
      let one = p.refuses e in
      let next = q.refuses one.0 in
      (next.0, ap (λ l. l ++ q.outputs) one.1 ∙ next.1);
  words = q.words ∙ p.words;
}

-- ---- steps of which no output is lost

goes_any : (step : Step) (t : Talk) → ClosesIfRefused t → GoesOn step t []
goes_any Done t closes = (refl, closes)
goes_any Idle t closes = (refl, closes)
goes_any Over t closes = tt

pub goes_on : (step : Step) (a b : Talk) (unread left written has : Option (List ℕ)) → ClosesIfRefused b
    → Passes a b unread left written has [] → PassesOn step a b unread left written has
goes_on step a b unread left written has closes p = record {
  lost = [];
  goes = goes_any step b closes;
  passes = p;
}

pub passes_then_on : (step : Step) (a b c : Talk) (u1 u2 u3 w1 w2 w3 : Option (List ℕ))
    → Passes a b u1 u2 w1 w2 [] → PassesOn step b c u2 u3 w2 w3 → PassesOn step a c u1 u3 w1 w3
passes_then_on step a b c u1 u2 u3 w1 w2 w3 p q = record {
  lost = q.lost;
  goes = q.goes;
  passes = passes_then a b c u1 u2 u3 w1 w2 w3 q.lost p q.passes;
}

-- At most the reader was waited for.
pub rested : (step : Step) (a b : Talk) (unread left written : Option (List ℕ)) → b ≡ a → Keeps unread left
    → ClosesIfRefused a → PassesOn step a b unread left written written
rested step a b unread left written same kept closes =
    goes_on step a b unread left written written (subst ClosesIfRefused (sym same) closes)
    (stays_at a b unread left written written same (keeps_consumes unread left kept) (appends_none written))

pub reads_more : (a : Talk) (bytes : List ℕ) (unread left written : Option (List ℕ)) → ClosesIfRefused a
    → StartsWith bytes a.unsent → Consumes unread left (appended_bytes a.unsent bytes)
    → PassesOn Done a (record a { unsent = bytes }) unread left written written
reads_more a bytes unread left written closes kept consumed =
    goes_on Done a (record a { unsent = bytes }) unread left written written closes
    (reads a (record a { unsent = bytes }) (appended_bytes a.unsent bytes) unread left written refl
    (sym (take-append-drop (length a.unsent) bytes) ∙ ap (λ l. l ++ appended_bytes a.unsent bytes) kept) consumed)

no_refusal : (t : Talk) → t.refuses ≡ false → ClosesIfRefused t
no_refusal t new refused = absurd (true≢false (sym refused ∙ new))

pub gave_nothing : (step : Step) (a b c : Talk) (unread written : Option (List ℕ)) → Gives a b [] → c ≡ b
    → a.refuses ≡ false → PassesOn step a c unread unread written written
gave_nothing step a b c unread written g same new =
    goes_on step a c unread unread written written
    (no_refusal c (ap (λ (t : Talk). t.refuses) same ∙ ap (λ (t : Talk). t.refuses) g.rest ∙ new))
    (passes_at a b c unread unread written written [] (gives_nothing a b unread written g) same)

pub going_on : (a b : Talk) (unread left written has : Option (List ℕ)) {lost : List Output} → lost ≡ []
    → Passes a b unread left written has lost → Passes a b unread left written has []
going_on a b unread left written has none p =
    subst (λ (lost : List Output). Passes a b unread left written has lost) none p

-- A step that found nothing to do, or only a part of it, and another one.
pub idle_then : (step : Step) (a b c : Talk) (u1 u2 u3 w1 w2 w3 : Option (List ℕ))
    → PassesOn Idle a b u1 u2 w1 w2 → PassesOn step b c u2 u3 w2 w3 → PassesOn step a c u1 u3 w1 w3
idle_then step a b c u1 u2 u3 w1 w2 w3 p q =
    passes_then_on step a b c u1 u2 u3 w1 w2 w3
    (subst (λ (lost : List Output). Passes a b u1 u2 w1 w2 lost) p.goes.0 p.passes) q

pub gives_closes : (a b : Talk) (messages : List Message) → Gives a b messages → ClosesIfRefused a → ClosesIfRefused b
gives_closes a b messages g closes refused =
    ap (λ (t : Talk). t.closing) g.rest ∙ closes (sym (ap (λ (t : Talk). t.refuses) g.rest) ∙ refused)

-- Where all is written and the connection goes on, it hasn't refused a word.
pub not_refusing : (a b : Talk) → Gives a b [] → ClosesIfRefused a → b.unwritten ≡ []
    → (a.unwritten ≡ [] → a.closing ≡ false) → b.refuses ≡ false
not_refusing a b g closes none stays_open =
    let unwritten = sym (ap (λ (t : Talk). t.unwritten) g.rest) ∙ none in
    ap (λ (t : Talk). t.refuses) g.rest
    ∙ false_from_ne_true a.refuses (λ refused. true≢false (sym (closes refused) ∙ stays_open unwritten))

pub sends_on_piece : (a b n d : Talk) (piece : List ℕ) (len : ℕ) (unread written : Option (List ℕ)) → Gives a b []
    → n ≡ b → a.refuses ≡ false → piece ≡ take len n.unsent
    → Gives (record n { unsent = drop len n.unsent }) d (Bytes piece ∷ [])
    → PassesOn Done a d unread unread written written
sends_on_piece a b n d piece len unread written g same new is gives =
    goes_on Done a d unread unread written written
    (no_refusal d (ap (λ (t : Talk). t.refuses) gives.rest ∙ ap (λ (t : Talk). t.refuses) same
    ∙ ap (λ (t : Talk). t.refuses) g.rest ∙ new))
    (passes_then a n d unread unread unread written written written []
    (passes_at a b n unread unread written written [] (gives_nothing a b unread written g) same)
    (sends_piece n d piece len unread written is gives))

-- ---- the end

pub drops_none : (t : Talk) → Drops t t
drops_none t = record {
  dropped = [];
  port = same_itself t.port;
  sent = refl;
  received = sym (append-nil (received_through t.port));
  rest = refl;
}

pub drops_one : (a b c : Talk) (port : PortEnd) (o : Output) → Drops a b → SamePort b.port port
    → received_through port ≡ received_through b.port ++ o ∷ [] → sent_through port ≡ sent_through b.port
    → c ≡ record b { port = port } → Drops a c
drops_one a b c port o d same received sent is =
    let at : Drops a (record b { port = port }) =
    record {
      dropped = d.dropped ++ o ∷ [];
      port = same_port a.port b.port port d.port same;
      sent = sent ∙ d.sent;
      received = received ∙ ap (λ l. l ++ o ∷ []) d.received ∙ append_assoc (received_through a.port) d.dropped (o ∷ []);
      rest = ap (λ (t : Talk). record t { port = port }) d.rest;
    } in
    subst (λ (t : Talk). Drops a t) (sym is) at

pub drops_asked : (a b c : Talk) (port : PortEnd) → Drops a b → SamePort b.port port
    → received_through port ≡ received_through b.port → sent_through port ≡ sent_through b.port
    → c ≡ record b { port = port } → Drops a c
drops_asked a b c port d same received sent is =
    let at : Drops a (record b { port = port }) =
    record {
      dropped = d.dropped;
      port = same_port a.port b.port port d.port same;
      sent = sent ∙ d.sent;
      received = received ∙ d.received;
      rest = ap (λ (t : Talk). record t { port = port }) d.rest;
    } in
    subst (λ (t : Talk). Drops a t) (sym is) at

-- The text of a refusal, or the word alone if there was no memory for the rest.
pub refusal_front : (r : Result (Unit {0}) NoMemory) (word bytes : List ℕ) (mid new : Unwritten)
    → mid.bytes ≡ bytes ++ word
    → OnOk r (new ≡ record mid { bytes = mid.bytes ++ refusal_text; closing = true }) → OnErr r (new ≡ mid)
    → (text : List ℕ) × IsFront text (refusal_of word) × (new.bytes ≡ bytes ++ text)
refusal_front (Ok done) word bytes mid new first ok err = (
  refusal_of word,
  ([], sym (append-nil (refusal_of word))),
  ap (λ (u : Unwritten). u.bytes) ok ∙ ap (λ l. l ++ refusal_text) first ∙ append_assoc bytes word refusal_text,
)
refusal_front (Err e) word bytes mid new first ok err =
    (word, (refusal_text, refl), ap (λ (u : Unwritten). u.bytes) err ∙ first)
