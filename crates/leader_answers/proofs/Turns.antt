-- The requests of a connection that are answered in their turn.
use Rattle.std.proofs.Common.{◌≡◌, ℕ, zero, suc, ◌+◌, ◌<◌, ◌≤◌, ◌-◌, ℤ, Bool, true, false, if◌then◌else◌, slice_get, Option, Some, None, refl, sym, ap, ◌∙◌, arith}
use Rattle.std.specs.Prelude.{is_some}
use Rattle.std.specs.Option.{option_map_or}
use mathlib.Core.Bool.{true≢false}
use Rattle.txn_codec.specs.declared.txn.Txn.{Txn}
use Rattle.data_tree.specs.declared.outcome.TxnResults.{TxnResults}
use Rattle.txn_codec.specs.declared.row.SessionChange.{SessionChange}
use Rattle.txn_codec.specs.declared.row.SessionChange.TheVariants as changes
use Rattle.txn_codec.specs.Row.{session_change}
use Rattle.sessions.specs.Sessions.{connection_of}
use Rattle.read_processor.specs.declared.shown.Look.{Look}
use Rattle.read_processor.specs.Reply.{reply_frame}
use Rattle.forwarding.specs.declared.request.Ready.{Ready}
use Rattle.forwarding.specs.declared.request.AnsweredWrite.{AnsweredWrite}
use Rattle.forwarding.specs.Queue.{RequestQueue, found_write, OldestWriteIsAt, without_oldest_write, after_answer}
use Rattle.forwarding.specs.declared.request.ConnectKind.TheVariants.{New}
use Rattle.forwarding.specs.Pending.{queue_of, put_queue, take_ready, remove_write, awaiting}
use Rattle.forwarding.proofs.Queued.{found_is}
use Rattle.world.specs.World.{Clients, World}
use Rattle.world.specs.Steps.{StepResult, no_output, and_then}
use Rattle.world.specs.Sending.{with_pending, close_client, send_or_close}
use Rattle.leader_answers.specs.declared.due.Due.{Due}
use Rattle.leader_answers.specs.declared.due.Due.TheVariants.{Nothing, Admission, Ending, Reply}
use Rattle.leader_answers.specs.Answering.{answer_ready, answer_if_ready, answer_up_to, answer_front, txn_number, admission_of, connection_with, has_moved, send_write_reply, ending_of, reply_as, reply_of, due_by, answer_due, give_answer, due_of, due_in_log, answer_optional_txn, answer_applied_txn}
use Rattle.write_replies.specs.Replies.{write_look}

-- The world after the request in front was taken.
abbrev pub without_front : ℕ → World → World
without_front n w = with_pending w (take_ready w.clients.pending n).after

module _ (n : ℕ) (w : World) where
  -- Nothing in front is ready.
  none_ready : (most : ℕ) → (take_ready w.clients.pending n).ready ≡ None → 0 < most
      → answer_up_to most n w ≡ no_output (without_front n w)
  none_ready zero none some = absurd (omega (arith, some))
  none_ready (suc most) none some =
      ap (λ (o : Option Ready). answer_if_ready n (without_front n w) o (answer_up_to most n)) none

  -- The request in front is ready.
  one_ready : (most : ℕ) (ready : Ready) → (take_ready w.clients.pending n).ready ≡ Some ready
      → answer_up_to (suc most) n w ≡ and_then (answer_ready n (without_front n w) ready) (answer_up_to most n)
  one_ready most ready is =
      ap (λ (o : Option Ready). answer_if_ready n (without_front n w) o (answer_up_to most n)) is

  pub stops_at : (limit k : ℕ) (after : World) → k < limit → None ≡ (take_ready w.clients.pending n).ready
      → after ≡ without_front n w → answer_up_to (limit - k) n w ≡ no_output after
  stops_at limit k after below none left =
      none_ready (limit - k) (sym none) (omega (arith, below)) ∙ ap no_output (sym left)

  pub goes_to : (limit k : ℕ) (ready : Ready) (after : World) → k < limit
      → Some ready ≡ (take_ready w.clients.pending n).ready → after ≡ without_front n w
      → answer_up_to (limit - k) n w ≡ and_then (answer_ready n after ready) (answer_up_to (limit - (k + 1)) n)
  goes_to limit k ready after below is left =
      let turns : limit - k ≡ suc (limit - (k + 1)) = omega (arith, below) in
      ap (λ (most : ℕ). answer_up_to most n w) turns ∙ one_ready (limit - (k + 1)) ready (sym is)
      ∙ ap (λ (v : World). and_then (answer_ready n v ready) (answer_up_to (limit - (k + 1)) n)) (sym left)

pub none_left : (n limit k : ℕ) (w : World) → limit ≤ k → answer_up_to (limit - k) n w ≡ no_output w
none_left n limit k w above =
    let none : limit - k ≡ 0 = omega (arith, above) in
    ap (λ (most : ℕ). answer_up_to most n w) none

-- ---- a transaction

module _ (w : World) (place : ℕ) (results : TxnResults) (t : Txn) (at : Some t ≡ slice_get w.replica.learner.log place)
    (due : Due) (is : due ≡ due_in_log w place) where
  -- The transaction is answered as it is due.
  pub due_is : due ≡ answer_due w.clients t
  due_is = is ∙ ap (due_of w.clients) (sym at)

  pub of_due : answer_applied_txn w place results ≡ give_answer w t results due
  of_due = ap (answer_optional_txn w results) (sym at) ∙ ap (give_answer w t results) (sym due_is)

-- Of a reply that is due, the write is the oldest, at its place.
pub reply_is : (c : Clients) (t : Txn) (n : ℕ) (write : AnsweredWrite) → Reply n write ≡ answer_due c t
    → found_write (queue_of c.pending n) t.header.cxid (txn_number t) ≡ Some write
reply_is c t n write e = by (session_change t.body) e
  where
    -- The connection of a reply and its write.
    reply_in : Due → Option (ℕ × AnsweredWrite)
    reply_in Nothing = None
    reply_in (Admission m) = None
    reply_in (Ending m) = None
    reply_in (Reply m w) = Some (m, w)

    none_here : {A : Type 0} → reply_in (Reply n write) ≡ None → A
    none_here none = absurd (true≢false (ap is_some none))

    admitted : (o : Option ℕ) → Reply n write ≡ admission_of o
        → found_write (queue_of c.pending n) t.header.cxid (txn_number t) ≡ Some write
    admitted None e = none_here (ap reply_in e)
    admitted (Some m) e = none_here (ap reply_in e)

    ended : (o : Option ℕ) → Reply n write ≡ ending_of o
        → found_write (queue_of c.pending n) t.header.cxid (txn_number t) ≡ Some write
    ended None e = none_here (ap reply_in e)
    ended (Some m) e = none_here (ap reply_in e)

    found : (m : ℕ) (o : Option AnsweredWrite)
        → found_write (queue_of c.pending m) t.header.cxid (txn_number t) ≡ o → Reply n write ≡ reply_as m o
        → found_write (queue_of c.pending n) t.header.cxid (txn_number t) ≡ Some write
    found m None is e = none_here (ap reply_in e)
    found m (Some w) is e =
        let same : n ≡ m = ap (λ (d : Due). option_map_or (λ (p : ℕ × AnsweredWrite). p.0) (reply_in d) n) e in
        let same_write : write ≡ w =
        ap (λ (d : Due). option_map_or (λ (p : ℕ × AnsweredWrite). p.1) (reply_in d) write) e in
        ap (λ (k : ℕ). found_write (queue_of c.pending k) t.header.cxid (txn_number t)) same ∙ is
        ∙ ap Some (sym same_write)

    replied : (o : Option ℕ) → Reply n write ≡ reply_of c t o
        → found_write (queue_of c.pending n) t.header.cxid (txn_number t) ≡ Some write
    replied None e = none_here (ap reply_in e)
    replied (Some m) e = found m (found_write (queue_of c.pending m) t.header.cxid (txn_number t)) refl e

    by : (change : SessionChange) → Reply n write ≡ due_by c t change
        → found_write (queue_of c.pending n) t.header.cxid (txn_number t) ≡ Some write
    by (changes.Begins time_out) e = admitted (awaiting c.pending t.header.client_id New) e
    by changes.Ends e = ended (connection_with c t.header.client_id) e
    by changes.Nothing e = replied (connection_of c.sessions t.header.client_id) e

module _ (w : World) (place : ℕ) (results : TxnResults) (t : Txn) (at : Some t ≡ slice_get w.replica.learner.log place) (n : ℕ)
    (write : AnsweredWrite) (is : Reply n write ≡ due_in_log w place) where
  abbrev found : OldestWriteIsAt (queue_of w.clients.pending n) write.place
      × (after_answer (queue_of w.clients.pending n) t.header.cxid (txn_number t)
      ≡ without_oldest_write (queue_of w.clients.pending n))
  found = found_is (queue_of w.clients.pending n) t.header.cxid (txn_number t) write
      (reply_is w.clients t n write (due_is w place results t at (Reply n write) is))

  pub write_is_at : OldestWriteIsAt (queue_of w.clients.pending n) write.place
  write_is_at = found.0

  -- The write is refused since the session has moved.
  pub moved_write : has_moved w results ≡ true → answer_applied_txn w place results ≡ close_client n w
  moved_write moved =
      of_due w place results t at (Reply n write) is
      ∙ ap (λ (b : Bool). if b then close_client n w else send_write_reply n w t results write.kind) moved

  -- The write is answered, and then what waited only for it.
  pub one_write : has_moved w results ≡ false → (seen : Look) → seen ≡ write_look w.replica.tree write.kind t.body results
      → answer_applied_txn w place results ≡ and_then
      (send_or_close n (with_pending w (remove_write w.clients.pending n))
      (reply_frame t.header.cxid t.header.zxid seen)) (answer_front n)
  one_write here seen looks =
      let answered : RequestQueue → Look → StepResult World =
      λ (q : RequestQueue) (l : Look). and_then
      (send_or_close n (with_pending w (put_queue w.clients.pending n q))
      (reply_frame t.header.cxid t.header.zxid l)) (answer_front n) in
      of_due w place results t at (Reply n write) is
      ∙ ap (λ (b : Bool). if b then close_client n w else send_write_reply n w t results write.kind) here
      ∙ ap (answered (after_answer (queue_of w.clients.pending n) t.header.cxid (txn_number t))) (sym looks)
      ∙ ap (λ (q : RequestQueue). answered q seen) found.1
