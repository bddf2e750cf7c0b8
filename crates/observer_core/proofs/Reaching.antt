-- What the leader's stream answers reaches one client alone.
use Rattle.std.proofs.Common.{◌≡◌, inl, inr, ℕ, ℤ, Bool, List, [], ◌∷◌, Option, Some, None, refl, sym, ap, subst, ◌∙◌, arith}
use Rattle.std.specs.Option.{unwrap_or, option_or}
use Rattle.std.proofs.lemmas.Bool.{cond_both}
use Rattle.data_tree.specs.declared.outcome.TxnResults.{TxnResults}
use Rattle.txn_codec.specs.declared.txn.Txn.{Txn}
use Rattle.txn_codec.specs.declared.row.SessionChange.{SessionChange}
use Rattle.txn_codec.specs.declared.row.SessionChange.TheVariants as changes
use Rattle.txn_codec.specs.Row.{session_change}
use Rattle.forwarding.specs.declared.request.ConnectKind.TheVariants.{New, Claimed}
use Rattle.forwarding.specs.declared.request.PendingConnect.{PendingConnect}
use Rattle.forwarding.specs.declared.request.Settled.{Settled}
use Rattle.forwarding.specs.declared.request.Settled.TheVariants.{NoSync, Gone, Of}
use Rattle.forwarding.specs.declared.request.AnsweredWrite.{AnsweredWrite}
use Rattle.forwarding.specs.Queue.{waiting_connect, found_write}
use Rattle.forwarding.specs.Pending.{queue_of, connecting_to, awaiting, pending_close, settle_first, settle_sync}
use Rattle.forwarding.specs.State.{PendingTable}
use Rattle.forwarding.specs.Laws.{OtherQueuesStay}
use Rattle.sessions.specs.Sessions.{session_of_connection, connection_of, close_connection}
use Rattle.sessions.specs.Agreement.{AgreementIsKept, OtherConnectionsStay}
use Rattle.watch_manager.specs.Laws.{OthersKeepWatches}
use Rattle.world.specs.World.{Clients, World}
use Rattle.world.specs.Steps.{no_output}
use Rattle.world.specs.Sending.{with_pending}
use Rattle.leader_answers.specs.declared.due.Due.{Due}
use Rattle.leader_answers.specs.declared.due.Due.TheVariants as dues
use Rattle.leader_answers.specs.Answering.{answer_front, txn_number, answer_due, due_by, admission_of, connection_with, ending_of, reply_as, reply_of, give_answer, admit_client, answer_txn, answer_claim, answer_revalidated, answer_settled, answer_sync}
use Rattle.observer_core.specs.Agreement.{ClientsAgree}
use Rattle.observer_core.specs.Apart.{WaitsForSession, HasOrAsks, IsApart, AnswersOnly, AnswersReachOneClient}
use Rattle.observer_core.proofs.Answered.{awaits_it, front_makes, write_makes, refused_makes, ended_makes, admit_makes}
use Rattle.observer_core.proofs.Plain.{Always, plain_ground, plain_answer_ground}
use Rattle.observer_core.proofs.Agreeing.{owner_has}
use Rattle.observer_core.proofs.Taking.{closed_fewer}
use Rattle.observer_core.proofs.Apart.{then_apart, pending_apart, sent_apart, replies_apart, calls_apart, answers_apart, given_apart, NoSession, Nobody}

-- ---- whom a transaction answers

-- The connection that something is due to, or this one if nothing is.
abbrev due_to : ℕ → Due → ℕ
due_to k dues.Nothing = k
due_to k (dues.Admission n) = n
due_to k (dues.Ending n) = n
due_to k (dues.Reply n write) = n

-- What is due, as a number.
abbrev due_place : Due → ℕ
due_place dues.Nothing = 0
due_place (dues.Admission n) = 1
due_place (dues.Ending n) = 2
due_place (dues.Reply n write) = 3

-- An admission is of the connection that waits for the session, an end of the one that has it or claims it, and a reply
-- of the one that has it.
record IsDueTo (c : Clients) (session : ℤ) (due : Due) : Type 0 where
  admits : (n : ℕ) → due ≡ dues.Admission n → connecting_to c.pending session ≡ Some n
  ends : (n : ℕ) → due ≡ dues.Ending n → connection_with c session ≡ Some n
  replies : (n : ℕ) (write : AnsweredWrite) → due ≡ dues.Reply n write → connection_of c.sessions session ≡ Some n

apart_from : {X : Type 0} (d e : Due) → (due_place d ≡ due_place e → ⊥) → d ≡ e → X
apart_from d e other same = absurd (other (ap due_place same))

nothing_due : (c : Clients) (session : ℤ) → IsDueTo c session dues.Nothing
nothing_due c session = record {
  admits = λ n e. apart_from dues.Nothing (dues.Admission n) (λ x. omega arith) e;
  ends = λ n e. apart_from dues.Nothing (dues.Ending n) (λ x. omega arith) e;
  replies = λ n write e. apart_from dues.Nothing (dues.Reply n write) (λ x. omega arith) e;
}

due_is : (c : Clients) (t : Txn) → IsDueTo c t.header.client_id (answer_due c t)
due_is c t = by (session_change t.body)
  where
    session : ℤ
    session = t.header.client_id

    admitted : (o : Option ℕ) → awaiting c.pending session New ≡ o → IsDueTo c session (admission_of o)
    admitted None is = nothing_due c session
    admitted (Some m) is = record {
      admits = λ n e. awaits_it c.pending session New m is ∙ ap (λ (d : Due). Some (due_to m d)) e;
      ends = λ n e. apart_from (dues.Admission m) (dues.Ending n) (λ x. omega arith) e;
      replies = λ n write e. apart_from (dues.Admission m) (dues.Reply n write) (λ x. omega arith) e;
    }

    ended : (o : Option ℕ) → connection_with c session ≡ o → IsDueTo c session (ending_of o)
    ended None is = nothing_due c session
    ended (Some m) is = record {
      admits = λ n e. apart_from (dues.Ending m) (dues.Admission n) (λ x. omega arith) e;
      ends = λ n e. is ∙ ap (λ (d : Due). Some (due_to m d)) e;
      replies = λ n write e. apart_from (dues.Ending m) (dues.Reply n write) (λ x. omega arith) e;
    }

    replies_as : (m : ℕ) (o : Option AnsweredWrite) → connection_of c.sessions session ≡ Some m
        → IsDueTo c session (reply_as m o)
    replies_as m None is = nothing_due c session
    replies_as m (Some write) is = record {
      admits = λ n e. apart_from (dues.Reply m write) (dues.Admission n) (λ x. omega arith) e;
      ends = λ n e. apart_from (dues.Reply m write) (dues.Ending n) (λ x. omega arith) e;
      replies = λ n other e. is ∙ ap (λ (d : Due). Some (due_to m d)) e;
    }

    replied : (o : Option ℕ) → connection_of c.sessions session ≡ o → IsDueTo c session (reply_of c t o)
    replied None is = nothing_due c session
    replied (Some m) is = replies_as m (found_write (queue_of c.pending m) t.header.cxid (txn_number t)) is

    by : (change : SessionChange) → IsDueTo c session (due_by c t change)
    by (changes.Begins time_out) = admitted (awaiting c.pending session New) refl
    by changes.Ends = ended (connection_with c session) refl
    by changes.Nothing = replied (connection_of c.sessions session) refl

abbrev number_in : ℕ → Settled → ℕ
number_in k NoSync = k
number_in k Gone = k
number_in k (Of n) = n

-- Settling a sync touches no session.
settled_touches : (p : PendingTable) (syncs : List (Option ℕ)) → (settle_first p syncs).after.touched ≡ p.touched
settled_touches p [] = refl
settled_touches p (None ∷ rest) = refl
settled_touches p (Some n ∷ rest) = refl

module _ (kept : AgreementIsKept) (stay : OtherConnectionsStay) (keep_watches : OthersKeepWatches)
    (queues : OtherQueuesStay) where
  -- The connect that waits for a session is found.
  found_asks : (c : Clients) (session : ℤ) (n : ℕ) → ClientsAgree c → connecting_to c.pending session ≡ Some n
      → WaitsForSession n c session
  found_asks c session n a e =
      let f = a.pending.in_front session n e in record { connect = f.0; waits = f.1.0; same = f.1.1 }

  has_or_claims : (c : Clients) (session : ℤ) (n : ℕ) → ClientsAgree c → connection_with c session ≡ Some n
      → HasOrAsks n c session
  has_or_claims c session n a = by (connection_of c.sessions session) refl
    where
      by : (o : Option ℕ) → connection_of c.sessions session ≡ o
          → option_or o (awaiting c.pending session Claimed) ≡ Some n → HasOrAsks n c session
      by None none e = inr (found_asks c session n a (awaits_it c.pending session Claimed n e))
      by (Some m) has e = inl (owner_has c.sessions session n a.sessions (has ∙ e))

  replies_reach : (w : World) (t : Txn) (results : TxnResults) (n : ℕ) (write : AnsweredWrite) → ClientsAgree w.clients
      → answer_due w.clients t ≡ dues.Reply n write
      → (session_of_connection w.clients.sessions n ≡ Some t.header.client_id) × AnswersOnly n w (answer_txn w t results)
  replies_reach w t results n write a is = (
    owner_has w.clients.sessions t.header.client_id n a.sessions ((due_is w.clients t).replies n write is),
    subst (λ (due : Due). AnswersOnly n w (give_answer w t results due)) (sym is)
        (write_makes n ⊥ Always (IsApart n NoSession Nobody) (plain_ground n)
        (replies_apart NoSession Nobody stay keep_watches queues n) (plain_answer_ground n)
        (answers_apart NoSession Nobody stay keep_watches queues n) w t results write.kind
        (record {
          replies = λ kind v bytes same is. sent_apart NoSession Nobody stay keep_watches queues n v bytes;
          ends = λ xid bytes is. sent_apart NoSession Nobody stay keep_watches queues n w bytes;
        }) tt).is,
  )

  endings_reach : (w : World) (t : Txn) (results : TxnResults) (n : ℕ) → ClientsAgree w.clients
      → answer_due w.clients t ≡ dues.Ending n
      → HasOrAsks n w.clients t.header.client_id × AnswersOnly n w (answer_txn w t results)
  endings_reach w t results n a is = (
    has_or_claims w.clients t.header.client_id n a ((due_is w.clients t).ends n is),
    subst (λ (due : Due). AnswersOnly n w (give_answer w t results due)) (sym is)
        (ended_makes n ⊥ Always (IsApart n NoSession Nobody) (plain_ground n)
        (replies_apart NoSession Nobody stay keep_watches queues n) w t.header.zxid (pending_close w.clients.pending n)
        (λ xid bytes is. sent_apart NoSession Nobody stay keep_watches queues n w bytes) tt).is,
  )

  -- The client that waits for a session is admitted. A connection that had the session before is closed.
  admitted_apart : (w : World) (session : ℤ) (n : ℕ) → ClientsAgree w.clients
      → connecting_to w.clients.pending session ≡ Some n
      → IsApart n (λ own. own ≡ session) (λ k. session_of_connection w.clients.sessions k ≡ Some session) w
      (admit_client n w)
  admitted_apart w session n a found =
      (admit_makes n ⊥ Always (IsApart n Own left) (plain_ground n)
      (replies_apart Own left stay keep_watches queues n) Own (calls_apart Own left stay keep_watches queues n) May
      (λ v given time_out free may u. given_apart Own left stay keep_watches queues n v given time_out may)
      (plain_answer_ground n) (answers_apart Own left stay keep_watches queues n).drops w
      (λ connect waits. (own connect waits, may connect waits)) tt).is
    where
      f : (c : PendingConnect) × ((waiting_connect (queue_of w.clients.pending n) ≡ Some c) × (c.session ≡ session))
      f = a.pending.in_front session n found

      Own : ℤ → Type 0
      Own other = other ≡ session

      left : ℕ → Type 0
      left k = session_of_connection w.clients.sessions k ≡ Some session

      May : World → ℤ → Type 0
      May v other = (j : ℕ) → connection_of v.clients.sessions other ≡ Some j → left j

      own : (connect : PendingConnect) → waiting_connect (queue_of w.clients.pending n) ≡ Some connect
          → Own connect.session
      own connect waits =
          ap (λ (o : Option PendingConnect). (unwrap_or o connect).session) (sym waits ∙ f.1.0) ∙ f.1.1

      -- The older connection of the session had it before.
      may : (connect : PendingConnect) → waiting_connect (queue_of w.clients.pending n) ≡ Some connect → (j : ℕ)
          → connection_of (close_connection w.clients.sessions n) connect.session ≡ Some j → left j
      may connect waits j e =
          let s = close_connection w.clients.sessions n in
          closed_fewer w.clients.sessions n j session
          (owner_has s session j (kept.closes w.clients.sessions n a.sessions)
          (ap (connection_of s) (sym (own connect waits)) ∙ e))

  admissions_reach : (w : World) (t : Txn) (results : TxnResults) (n : ℕ) → ClientsAgree w.clients
      → answer_due w.clients t ≡ dues.Admission n
      → WaitsForSession n w.clients t.header.client_id
      × IsApart n (λ session. session ≡ t.header.client_id)
      (λ k. session_of_connection w.clients.sessions k ≡ Some t.header.client_id) w (answer_txn w t results)
  admissions_reach w t results n a is =
      let session = t.header.client_id in
      let found = (due_is w.clients t).admits n is in (
        found_asks w.clients session n a found,
        subst (λ (due : Due). IsApart n (λ own. own ≡ session)
            (λ k. session_of_connection w.clients.sessions k ≡ Some session) w
            (give_answer w t results due)) (sym is) (admitted_apart w session n a found),
      )

  -- ---- a session that a client claims

  claims_reach : (w : World) (session : ℤ) (lives : Bool) (n : ℕ) → ClientsAgree w.clients
      → awaiting w.clients.pending session Claimed ≡ Some n
      → WaitsForSession n w.clients session
      × IsApart n (λ own. own ≡ session) (λ k. session_of_connection w.clients.sessions k ≡ Some session) w
      (answer_revalidated w session lives)
  claims_reach w session lives n a is = (
    found_asks w.clients session n a found,
    subst (λ (o : Option ℕ). IsApart n Own left w (answer_claim w o lives)) (sym is)
        (cond_both lives _ _ (IsApart n Own left w) (λ _. admitted_apart w session n a found)
        (λ _. (refused_makes n ⊥ Always (IsApart n Own left) (plain_ground n)
        (replies_apart Own left stay keep_watches queues n) w (waiting_connect (queue_of w.clients.pending n)) tt).is)),
  )
    where
      found : connecting_to w.clients.pending session ≡ Some n
      found = awaits_it w.clients.pending session Claimed n is

      Own : ℤ → Type 0
      Own other = other ≡ session

      left : ℕ → Type 0
      left k = session_of_connection w.clients.sessions k ≡ Some session

  -- ---- a sync

  syncs_reach : (w : World) (n : ℕ) → ClientsAgree w.clients → (settle_sync w.clients.pending).settled ≡ Of n
      → AnswersOnly n w (answer_sync w)
  syncs_reach w n a is =
      let p = w.clients.pending in
      let v = with_pending w (settle_sync p).after in
      subst (λ (o : Settled). AnswersOnly n w (answer_settled v o)) (sym is)
      (then_apart NoSession Nobody n w (no_output v) (answer_front n)
      (pending_apart NoSession Nobody stay keep_watches queues n w (settle_sync p).after (settled_touches p p.syncs)
      (λ k other. queues.settles p k (λ e. other (ap (number_in k) (sym e ∙ is)))))
      (front_makes n ⊥ Always (IsApart n NoSession Nobody) (plain_ground n)
      (replies_apart NoSession Nobody stay keep_watches queues n) (plain_answer_ground n)
      (answers_apart NoSession Nobody stay keep_watches queues n) v tt).is)

  pub answers_reach_one_client : AnswersReachOneClient
  answers_reach_one_client = record {
    replies = replies_reach;
    endings = endings_reach;
    admissions = admissions_reach;
    others = λ w t results is. ap (give_answer w t results) is;
    claims = claims_reach;
    unclaimed = λ w session lives none. ap (λ (o : Option ℕ). answer_claim w o lives) none;
    syncs = syncs_reach;
  }
