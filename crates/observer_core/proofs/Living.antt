-- The session of each connection lives, after every event.
use Rattle.std.proofs.Common.{◌≡◌, ◌≢◌, ◌⊎◌, inl, inr, ℕ, ◌+◌, ◌-◌, ℤ, Bool, true, false, cond, List, [], ◌∷◌, ◌++◌, length, slice_get, Option, Some, None, Result, Ok, Err, refl, sym, ap, subst, ◌∙◌, arith}
use Rattle.std.specs.Prelude.{is_some, int_lt}
use Rattle.std.specs.Option.{unwrap_or, option_or}
use Rattle.std.specs.Ordering.{eq_by_cmp, nat_cmp, int_cmp, is_eq}
use Rattle.std.specs.Cmp.{nat_cmp_total, int_cmp_total}
use Rattle.std.specs.List.{list_any}
use Rattle.std.proofs.lemmas.Bool.{cond_both}
use Rattle.std.proofs.lemmas.Cmp.{tied_itself}
use Rattle.std.proofs.lemmas.Map.Lookups.{exact_unsigned, exact_signed}
use Rattle.std.proofs.lemmas.Map.Views.{tells_apart}
use Rattle.std.specs.FinMap as finmap
use mathlib.Core.Bool.{true≢false}
use Rattle.values.specs.declared.fault.Fault.{Fault}
use Rattle.settings.specs.Dialects.{reads_of}
use Rattle.settings.specs.declared.dialect.Dialect.{Dialect}
use Rattle.settings.specs.declared.dialect.Reads.{Reads}
use Rattle.jute.specs.Format.{long, boolean, pair_of, ◌>>=◌}
use Rattle.jute.specs.declared.owned.Id.{Id}
use Rattle.data_tree.specs.declared.outcome.TxnResults.{TxnResults}
use Rattle.txn_codec.specs.declared.txn.Txn.{Txn}
use Rattle.txn_codec.specs.declared.txn.TxnHeader.{TxnHeader}
use Rattle.txn_codec.specs.declared.txn.Operation.{Operation}
use Rattle.txn_codec.specs.declared.txn.Body.{Body}
use Rattle.txn_codec.specs.declared.txn.Body.TheVariants as bodies
use Rattle.data_tree.specs.State.{State, SessionTimeouts}
use Rattle.txn_codec.specs.Row.{has_error, session_change}
use Rattle.data_tree.specs.Meaning.{Change, Put, Remove, Own, Disown, Mend, after_change, after_changes, effect_of, of_failed, of_parts, of_multi, of_close_session, effect_of_body, effect_of_txn, set_acl_at, delete_operations, ended_paths, state_without_session, fresh_state, answer_of}
use Rattle.ephemerals.specs.Orders.{Bytes, sorted_names}
use Rattle.snapshot_codec.specs.Made.{Loading, with_loaded}
use Rattle.snapshot_codec.specs.declared.part.ImagePart.{ImagePart}
use Rattle.snapshot_codec.specs.declared.part.ImagePart.TheVariants as part
use Rattle.quorum_packet.specs.declared.item.Item.{Item}
use Rattle.quorum_packet.specs.declared.item.Item.TheVariants as item
use Rattle.quorum_packet.specs.declared.packet.QuorumPacket.{QuorumPacket}
use Rattle.quorum_packet.specs.declared.kind.PacketKind.{PacketKind}
use Rattle.quorum_packet.specs.declared.kind.PacketKind.TheVariants as kinds
use Rattle.quorum_packet.specs.Kinds.{kind_of}
use Rattle.quorum_packet.specs.Packet.{carried_bytes}
use Rattle.learner_sync.specs.Learner.{Learner}
use Rattle.learner_sync.specs.Learn.{LearnerStep, message_in_phase, message_in_serving, part_in_phase, load_to_drop, carried_txn, learn_inform, learn_activation, learn_revalidated, single_act, apply_txn, with_applied, zxid_floor}
use Rattle.learner_sync.specs.Messages.{message_if, message_of_kind, message_of_packet}
use Rattle.learner_sync.specs.declared.act.Act.TheVariants as act
use Rattle.learner_sync.specs.declared.message.Message.{Message}
use Rattle.learner_sync.specs.declared.message.Message.TheVariants as message
use Rattle.learner_sync.specs.declared.phase.Phase.{Phase}
use Rattle.learner_sync.specs.declared.phase.Phase.TheVariants as phase
use Rattle.replica.specs.Replica.{Replica}
use Rattle.replica.proofs.Following.{last-push}
use Rattle.replica.specs.Taking.{ItemEffect, with_nothing_loaded, no_effect, last_txn, apply_to_tree, carry_out_all, with_learner, take_item, is_serving_in, is_serving, checkpoint_if}
use Rattle.replica.specs.Laws.{ServingStays, DialectStays}
use Rattle.replica.specs.declared.item_outcome.LeaderNews.{LeaderNews}
use Rattle.replica.specs.declared.item_outcome.LeaderNews.TheVariants as news
use Rattle.read_processor.specs.Look.{without_body}
use Rattle.read_processor.specs.Reply.{reply_frame}
use Rattle.client_records.specs.declared.codes.TheConstants.{OK}
use Rattle.forwarding.specs.declared.request.PendingConnect.{PendingConnect}
use Rattle.forwarding.specs.declared.request.Settled.{Settled}
use Rattle.forwarding.specs.declared.request.Settled.TheVariants.{NoSync, Gone, Of}
use Rattle.forwarding.specs.declared.request.AnsweredWrite.{AnsweredWrite}
use Rattle.forwarding.specs.Queue.{waiting_connect, found_write}
use Rattle.forwarding.specs.declared.request.ConnectKind.TheVariants.{New, Claimed}
use Rattle.forwarding.specs.Pending.{queue_of, connecting_to, awaiting, pending_close, settle_sync}
use Rattle.sessions.specs.State.{SessionTable as Sessions, ConnectedClient as SessionConnection}
use Rattle.sessions.specs.Sessions.{session_in, session_of_connection, connection_of, close_connection, close_if_some, session_response, new_connection, give_session, AuthResult, are_within_limits, is_same_id, with_id, show_in, add_id}
use Rattle.world.specs.declared.world.Settings.{Settings}
use Rattle.world.specs.World.{Clients, World}
use Rattle.world.specs.Clients.{heard_connection, no_clients}
use Rattle.world.specs.Sending.{send_last, with_sessions, with_pending, close_client_if_some}
use Rattle.client_service.specs.Serve.{is_live, take_client_bytes}
use Rattle.leader_answers.specs.Answering.{txn_number, admission_of, connection_with, ending_of, reply_as, reply_of, due_by, admit_client, close_ended, give_answer, answer_txn, answer_optional_txn, answer_settled}
use Rattle.observer_core.specs.Leader.{tell_effect, answer_news, send_effect, disconnect_all}
use Rattle.observer_core.specs.Play.{is_serving_clients, primed_session, primed_machine}
use Rattle.observer_core.specs.Agreement.{ClientsAgree, AllSessionsLive, SessionsLive, ConnectedSessionsLive}
use Rattle.observer_core.proofs.Walking.{Steps, HoldsOfReplies, HoldsOfCalls, HoldsOfConnects, client_makes}
use Rattle.observer_core.proofs.Answered.{awaits_it, HoldsOfAnswers, admit_makes, front_makes, write_makes}
use Rattle.observer_core.proofs.Events.{IsKept, plays_keep}
use Rattle.observer_core.proofs.Agreeing.{Agreeing, LowerLaws, with_session, agreeing_ground, settled_agrees}
use Rattle.observer_core.proofs.Agreed.{agreeing_answers, tell_agrees}
use Rattle.observer_core.proofs.Taking.{closed_fewer, one_closed_fewer, closed_other}
use Rattle.observer_core.proofs.Unmoved.{news_same, client_same}
use Rattle.observer_core.proofs.Served.{AgreeAndServed, IsQuiet, none_has, of_quiet, gone_nobody, news_quiet, nothing_pending_waits, served_kept}

-- ---- what a transaction leaves of the tree's sessions

changes_leave : (s : State) (cs : List Change) → (after_changes s cs).sessions ≡ s.sessions
changes_leave s [] = refl
changes_leave s (Put path node ∷ cs) = changes_leave (after_change s (Put path node)) cs
changes_leave s (Remove path ∷ cs) = changes_leave (after_change s (Remove path)) cs
changes_leave s (Own session path ∷ cs) = changes_leave (after_change s (Own session path)) cs
changes_leave s (Disown session path ∷ cs) = changes_leave (after_change s (Disown session path)) cs
changes_leave s (Mend path acl ∷ cs) = changes_leave (after_change s (Mend path acl)) cs

parts_leave : (header : TxnHeader) (parts : List Operation) (s : State)
    → (of_parts header parts s).state.sessions ≡ s.sessions
parts_leave header [] s = refl
parts_leave header (o ∷ os) s =
    let changes = (effect_of header o s.nodes).changes in
    parts_leave header os (after_changes s changes) ∙ changes_leave s changes

multi_leaves : (header : TxnHeader) (parts : List Operation) (s : State)
    → (of_multi header parts s).state.sessions ≡ s.sessions
multi_leaves header parts s =
    cond_both (has_error parts) (of_failed parts s) (of_parts header parts s) (λ x. x.state.sessions ≡ s.sessions)
    (λ _. refl) (λ _. parts_leave header parts s)

-- All sessions but the one that is closed stay.
close_leaves : (header : TxnHeader) (listed : List Bytes) (s : State)
    → (of_close_session header listed s).state.sessions ≡ finmap.remove s.sessions header.client_id
close_leaves header listed s =
    parts_leave header (delete_operations (sorted_names (ended_paths header.client_id listed s)))
    (state_without_session header.client_id s)

-- ---- what an item does to a tree that is served

-- Sessions don't move between servers.
abbrev SessionsStay : Replica → Type 0
SessionsStay r = (reads_of r.learner.dialect).moved_sessions ≡ false

-- The item leaves the tree, no transaction was applied, and where sessions stay none was confirmed.
pub record LeavesTree (r : Replica) (t : ItemEffect) : Type 0 where
  pub tree : t.replica.tree ≡ r.tree
  none : (place : ℕ) (results : TxnResults) → t.news ≢ Some (news.Applied place results)
  unclaimed : SessionsStay r → (session : ℤ) (lives : Bool) → t.news ≢ Some (news.Revalidated session lives)

-- A transaction was applied, which the log has one more of.
pub record AppliesTxn (l : Learner) (r : Replica) (t : ItemEffect) : Type 0 where
  pub txn : Txn
  place : ℕ
  results : TxnResults
  tree : t.replica.tree ≡ (effect_of_txn r.tree txn).state
  told : t.news ≡ Some (news.Applied place results)
  at : slice_get t.replica.learner.log place ≡ Some txn
  pub grown : t.replica.learner.log ≡ l.log ++ txn ∷ []

-- What is told, as a number.
abbrev news_place : Option LeaderNews → ℕ
news_place None = 0
news_place (Some (news.Ping p)) = 1
news_place (Some (news.Applied place results)) = 2
news_place (Some news.SyncSettled) = 3
news_place (Some (news.Revalidated session lives)) = 4

apart_news : (x y : Option LeaderNews) → (news_place x ≡ news_place y → ⊥) → x ≢ y
apart_news x y other same = other (ap news_place same)

abbrev pub Serves : Learner → Replica → Result ItemEffect Fault → Type 0
Serves l r (Ok t) = LeavesTree r t ⊎ AppliesTxn l r t
Serves l r (Err e) = Unit {0}

-- Only where sessions move a packet is taken as an answer for one.
answers_where_moved : (reads : Reads) (kind : Option PacketKind) (p : QuorumPacket) (bytes : List ℕ)
    → message_of_kind reads kind p ≡ message.Revalidated bytes → reads.moved_sessions ≡ true
answers_where_moved reads kind p bytes e = by kind (ap is_answer e)
  where
    is_answer : Message → Bool
    is_answer (message.Revalidated bytes) = true
    is_answer m = false

    answers_if : (b : Bool) → is_answer (message_if b (message.Revalidated (carried_bytes p.bytes))) ≡ true → b ≡ true
    answers_if true e = refl
    answers_if false e = absurd (true≢false (sym e))

    other_if : (b : Bool) (m : Message) → is_answer m ≡ false → is_answer (message_if b m) ≡ false
    other_if true m other = other
    other_if false m other = refl

    by : (kind : Option PacketKind) → is_answer (message_of_kind reads kind p) ≡ true → reads.moved_sessions ≡ true
    by (Some kinds.Revalidate) e = answers_if reads.moved_sessions e
    by (Some kinds.CommitAndActivate) e =
        absurd (true≢false (sym e ∙ other_if reads.extended_types (message.Commit p.zxid) refl))
    by (Some kinds.InformAndActivate) e =
        absurd (true≢false (sym e
        ∙ other_if reads.extended_types (message.InformAndActivate (carried_bytes p.bytes)) refl))
    by kind e = cc

module _ (loading : Loading) (r : Replica) where
  abbrev carried : Result LearnerStep Fault → Result ItemEffect Fault
  carried learnt = learnt >>= λ x. carry_out_all (no_effect loading (with_learner r x)) x.acts

  applied : (l : Learner) (txn : Txn) → Serves l r (carried (apply_txn l txn))
  applied l txn =
      cond_both (int_lt (zxid_floor l.phase l.last_zxid) txn.header.zxid) _ _
      (λ (x : Result LearnerStep Fault). Serves l r (carried x))
      (λ _. by (last_txn (with_applied l txn).log) (last-push l.log txn)) (λ _. tt)
    where
      t : ItemEffect
      t = no_effect loading (with_learner r (record { acts = act.Apply ∷ []; after = with_applied l txn }))

      by : (o : Option Txn) → o ≡ Some txn → Serves l r (Ok (apply_to_tree t o))
      by o e = subst (λ (o : Option Txn). Serves l r (Ok (apply_to_tree t o))) (sym e) (inr (record {
        txn = txn;
        place = length (with_applied l txn).log - 1;
        results = (answer_of (effect_of_txn r.tree txn)).results;
        tree = refl;
        told = refl;
        at = last-push l.log txn;
        grown = refl;
      }))

  informed : (l : Learner) (bytes : List ℕ) → Serves l r (carried (learn_inform l bytes))
  informed l bytes = by (carried_txn l bytes)
    where
      by : (x : Result Txn Fault) → Serves l r (carried (x >>= λ t. apply_txn l t))
      by (Ok txn) = applied l txn
      by (Err e) = tt

  activated : (l : Learner) (bytes : List ℕ) → Serves l r (carried (learn_activation l bytes))
  activated l bytes = by (long.read bytes)
    where
      by : (x : Result (ℤ × List ℕ) Fault) → Serves l r (carried (x >>= λ named. learn_inform l named.1))
      by (Ok named) = informed l named.1
      by (Err e) = tt

  -- Nothing is told.
  untold : (t : ItemEffect) → t.replica.tree ≡ r.tree → t.news ≡ None → LeavesTree r t
  untold t same is = record {
    tree = same;
    none = λ place results e. true≢false (sym (ap is_some (sym is ∙ e)));
    unclaimed = λ stay session lives e. true≢false (sym (ap is_some (sym is ∙ e)));
  }

  nothing : (l : Learner) → Serves l r (carried (Ok (record { acts = []; after = l })))
  nothing l = inl (untold (no_effect loading (with_learner r (record { acts = []; after = l }))) refl refl)

  -- The leader answers for a session, where sessions move.
  revalidated : (l : Learner) (bytes : List ℕ) → (reads_of r.learner.dialect).moved_sessions ≡ true
      → Serves l r (carried (learn_revalidated l bytes))
  revalidated l bytes move = by ((pair_of long boolean).read bytes)
    where
      by : (x : Result ((ℤ × Bool) × List ℕ) Fault)
          → Serves l r (carried (x >>= λ answer. Ok (single_act (act.Revalidated answer.0.0 answer.0.1) l)))
      by (Ok answer) =
          let told = Some (news.Revalidated answer.0.0 answer.0.1) in
          inl (record {
            tree = refl;
            none = λ place results e. apart_news told (Some (news.Applied place results)) (λ x. omega arith) e;
            unclaimed = λ stay session lives e. true≢false (sym move ∙ stay);
          })
      by (Err e) = tt

  -- Only an INFORM and an INFORMANDACTIVATE bring a transaction where clients are served.
  message_serves : (l : Learner) (m : Message)
      → ((bytes : List ℕ) → m ≡ message.Revalidated bytes → (reads_of r.learner.dialect).moved_sessions ≡ true)
      → Serves l r (carried (message_in_serving l m))
  message_serves l (message.Ping p) move =
      let told = Some (news.Ping p) in
      inl (record {
        tree = refl;
        none = λ place results e. apart_news told (Some (news.Applied place results)) (λ x. omega arith) e;
        unclaimed = λ stay session lives e. apart_news told (Some (news.Revalidated session lives)) (λ x. omega arith) e;
      })
  message_serves l message.Sync move =
      let told = Some news.SyncSettled in
      inl (record {
        tree = refl;
        none = λ place results e. apart_news told (Some (news.Applied place results)) (λ x. omega arith) e;
        unclaimed = λ stay session lives e. apart_news told (Some (news.Revalidated session lives)) (λ x. omega arith) e;
      })
  message_serves l (message.Revalidated bytes) move = revalidated l bytes (move bytes refl)
  message_serves l (message.Inform bytes) move = informed l bytes
  message_serves l (message.InformAndActivate bytes) move = activated l bytes
  message_serves l (message.LeaderInfo epoch bytes) move = nothing l
  message_serves l message.Diff move = nothing l
  message_serves l (message.Trunc zxid) move = nothing l
  message_serves l (message.Snap zxid) move = nothing l
  message_serves l (message.Proposal bytes) move = nothing l
  message_serves l (message.Commit zxid) move = nothing l
  message_serves l message.NewLeader move = nothing l
  message_serves l message.UpToDate move = nothing l
  message_serves l message.Other move = nothing l

  -- An image is dropped.
  loads : (l : Learner) (p : ImagePart) → Serves l r (carried (Ok (record { acts = act.LoadPart p ∷ []; after = l })))
  loads l p = by (with_loaded loading p)
    where
      t : ItemEffect
      t = no_effect loading (with_learner r (record { acts = act.LoadPart p ∷ []; after = l }))

      by : (x : Result Loading Fault)
          → Serves l r ((x >>= λ loaded. Ok (record t { loading = loaded })) >>= λ u. carry_out_all u [])
      by (Ok loaded) = inl (untold (record t { loading = loaded }) refl refl)
      by (Err e) = tt

  part_serves : (l : Learner) (p : ImagePart) → Serves l r (carried (Ok (load_to_drop p l)))
  part_serves l (part.Session s) = loads l (part.Session s)
  part_serves l (part.Acl a) = loads l (part.Acl a)
  part_serves l (part.Node n) = loads l (part.Node n)
  part_serves l part.End =
      inl (untold (with_nothing_loaded (no_effect loading (with_learner r (load_to_drop part.End l)))) refl refl)

  pub phase_is : (ph : Phase) → is_serving_in ph ≡ true → ph ≡ phase.Serving
  phase_is phase.Serving s = refl
  phase_is ph s = cc

  pub item_serves : (i : Item) → is_serving r ≡ true → Serves r.learner r (take_item loading r i)
  item_serves (item.Packet p) s =
      let m = message_of_packet r.learner.dialect p in
      subst (λ (ph : Phase). Serves r.learner r (carried (message_in_phase ph r.learner m)))
      (sym (phase_is r.learner.phase s))
      (message_serves r.learner m (λ bytes e. answers_where_moved (reads_of r.learner.dialect) (kind_of p.kind) p bytes e))
  item_serves (item.Part p) s =
      subst (λ (ph : Phase). Serves r.learner r (carried (part_in_phase ph r.learner p))) (sym (phase_is r.learner.phase s))
      (part_serves r.learner p)

-- ---- sessions of connections

shown_fewer : (s : Sessions) (n : ℕ) (id : Id) (m : ℕ) (session : ℤ)
    → session_of_connection (add_id s n id).after m ≡ Some session
    → session_of_connection s m ≡ Some session
shown_fewer s n id m session = shown (finmap.get s.connections n) refl
  where
    Fewer : AuthResult → Type 0
    Fewer x = session_of_connection x.after m ≡ Some session → session_of_connection s m ≡ Some session

    added : (c : SessionConnection) → finmap.get s.connections n ≡ Some c
        → Fewer (record { is_accepted = true; after = record s { connections = finmap.insert s.connections n (with_id c id) } })
    added c there e =
        cond_both (eq_by_cmp nat_cmp m n) (Some (with_id c id)) (finmap.get s.connections m)
        (λ (o : Option SessionConnection). session_in o ≡ Some session → session_of_connection s m ≡ Some session)
        (λ same is. ap (session_of_connection s) (tells_apart exact_unsigned m n same) ∙ ap session_in there ∙ is)
        (λ other is. is)
        (sym (ap session_in (finmap.get-insert nat_cmp_total s.connections n (with_id c id) m)) ∙ e)

    shown : (o : Option SessionConnection) → finmap.get s.connections n ≡ o → Fewer (show_in s n id o)
    shown None there = λ e. e
    shown (Some c) there =
        cond_both (list_any (λ shown. is_same_id shown id) c.ids) _ _ Fewer (λ _ e. e)
        (λ _. cond_both (are_within_limits (with_id c id).ids) _ _ Fewer (λ _. added c there) (λ _ e. e))

-- A connection that has a session after it was given to one has this, or had its own before.
given_fewer : (s : Sessions) (n : ℕ) (session time_out : ℤ) (m : ℕ) (has : ℤ)
    → session_of_connection (give_session s n session time_out).after m ≡ Some has
    → (session ≡ has) ⊎ (session_of_connection s m ≡ Some has)
given_fewer s n session time_out m has e =
    cond_both (eq_by_cmp nat_cmp m n) (Some given) (finmap.get others.connections m)
    (λ (o : Option SessionConnection). session_in o ≡ Some has
    → (session ≡ has) ⊎ (session_of_connection s m ≡ Some has))
    (λ same is. inl (ap (λ (o : Option ℤ). unwrap_or o session) is))
    (λ other is. inr (one_closed_fewer s (connection_of s session) m has is))
    (sym (ap session_in (finmap.get-insert nat_cmp_total others.connections n given m)) ∙ e)
  where
    others : Sessions
    others = close_if_some s (connection_of s session)

    given : SessionConnection
    given = new_connection session (session_response s.terms session time_out).time_out

-- The connection of a session is the one that has it.
owned : (c : Clients) (m : ℕ) (session : ℤ) → ClientsAgree c → session_of_connection c.sessions m ≡ Some session
    → connection_of c.sessions session ≡ Some m
owned c m session a e =
    let f = with_session (finmap.get c.sessions.connections m) session e in
    ap (finmap.get c.sessions.owners) (sym f.1.1) ∙ a.sessions.owners m f.0 f.1.0

owned_with : (c : Clients) (m : ℕ) (session : ℤ) → ClientsAgree c → session_of_connection c.sessions m ≡ Some session
    → connection_with c session ≡ Some m
owned_with c m session a e =
    ap (λ (o : Option ℕ). option_or o (awaiting c.pending session Claimed)) (owned c m session a e)

-- ---- a connection's steps

abbrev KeepsLive : Steps
KeepsLive w h = AllSessionsLive w → AllSessionsLive h.after

abbrev MayLive : World → ℤ → Type 0
MayLive w session = is_live session w ≡ true

left_live : (w : World) (o : Option ℕ) → AllSessionsLive w → AllSessionsLive (close_client_if_some w o).after
left_live w None live = live
left_live w (Some n) live = λ m session e. live m session (closed_fewer w.clients.sessions n m session e)

replies_live : (n : ℕ) → HoldsOfReplies n Agreeing KeepsLive
replies_live n = record {
  thens = λ w h next first second live. second (first live);
  stays = λ w live. live;
  closes = λ w a live m session e. live m session (closed_fewer w.clients.sessions n m session e);
  sends = λ w bytes shows live. live;
  watches = λ w watch a live. live;
  unwatches = λ w kind path a live. live;
  shows = λ w id a live m session e. live m session (shown_fewer w.clients.sessions n id m session e);
}

calls_live : (n : ℕ) → HoldsOfCalls n Agreeing (λ session. Unit {0}) KeepsLive
calls_live n = record {
  touches = λ w session own a live. live;
  leaves = λ w k there a live. live;
  writes = λ w session frame xid kind own a live. live;
  syncs = λ w session frame xid path own a live. live;
  holds = λ w frame busy a live. live;
}

connects_live : (n : ℕ) → HoldsOfConnects n Agreeing (λ session. Unit {0}) MayLive KeepsLive
connects_live n = record {
  own = λ session. tt;
  counts = λ w none a live. live;
  gives = λ w session time_out free may a live.
      let x = give_session w.clients.sessions n session time_out in
      left_live (with_sessions w x.after) x.connected.older
      (λ m has e. given_live w session may live m has (given_fewer w.clients.sessions n session time_out m has e));
  asks = λ w time_out has_byte none idle a b live. live;
  displaces = λ w session k with a live. left_live w (Some k) live;
  claims = λ w has_byte response move none idle a live. live;
  may = λ w session live. live;
}
  where
    given_live : (w : World) (session : ℤ) → MayLive w session → AllSessionsLive w → (m : ℕ) (has : ℤ)
        → (session ≡ has) ⊎ (session_of_connection w.clients.sessions m ≡ Some has) → is_live has w ≡ true
    given_live w session may live m has (inl same) = ap (λ (x : ℤ). is_live x w) (sym same) ∙ may
    given_live w session may live m has (inr had) = live m has had

answers_live : (n : ℕ) → HoldsOfAnswers n Agreeing KeepsLive
answers_live n = record {
  takes = λ w a live. live;
  answers = λ w xid txn_kind a live. live;
  drops = λ w a live m session e. live m session (closed_fewer w.clients.sessions n m session e);
}

-- ---- the leader's news

-- After the end of a session each connection has what it had before, and the one of that session has none.
ended_fewer : (n : ℕ) (w : World) (zxid : ℤ) (o : Option ℤ) (m : ℕ) (session : ℤ)
    → session_of_connection (close_ended n w zxid o).after.clients.sessions m ≡ Some session
    → (session_of_connection w.clients.sessions m ≡ Some session) × (m ≢ n)
ended_fewer n w zxid None m session e =
    (closed_fewer w.clients.sessions n m session e, closed_other w.clients.sessions n m session e)
ended_fewer n w zxid (Some xid) m session e = by (reply_frame xid zxid (without_body OK)) e
  where
    by : (frame : Option (List ℕ))
        → session_of_connection (send_last n w frame).after.clients.sessions m ≡ Some session
        → (session_of_connection w.clients.sessions m ≡ Some session) × (m ≢ n)
    by None e =
        let s = close_connection w.clients.sessions n in (
          closed_fewer w.clients.sessions n m session (closed_fewer s n m session e),
          closed_other s n m session e,
        )
    by (Some bytes) e =
        (closed_fewer w.clients.sessions n m session e, closed_other w.clients.sessions n m session e)

module _ (stays : ServingStays) (dialects : DialectStays) (laws : LowerLaws) where
  admit_lives : (n : ℕ) (w : World) (session : ℤ) → connecting_to w.clients.pending session ≡ Some n
      → is_live session w ≡ true → Agreeing w → AllSessionsLive w → AllSessionsLive (admit_client n w).after
  admit_lives n w session e lives a =
      (admit_makes n (Unit {0}) Agreeing KeepsLive (agreeing_ground laws n) (replies_live n) (λ session. Unit {0})
      (calls_live n) MayLive (connects_live n).gives (agreeing_answers laws n) (answers_live n).drops w
      (λ connect is. (
        tt,
        ap (λ (x : ℤ). is_live x w)
            (ap (λ (o : Option PendingConnect). (unwrap_or o connect).session) (sym is ∙ f.1.0) ∙ f.1.1) ∙ lives,
      )) a).is
    where
      f : (c : PendingConnect) × ((waiting_connect (queue_of w.clients.pending n) ≡ Some c) × (c.session ≡ session))
      f = a.pending.in_front session n e

  replied_live : (w : World) (t : Txn) (results : TxnResults) (o : Option ℕ) → Agreeing w → AllSessionsLive w
      → AllSessionsLive (give_answer w t results (reply_of w.clients t o)).after
  replied_live w t results None a live = live
  replied_live w t results (Some n) a live =
      by (found_write (queue_of w.clients.pending n) t.header.cxid (txn_number t))
    where
      by : (o : Option AnsweredWrite) → AllSessionsLive (give_answer w t results (reply_as n o)).after
      by None = live
      by (Some write) =
          (write_makes n (Unit {0}) Agreeing KeepsLive (agreeing_ground laws n) (replies_live n)
          (agreeing_answers laws n) (answers_live n) w t results write.kind
          (record { replies = λ kind v bytes same is live. live; ends = λ xid bytes is live. live }) a).is live

  -- Only the session that has ended doesn't live.
  abbrev OthersLive : World → ℤ → Type 0
  OthersLive w session = (n : ℕ) (other : ℤ) → session_of_connection w.clients.sessions n ≡ Some other
      → other ≢ session → is_live other w ≡ true

  ended_live : (w : World) (t : Txn) (results : TxnResults) (o : Option ℕ)
      → connection_with w.clients t.header.client_id ≡ o → Agreeing w → OthersLive w t.header.client_id
      → AllSessionsLive (give_answer w t results (ending_of o)).after
  ended_live w t results None e a others m session has =
      others m session has (λ same. true≢false (sym (ap is_some (owned_with w.clients m session a has))
      ∙ ap (λ (x : ℤ). is_some (connection_with w.clients x)) same ∙ ap is_some e))
  ended_live w t results (Some n) e a others m session has =
      ap (λ (r : Replica). finmap.contains_key r.tree.sessions session)
      (ended_same n w t.header.zxid (pending_close w.clients.pending n))
      ∙ others m session had.0
      (λ same. had.1 (ap (λ (o : Option ℕ). unwrap_or o m) (sym (owned_with w.clients m session a had.0)
      ∙ ap (connection_with w.clients) same ∙ e)))
    where
      had : (session_of_connection w.clients.sessions m ≡ Some session) × (m ≢ n)
      had = ended_fewer n w t.header.zxid (pending_close w.clients.pending n) m session has

      ended_same : (n : ℕ) (w : World) (zxid : ℤ) (o : Option ℤ) → (close_ended n w zxid o).after.replica ≡ w.replica
      ended_same n w zxid None = refl
      ended_same n w zxid (Some xid) = by (reply_frame xid zxid (without_body OK))
        where
          by : (frame : Option (List ℕ)) → (send_last n w frame).after.replica ≡ w.replica
          by None = refl
          by (Some bytes) = refl

  -- The world w, whose tree had these sessions before the transaction.
  abbrev LiveBefore : World → SessionTimeouts → Type 0
  LiveBefore w sessions = (n : ℕ) (session : ℤ) → session_of_connection w.clients.sessions n ≡ Some session
      → finmap.contains_key sessions session ≡ true

  txn_lives : (w : World) (before : State) (t : Txn) (results : TxnResults)
      → w.replica.tree ≡ (effect_of_txn before t).state → Agreeing w → LiveBefore w before.sessions
      → AllSessionsLive (answer_txn w t results).after
  txn_lives w before t results tree a live = by t.body (ap (λ (s : State). s.sessions) tree)
    where
      session : ℤ
      session = t.header.client_id

      same_live : w.replica.tree.sessions ≡ before.sessions → AllSessionsLive w
      same_live same n has e = ap (λ m. finmap.contains_key m has) same ∙ live n has e

      created : (time_out : ℤ) → w.replica.tree.sessions ≡ finmap.insert before.sessions session time_out
          → (o : Option ℕ) → awaiting w.clients.pending session New ≡ o
          → AllSessionsLive (give_answer w t results (admission_of o)).after
      created time_out is o e = admitted o e
        where
          live_in : (x : ℤ) → finmap.contains_key before.sessions x ≡ true → is_live x w ≡ true
          live_in x has =
              ap (λ m. finmap.contains_key m x) is
              ∙ ap is_some (finmap.get-insert int_cmp_total before.sessions session time_out x)
              ∙ cond_both (eq_by_cmp int_cmp x session) _ _ (λ (o : Option ℤ). is_some o ≡ true) (λ _. refl) (λ _. has)

          new_lives : is_live session w ≡ true
          new_lives =
              ap (λ m. finmap.contains_key m session) is
              ∙ ap is_some (finmap.get-insert int_cmp_total before.sessions session time_out session)
              ∙ ap (λ (b : Bool). is_some (cond b (Some time_out) (finmap.get before.sessions session)))
              (ap is_eq (tied_itself int_cmp_total session))

          all_live : AllSessionsLive w
          all_live n x e = live_in x (live n x e)

          admitted : (o : Option ℕ) → awaiting w.clients.pending session New ≡ o
              → AllSessionsLive (give_answer w t results (admission_of o)).after
          admitted None e = all_live
          admitted (Some n) e =
              admit_lives n w session (awaits_it w.clients.pending session New n e) new_lives a all_live

      closed : w.replica.tree.sessions ≡ finmap.remove before.sessions session → OthersLive w session
      closed is n x e other =
          ap (λ m. finmap.contains_key m x) is
          ∙ ap is_some (finmap.get-remove int_cmp_total before.sessions session x)
          ∙ cond_both (eq_by_cmp int_cmp x session) _ _ (λ (o : Option ℤ). is_some o ≡ true)
          (λ same. absurd (other (tells_apart exact_signed x session same))) (λ _. live n x e)

      by : (b : Body) → w.replica.tree.sessions ≡ (effect_of_body t.header b before).state.sessions
          → AllSessionsLive (give_answer w t results (due_by w.clients t (session_change b))).after
      by (bodies.CreateSession time_out) is =
          created time_out is (awaiting w.clients.pending session New) refl
      by (bodies.CloseSession listed) is =
          ended_live w t results (connection_with w.clients session) refl a
          (closed (is ∙ close_leaves t.header listed before))
      by (bodies.Single operation) is =
          replied_live w t results (connection_of w.clients.sessions session) a
          (same_live (is ∙ changes_leave before (effect_of t.header operation before.nodes).changes))
      by (bodies.SetAcl body) is =
          replied_live w t results (connection_of w.clients.sessions session) a
          (same_live (is ∙ changes_leave before (set_acl_at body (finmap.get before.nodes body.path)).changes))
      by (bodies.Multi parts) is =
          replied_live w t results (connection_of w.clients.sessions session) a
          (same_live (is ∙ multi_leaves t.header parts before))

  settled_live : (w : World) (o : Settled) → Agreeing w → AllSessionsLive w → AllSessionsLive (answer_settled w o).after
  settled_live w NoSync a live = live
  settled_live w Gone a live = live
  settled_live w (Of n) a live =
      (front_makes n (Unit {0}) Agreeing KeepsLive (agreeing_ground laws n) (replies_live n) (agreeing_answers laws n)
      (answers_live n) w a).is live

  -- No transaction was applied, and no session confirmed.
  news_live : (o : Option LeaderNews) (w : World) → ((place : ℕ) (results : TxnResults) → o ≢ Some (news.Applied place results))
      → ((session : ℤ) (lives : Bool) → o ≢ Some (news.Revalidated session lives)) → Agreeing w
      → AllSessionsLive w → AllSessionsLive (answer_news o w).after
  news_live None w none unclaimed a live = live
  news_live (Some (news.Ping ping)) w none unclaimed a live = live
  news_live (Some (news.Applied place results)) w none unclaimed a live = absurd (none place results refl)
  news_live (Some (news.Revalidated session lives)) w none unclaimed a live = absurd (unclaimed session lives refl)
  news_live (Some news.SyncSettled) w none unclaimed a live =
      let s = settle_sync w.clients.pending in
      settled_live (with_pending w s.after) s.settled (settled_agrees laws w a) live

  -- ---- events

  abbrev AllHold : World → Type 0
  AllHold w = AgreeAndServed w × SessionsLive w

  quiet_live : (w : World) → IsQuiet w.clients → AllSessionsLive w
  quiet_live w q n session e =
      absurd (true≢false (sym (ap is_some e) ∙ ap is_some (none_has w.clients.sessions q.nobody n)))

  effect_lives : (loading : Loading) (w : World) (i : Item) (t : ItemEffect) → take_item loading w.replica i ≡ Ok t
      → AllHold w → SessionsLive (send_effect w t).after
  effect_lives loading w i t e h then = by (is_serving w.replica) refl
    where
      v : World
      v = (tell_effect w t).after

      -- The dialect is still the same.
      stay : SessionsStay w.replica
      stay = ap (λ (dialect : Dialect). (reads_of dialect).moved_sessions) (sym (dialects.takes loading w.replica i t e))
          ∙ ap (λ (r : Replica). (reads_of r.learner.dialect).moved_sessions) (sym (news_same t.news v)) ∙ then

      told : Agreeing v
      told = tell_agrees laws w t h.0.0

      serves : LeavesTree w.replica t ⊎ AppliesTxn w.replica.learner w.replica t → AllSessionsLive (answer_news t.news v).after
      serves (inl leaves) =
          news_live t.news v leaves.none (leaves.unclaimed stay) told
          (λ n session has. ap (λ (s : State). finmap.contains_key s.sessions session) leaves.tree
          ∙ h.1 stay n session has)
      serves (inr applies) =
          subst (λ (o : Option LeaderNews). AllSessionsLive (answer_news o v).after) (sym applies.told)
          (subst (λ (o : Option Txn). AllSessionsLive (answer_optional_txn v applies.results o).after) (sym applies.at)
          (txn_lives v w.replica.tree applies.txn applies.results applies.tree told (h.1 stay)))

      by : (b : Bool) → is_serving w.replica ≡ b → AllSessionsLive (send_effect w t).after
      by true s = serves (subst (Serves w.replica.learner w.replica) e (item_serves loading w.replica i s))
      by false s =
          let q = h.0.1 s in
          quiet_live (send_effect w t).after
          (news_quiet t.news v told (record { nobody = q.nobody; nothing = q.nothing }))

  bytes_live : (n : ℕ) (w : World) (bytes : List ℕ) → AllHold w → SessionsLive
      (take_client_bytes (is_serving_clients w) n w (heard_connection n w.clients) bytes).after
  bytes_live n w bytes h stay =
      (client_makes n (Unit {0}) Agreeing KeepsLive (agreeing_ground laws n) (replies_live n) (λ session. Unit {0})
      (calls_live n) MayLive (connects_live n) (λ w k rest a live. live) (is_serving_clients w) w
      (heard_connection n w.clients) bytes h.0.0).is
      (h.1 (ap (λ (r : Replica). (reads_of r.learner.dialect).moved_sessions)
      (sym (client_same (is_serving_clients w) n w (heard_connection n w.clients) bytes)) ∙ stay))

  checkpoint_lives : (b : Bool) (r : Replica) → (checkpoint_if b r).tree ≡ r.tree
  checkpoint_lives true r = refl
  checkpoint_lives false r = refl

  live_kept : IsKept AllHold
  live_kept =
      let kept = served_kept stays laws in
      record {
        meets = λ w h. (
          kept.meets w h.0,
          λ stay. h.1 (ap (λ (dialect : Dialect). (reads_of dialect).moved_sessions)
              (sym (dialects.begins w.replica w.settings.server_id)) ∙ stay),
        );
        effects = λ loading w i t e h. (kept.effects loading w i t e h.0, effect_lives loading w i t e h);
        gone = λ w h. (
          kept.gone w h.0,
          λ stay. quiet_live (disconnect_all w).after
              (record { nobody = gone_nobody w h.0.0.joined; nothing = nothing_pending_waits }),
        );
        opens = λ n address w h. (kept.opens n address w h.0, h.1);
        bytes = λ n w bytes h. (kept.bytes n w bytes h.0, bytes_live n w bytes h);
        closes = λ n w h. (kept.closes n w h.0, λ stay. left_live w (Some n) (h.1 stay));
        checkpoints = λ w h. (
          kept.checkpoints w h.0,
          λ stay n session e.
              ap (λ (s : State). finmap.contains_key s.sessions session)
              (checkpoint_lives (is_serving w.replica) w.replica)
              ∙ h.1 (ap (λ (dialect : Dialect). (reads_of dialect).moved_sessions) (sym (dialects.rebases w.replica)) ∙ stay)
              n session e,
        );
      }

  pub connected_sessions_live : ConnectedSessionsLive
  connected_sessions_live = record {
    starts = λ settings stay n session e. absurd (true≢false (sym (ap is_some e)
        ∙ ap (λ o. is_some (session_in o)) (finmap.get-empty nat_cmp n)));
    starts_primed = λ settings stay n session e. first settings n session
        (given_fewer (record (no_clients settings).sessions { counter = settings.first_counter + 1 }) 1
        (primed_session settings) settings.timeouts.greatest n session e);
    plays = λ m events agrees quiet live.
        (plays_keep AllHold live_kept m events ((agrees, of_quiet m.world quiet), live)).1;
  }
    where
      first : (settings : Settings) (n : ℕ) (session : ℤ)
          → (primed_session settings ≡ session)
          ⊎ (session_of_connection (no_clients settings).sessions n ≡ Some session)
          → is_live session (primed_machine settings).world ≡ true
      first settings n session (inl same) =
          ap (λ (x : ℤ). is_live x (primed_machine settings).world) (sym same)
          ∙ ap is_some (finmap.get-insert int_cmp_total fresh_state.sessions (primed_session settings)
          settings.timeouts.greatest (primed_session settings))
          ∙ ap (λ (b : Bool). is_some (cond b (Some settings.timeouts.greatest)
          (finmap.get fresh_state.sessions (primed_session settings))))
          (ap is_eq (tied_itself int_cmp_total (primed_session settings)))
      first settings n session (inr had) = absurd (true≢false (sym (ap is_some had)
          ∙ ap (λ o. is_some (session_in o)) (finmap.get-empty nat_cmp n)))
