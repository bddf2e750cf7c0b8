-- `play` of concatenated lists, and of a piece of bytes that is cut in two.
use Rattle.std.proofs.Common.{◌≡◌, ◌⊎◌, inl, inr, ℕ, ◌<◌, ◌≤◌, Bool, true, false, cond, not, List, [], ◌∷◌, ◌++◌, length, take, Option, Some, None, Result, Ok, Err, refl, sym, ap, subst, ◌∙◌, append_assoc}
use Rattle.std.specs.Prelude.{is_some}
use Rattle.std.specs.Option.{unwrap_or}
use Rattle.std.proofs.lemmas.List.{append-nil}
use Rattle.std.proofs.lemmas.Bool.{cases_lt}
use Rattle.std.proofs.lemmas.Option.{none-some}
use Rattle.std.specs.FinMap as finmap
use Rattle.values.specs.declared.fault.Fault.{Fault}
use Rattle.jute.specs.Frame.{frame_format}
use Rattle.jute.specs.Stream.{Unread, Place, Items, items_in, with_more_bytes, place_at}
use Rattle.jute.proofs.Public.{comes_in_pieces, items_whole, items_short, items_refused}
use Rattle.quorum_packet.specs.declared.item.Item.{Item}
use Rattle.quorum_packet.specs.declared.phase.Phase.{Phase}
use Rattle.quorum_packet.specs.Items.{items_shown_at}
use Rattle.quorum_packet.proofs.Streams.{shows_pieces}
use Rattle.sessions.specs.Sessions.{session_of_connection}
use Rattle.four_letter.specs.Words.{word_of}
use Rattle.four_letter.specs.declared.word.Word.{Word}
use Rattle.observer_core.specs.declared.event.Event.{Event}
use Rattle.observer_core.specs.declared.event.Event.TheVariants.{LeaderBytes, ClientBytes}
use Rattle.world.specs.declared.output.Output.{Output}
use Rattle.world.specs.declared.output.Output.TheVariants.{CloseClient}
use Rattle.world.specs.World.{OpenConnection, OpenConnections, World}
use Rattle.observer_core.specs.Machine.{Leader, Machine}
use Rattle.world.specs.Steps.{StepResult, prepend_outputs, no_output, and_then, fold_steps}
use Rattle.world.specs.Clients.{idle_connection, is_open, heard_in, heard_connection}
use Rattle.observer_core.specs.Leader.{WorldAndLoading, item_step, Delivery, deliver_item, is_refused, place_after, deliver_all, part_reader, leader_at, with_leader, with_leader_or_fault, take_leader_bytes}
use Rattle.forwarding.specs.Pending.{is_idle}
use Rattle.world.specs.Sending.{close_client}
use Rattle.client_service.specs.Serve.{serve_frame, tell_word, word_without_session, word_at, is_unheard, with_waiting_bytes, wait_or_close, wait_if_heard, wait_at, client_frame_limit, frames_of_client, serve_all, tell_or_serve, take_client_bytes}
use Rattle.observer_core.specs.Play.{is_serving_clients, play_event, play}
use Rattle.observer_core.proofs.Keeping.{happening_keeps}
use Rattle.observer_core.proofs.Closing.{serve_closes}
use Rattle.world.proofs.Steps.{behind_behind, passed_over, happening_on}
use Rattle.world.proofs.NatMaps.{get-inserted, get-removed, insert-insert, insert-same}
use Rattle.client_service.proofs.Streams.{frames_streamed}
use Rattle.observer_core.proofs.Unmoved.{client_same}
use Rattle.observer_core.proofs.Words.{same_front, still_says, still_waits, short_frame}
use Rattle.observer_core.proofs.Joined.{frames_one}
use Rattle.replica.specs.Replica.{Replica}
use Rattle.replica.specs.Taking.{is_serving}

pub play_on : (m : Machine) (a b : List Event)
    → play m (a ++ b) ≡ prepend_outputs (play m a).outputs (play (play m a).after b)
play_on m a b = happening_on (λ (m : Machine). false) play_event m a b

add_add : {S : Type 0} (phase : S) (u : Unread) (a b : List ℕ)
    → let place : Place S = record { phase = phase; unread = u } in
    with_more_bytes place (a ++ b) ≡ with_more_bytes (with_more_bytes place a) b
add_add phase (Ok bytes) a b = ap (place_at phase) (sym (append_assoc bytes a b))
add_add phase (Err e) a b = refl

some_is : (c k : OpenConnection) → Some c ≡ Some k → c ≡ k
some_is c k e = ap (λ (o : Option OpenConnection). unwrap_or o c) e

-- ---- the leader's bytes

-- The machine after the packets that came.
abbrev finish : StepResult (Delivery WorldAndLoading) → Place Phase → StepResult Machine
finish h place = and_then h (λ d. with_leader_or_fault d.left.world
    (leader_at d.left.loading (place_after place d.fault)))

-- The machine after further bytes of the leader.
abbrev then_leader : StepResult Machine → List ℕ → StepResult Machine
then_leader h more = prepend_outputs h.outputs (take_leader_bytes part_reader h.after.leader h.after.world more)

lost_then : (w : World) (e : Fault) (more : List ℕ)
    → with_leader_or_fault w (Err e) ≡ then_leader (with_leader_or_fault w (Err e)) more
lost_then w e more =
    let h : StepResult Machine = with_leader_or_fault w (Err e) in
    ap (λ (o : List Output). record { outputs = o; after = h.after }) (sym (append-nil h.outputs))

finished_on : (fault : Option Fault) (w : WorldAndLoading) (phase : Phase) (unread : Unread) (more : List ℕ) →
    let left : Place Phase = record { phase = phase; unread = unread } in
    let j = items_shown_at (with_more_bytes left more) in
    finish (fold_steps is_refused (deliver_item item_step) (record { left = w; fault = fault }) j.found) j.left
    ≡ then_leader (with_leader_or_fault w.world (leader_at w.loading (place_after left fault))) more
finished_on None w phase (Ok bytes) more = refl
finished_on None w phase (Err e) more = lost_then w.world e more
finished_on (Some e) w phase unread more =
    let left : Place Phase = record { phase = phase; unread = unread } in
    let j = items_shown_at (with_more_bytes left more) in
    ap (λ (h : StepResult (Delivery WorldAndLoading)). finish h j.left)
    (passed_over is_refused (deliver_item item_step) (record { left = w; fault = Some e }) j.found refl)
    ∙ lost_then w.world e more

leader_cut : (leader : Option Leader) (w : World) (a b : List ℕ)
    → take_leader_bytes part_reader leader w (a ++ b) ≡ then_leader (take_leader_bytes part_reader leader w a) b
leader_cut None w a b = refl
leader_cut (Some l) w a b =
    let v : WorldAndLoading = record { loading = l.loading; world = w } in
    let i = items_shown_at (with_more_bytes l.place a) in
    let j = items_shown_at (with_more_bytes i.left b) in
    let h = deliver_all item_step v i.found in
    let g = fold_steps is_refused (deliver_item item_step) h.after j.found in
    let stood = with_leader_or_fault h.after.left.world
    (leader_at h.after.left.loading (place_after i.left h.after.fault)) in
    ap (λ (p : Place Phase). finish (deliver_all item_step v (items_shown_at p).found) (items_shown_at p).left)
    (add_add l.place.phase l.place.unread a b)
    ∙ ap (λ (k : Items Phase Item). finish (deliver_all item_step v k.found) k.left)
    (shows_pieces (with_more_bytes l.place a) b)
    ∙ ap (λ (x : StepResult (Delivery WorldAndLoading)). finish x j.left)
    (happening_on is_refused (deliver_item item_step) (record { left = v; fault = None }) i.found j.found)
    ∙ sym (behind_behind h.outputs g.outputs
    (with_leader_or_fault g.after.left.world (leader_at g.after.left.loading (place_after j.left g.after.fault))))
    ∙ ap (prepend_outputs h.outputs) (finished_on h.after.fault h.after.left i.left.phase i.left.unread b)
    ∙ behind_behind h.outputs stood.outputs (take_leader_bytes part_reader stood.after.leader stood.after.world b)

-- ---- both

-- One event has the effect of two others in order.
two_events : (m : Machine) (x y z : Event) (events : List Event)
    → play_event m x ≡ prepend_outputs (play_event m y).outputs
    (play_event (play_event m y).after z) → play m (x ∷ events) ≡ play m (y ∷ z ∷ events)
two_events m x y z events e =
    ap (λ (h : StepResult Machine). prepend_outputs h.outputs (play h.after events)) e
    ∙ sym (behind_behind (play_event m y).outputs (play_event (play_event m y).after z).outputs
    (play (play_event (play_event m y).after z).after events))

pub leader_cut_anywhere : (m : Machine) (a b : List ℕ) (events : List Event) → play m (LeaderBytes (a ++ b) ∷ events)
    ≡ play m (LeaderBytes a ∷ LeaderBytes b ∷ events)
leader_cut_anywhere m a b events = two_events m (LeaderBytes (a ++ b)) (LeaderBytes a) (LeaderBytes b) events
    (leader_cut m.leader m.world a b)

-- ---- a client's bytes

-- The connection has no waiting bytes, if it is open.
abbrev IsTaken : ℕ → World → Type 0
IsTaken n w = (k : OpenConnection) → finmap.get w.clients.connections n ≡ Some k → k.rest ≡ []

-- A connection that is heard isn't leaving.
heard_is : (o : Option OpenConnection) (k : OpenConnection) → heard_in o ≡ Some k
    → (o ≡ Some k) × (k.is_leaving ≡ false)
heard_is None k e = absurd (none-some k e)
heard_is (Some c) k e = by c.is_leaving refl e
  where
    by : (b : Bool) → c.is_leaving ≡ b → cond b None (Some c) ≡ Some k → (Some c ≡ Some k) × (k.is_leaving ≡ false)
    by true leaves e = absurd (none-some k e)
    by false stays e = (e, ap (λ (x : Option OpenConnection). (unwrap_or x k).is_leaving) (sym e) ∙ stays)

-- It is idle without waiting bytes.
idle_is : (k : OpenConnection) → k.rest ≡ [] → k.is_leaving ≡ false → k ≡ idle_connection k.address
idle_is k none stays = λ i. record { rest = none i; is_leaving = stays i; address = k.address }

module _ (serving : Bool) (n : ℕ) where
  -- The connection is open and idle, and its client has this address.
  abbrev IsIdle : Option (List ℕ) → World → Type 0
  IsIdle address w = finmap.get w.clients.connections n ≡ Some (idle_connection address)

  idle_heard : (address : Option (List ℕ)) (w : World) → IsIdle address w
      → heard_connection n w.clients ≡ Some (idle_connection address)
  idle_heard address w there = ap heard_in there

  served_taken : (w : World) (frame : List ℕ) → IsTaken n w → IsTaken n (serve_frame serving n w frame).after
  served_taken w frame t k e =
      let had = serve_closes serving n w frame n k e in
      had.rest ∙ t had.before had.there

  all_taken : (w : World) (fs : List (List ℕ)) → IsTaken n w
      → IsTaken n (fold_steps (is_unheard n) (serve_frame serving n) w fs).after
  all_taken w fs t =
      happening_keeps (IsTaken n) (is_unheard n) (serve_frame serving n) (λ v frame _. served_taken v frame) w fs t

  -- The connection after the frames that came.
  abbrev left_at : StepResult World → Unread → StepResult World
  left_at h left = and_then h (wait_at n left)

  -- The machine after further bytes of the client.
  abbrev then_client : StepResult World → List ℕ → StepResult World
  then_client h more = and_then h (λ w. take_client_bytes serving n w (heard_connection n w.clients) more)

  -- Bytes are kept again.
  kept_again : (address : Option (List ℕ)) (w : World) (rest : List ℕ) → IsIdle address w
      → let idle = idle_connection address in
      with_waiting_bytes n (with_waiting_bytes n w idle rest) (record idle { rest = rest }) [] ≡ w
  kept_again address w rest there =
      let idle = idle_connection address in
      ap (λ (c : OpenConnections). record w { clients = record w.clients { connections = c } })
      (insert-insert w.clients.connections n idle (record idle { rest = rest })
      ∙ insert-same w.clients.connections n idle there)

  -- The waiting bytes are joined with those that come.
  taken_up : (address : Option (List ℕ)) (w : World) (rest more : List ℕ) → IsIdle address w
      → tell_or_serve serving n w (rest ++ more) (word_at n w (rest ++ more))
      ≡ then_client (no_output (with_waiting_bytes n w (idle_connection address) rest)) more
  taken_up address w rest more there =
      let idle = idle_connection address in
      sym (ap (λ (x : World). tell_or_serve serving n x (rest ++ more) (word_at n w (rest ++ more)))
      (kept_again address w rest there))
      ∙ sym (ap (λ (o : Option OpenConnection). take_client_bytes serving n
      (with_waiting_bytes n w idle rest) (heard_in o) more)
      (get-inserted w.clients.connections n (record idle { rest = rest })))

  -- The bytes that wait don't make a word with those that come.
  abbrev SaysNone : World → Unread → List ℕ → Type 0
  SaysNone w unread more = (rest : List ℕ) → unread ≡ Ok rest → is_open n w.clients ≡ true
      → word_at n w (rest ++ more) ≡ None

  waited_on : (address : Option (List ℕ)) (w : World) (unread : Unread) (more : List ℕ) → IsIdle address w
      → SaysNone w unread more →
      let left : Place (Unit {0}) = record { phase = tt; unread = unread } in
      serve_all serving n w (items_in frames_of_client (with_more_bytes left more))
      ≡ then_client (wait_or_close n w (idle_connection address) unread) more
  waited_on address w (Ok rest) more there says =
      sym (ap (tell_or_serve serving n w (rest ++ more)) (says rest refl (ap is_some there)))
      ∙ taken_up address w rest more there
  waited_on address w (Err e) more there says =
      ap (λ (o : Option OpenConnection). wait_if_heard n w o (Err e)) (idle_heard address w there)
      ∙ sym (ap (λ (o : Option OpenConnection). prepend_outputs (CloseClient n ∷ [])
      (take_client_bytes serving n (close_client n w).after (heard_in o) more)) (get-removed w.clients.connections n))

  served_on : (w : World) (o : Option OpenConnection) (left : Place (Unit {0})) (more : List ℕ)
      → heard_connection n w.clients ≡ o → IsTaken n w → SaysNone w left.unread more
      → serve_all serving n w (items_in frames_of_client (with_more_bytes left more))
      ≡ then_client (wait_if_heard n w o left.unread) more
  served_on w None left more there t says =
      let j = items_in frames_of_client (with_more_bytes left more) in
      ap (λ (h : StepResult World). left_at h j.left.unread)
      (passed_over (is_unheard n) (serve_frame serving n) w j.found
      (ap (λ (x : Option OpenConnection). not (is_some x)) there))
      ∙ ap (λ (x : Option OpenConnection). wait_if_heard n w x j.left.unread) there
      ∙ sym (ap (λ (x : Option OpenConnection). take_client_bytes serving n w x more) there)
  served_on w (Some k) left more there t says =
      let is = heard_is (finmap.get w.clients.connections n) k there in
      let idle = idle_is k (t k is.0) is.1 in
      waited_on k.address w left.unread more (is.0 ∙ ap Some idle) says
      ∙ sym (ap (λ (c : OpenConnection). then_client (wait_or_close n w c left.unread) more) idle)

  -- ---- frames, where the first piece has all of them or a prefix

  module _ (address : Option (List ℕ)) (w : World) (a b : List ℕ) (there : IsIdle address w) where
    abbrev i : Items (Unit {0}) (List ℕ)
    i = items_in frames_of_client (place_at tt a)

    -- Where a frame was found, its client then has a session, waits for one, or is closed.
    abbrev AllSayNone : Items (Unit {0}) (List ℕ) → Type 0
    AllSayNone found = SaysNone (fold_steps (is_unheard n) (serve_frame serving n) w found.found).after
        found.left.unread b

    heard : is_unheard n w ≡ false
    heard = ap (λ (o : Option OpenConnection). not (is_some o)) (idle_heard address w there)

    all_say_none : word_at n w (a ++ b) ≡ None → (r : Result (List ℕ × List ℕ) Fault)
        → (frame_format client_frame_limit).read a ≡ r → AllSayNone i
    all_say_none none (Ok f) read =
        let others = items_in frames_of_client (place_at tt f.1) in
        subst AllSayNone (sym (items_whole frames_of_client frames_streamed tt a f.1 f.0 read))
        (λ rest is here. frames_one serving n w f.0 others.found (rest ++ b) heard here)
    all_say_none none (Err e) read =
        subst AllSayNone (sym (items_refused frames_of_client frames_streamed tt a e read))
        (λ rest is here. ap (λ (x : List ℕ). word_at n w (x ++ b)) (sym (still_waits e a rest is)) ∙ none)

    -- If the two pieces together begin with no word, the frames of both are served.
    both_served : word_at n w (a ++ b) ≡ None
        → serve_all serving n w (items_in frames_of_client (place_at tt (a ++ b)))
        ≡ then_client (serve_all serving n w i) b
    both_served none =
        let j = items_in frames_of_client (with_more_bytes i.left b) in
        let h = fold_steps (is_unheard n) (serve_frame serving n) w i.found in
        let g = fold_steps (is_unheard n) (serve_frame serving n) h.after j.found in
        let waits = wait_at n i.left.unread h.after in
        let t : IsTaken n w = λ (c : OpenConnection) is.
        ap (λ (k : OpenConnection). k.rest) (some_is c (idle_connection address) (sym is ∙ there)) in
        ap (serve_all serving n w) (comes_in_pieces frames_of_client frames_streamed (place_at tt a) b)
        ∙ ap (λ (x : StepResult World). left_at x j.left.unread)
        (happening_on (is_unheard n) (serve_frame serving n) w i.found j.found)
        ∙ sym (behind_behind h.outputs g.outputs (wait_at n j.left.unread g.after))
        ∙ ap (prepend_outputs h.outputs) (served_on h.after (heard_connection n h.after.clients) i.left b refl
        (all_taken w i.found t) (all_say_none none ((frame_format client_frame_limit).read a) refl))
        ∙ behind_behind h.outputs waits.outputs
        (take_client_bytes serving n waits.after (heard_connection n waits.after.clients) b)

    -- Fewer bytes than a length prefix all wait.
    all_wait : length a < 4
        → serve_all serving n w i ≡ no_output (with_waiting_bytes n w (idle_connection address) a)
    all_wait short =
        ap (serve_all serving n w) (items_short frames_of_client frames_streamed tt a (short_frame a short))
        ∙ ap (λ (o : Option OpenConnection). wait_if_heard n w o (Ok a)) (idle_heard address w there)

    -- A word is answered, and the bytes that come then are ignored.
    told_then : (word : Word) → tell_word serving n w word
        ≡ then_client (tell_word serving n w word) b
    told_then word =
        let h = tell_word serving n w word in
        sym (ap (λ (o : Option OpenConnection). prepend_outputs h.outputs
        (take_client_bytes serving n h.after (heard_in o) b))
        (get-removed w.clients.connections n))

    -- A connection that says a word isn't told another with more bytes.
    still_said : (word : Word) → word_at n w a ≡ Some word → word_at n w (a ++ b) ≡ Some word
    still_said word says = by (is_idle w.clients.pending n) says
      where
        said : List ℕ → Option Word
        said bytes = word_without_session (session_of_connection w.clients.sessions n) (word_of (take 4 bytes))

        by : (idle : Bool) → cond idle (said a) None ≡ Some word → cond idle (said (a ++ b)) None ≡ Some word
        by true is = still_says (session_of_connection w.clients.sessions n) word a b is
        by false is = absurd (none-some word is)

    said_or_served : (o : Option Word) → word_at n w a ≡ o
        → tell_or_serve serving n w (a ++ b) (word_at n w (a ++ b))
        ≡ then_client (tell_or_serve serving n w a o) b
    said_or_served (Some word) says =
        ap (tell_or_serve serving n w (a ++ b)) (still_said word says) ∙ told_then word
    said_or_served None none = by (cases_lt (length a) 4)
      where
        by : (length a < 4) ⊎ (4 ≤ length a) → tell_or_serve serving n w (a ++ b) (word_at n w (a ++ b))
            ≡ then_client (serve_all serving n w i) b
        by (inl short) = taken_up address w a b there ∙ sym (ap (λ (h : StepResult World). then_client h b) (all_wait short))
        by (inr enough) =
            let none_yet = ap (λ (word : Option Word). cond (is_idle w.clients.pending n)
            (word_without_session (session_of_connection w.clients.sessions n) word) None)
            (same_front a b enough) ∙ none in
            ap (tell_or_serve serving n w (a ++ b)) none_yet ∙ both_served none_yet

  client_cut : (w : World) (o : Option OpenConnection) (a b : List ℕ) → heard_connection n w.clients ≡ o
      → take_client_bytes serving n w o (a ++ b)
      ≡ then_client (take_client_bytes serving n w o a) b
  client_cut w None a b there = sym
      (ap (λ (x : Option OpenConnection). take_client_bytes serving n w x b) there)
  client_cut w (Some k) a b there =
      let stays = (heard_is (finmap.get w.clients.connections n) k there).1 in
      let cleared = get-inserted w.clients.connections n (record k { rest = [] }) in
      ap (λ (x : List ℕ). tell_or_serve serving n v x (word_at n v x)) (sym (append_assoc k.rest a b))
      ∙ said_or_served k.address v (k.rest ++ a) b (cleared ∙ ap Some (idle_is (record k { rest = [] }) refl stays))
      (word_at n v (k.rest ++ a)) refl
    where
      v : World
      v = with_waiting_bytes n w k []

pub client_cut_anywhere : (m : Machine) (n : ℕ) (a b : List ℕ) (events : List Event)
    → play m (ClientBytes n (a ++ b) ∷ events) ≡ play m (ClientBytes n a ∷ ClientBytes n b ∷ events)
client_cut_anywhere m n a b events =
    two_events m (ClientBytes n (a ++ b)) (ClientBytes n a) (ClientBytes n b) events
    (ap (with_leader m.leader) (client_cut (is_serving_clients m.world) n m.world
    (heard_connection n m.world.clients) a b refl)
    ∙ ap (λ (r : Replica). with_leader m.leader (then_served first (is_serving r) b))
    (sym (client_same (is_serving_clients m.world) n m.world (heard_connection n m.world.clients) a)))
  where
    first : StepResult World
    first = take_client_bytes (is_serving_clients m.world) n m.world (heard_connection n m.world.clients) a

    then_served : StepResult World → Bool → List ℕ → StepResult World
    then_served h served more = and_then h (λ w. take_client_bytes served n w (heard_connection n w.clients) more)
