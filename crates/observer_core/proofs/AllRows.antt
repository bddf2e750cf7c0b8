-- All worked rows: those of words, evaluated step by step, and the others.
use Rattle.std.proofs.Common.{◌≡◌, ℕ, List, [], ◌∷◌, ◌++◌, take, Bool, false, Option, None, Err, cond, refl, ap, ◌∙◌}
use Rattle.std.specs.Prelude.{ℤ, pos, codes, is_some}
use Rattle.std.specs.FinMap as finmap
use Rattle.std.specs.FinSet as set
use Rattle.std.specs.Ordering.{nat_cmp}
use Rattle.settings.specs.Dialects.{reads_of}
use Rattle.settings.specs.declared.dialect.Dialect.{Dialect}
use Rattle.settings.specs.declared.dialect.Dialect.TheVariants.{Zk34}
use Rattle.values.specs.declared.fault.Fault.TheVariants.{BadLength}
use Rattle.jute.specs.Frame.{frame_at}
use Rattle.jute.specs.Format.{judged_at}
use Rattle.jute.specs.Stream.{items_within, items_in, Items, place_at}
use Rattle.sessions.specs.Sessions.{session_in, session_of_connection}
use Rattle.four_letter.specs.Words.{word_of}
use Rattle.four_letter.specs.declared.word.Word.{Word}
use Rattle.watch_manager.specs.Rows.{WorkedRows as FiringRows}
use Rattle.world.specs.declared.world.Settings.{Settings}
use Rattle.observer_core.specs.declared.event.Event.TheVariants.{LeaderBytes, ClientUp, ClientBytes}
use Rattle.world.specs.declared.output.Output.{Output}
use Rattle.world.specs.declared.output.Output.TheVariants.{ToClient, CloseClient}
use Rattle.world.specs.World.{OpenConnection, World}
use Rattle.observer_core.specs.Machine.{Machine}
use Rattle.world.specs.Steps.{StepResult, prepend_outputs}
use Rattle.world.specs.Clients.{idle_connection, heard_in, heard_connection, with_connection}
use Rattle.client_service.specs.Serve.{word_without_session, with_waiting_bytes, frames_of_client, tell_or_serve, take_client_bytes}
use Rattle.observer_core.specs.Play.{is_serving_clients, play, new_machine}
use Rattle.observer_core.specs.Rows.{reply_of_create, create_inform_event, set_data_inform_event, get_data_event, exists_watch_event, get_data_frame_start, get_data_frame_end, framed_create, inform_of_forwarded, inform_of_error, sync_frame, sync_packet, connect_frame, inform_of_session, client_ping, leader_ping, WorkedRows}
use Rattle.world.proofs.NatMaps.{get-inserted}
use Rattle.observer_core.proofs.Rows.{earlier_machine, in_earlier, ReadAgain, NobodyTold, start, idle_at, heard, world_at, at_frames, in_hand, left_at, first_open}
use Rattle.observer_core.proofs.WatchRows.{create_get, set_get, cut_get, create_twice, closed_passes, watch_told, idle_is}
use Rattle.observer_core.proofs.ForwardedRows.{SessionsStay, create_answered, error_answered, sync_answers}
use Rattle.observer_core.proofs.SessionRows.{session_is_created, first_is_told, claim_names}

-- ---- connection 2 begins with a word, and no leader was followed

-- A new machine's world, in which connection 2 is open.
abbrev opened : Settings → World
opened settings =
    let w = (new_machine settings).world in
    record w { clients = with_connection 2 (idle_connection None) w.clients }

word_comes : (settings : Settings) (bytes : List ℕ)
    → (play (new_machine settings) (ClientUp 2 None ∷ ClientBytes 2 bytes ∷ [])).outputs
    ≡ (tell_or_serve false 2 (with_waiting_bytes 2 (opened settings) (idle_connection None) []) bytes
    (word_of (take 4 bytes))).outputs ++ []
word_comes settings bytes =
    ap (λ (o : Option OpenConnection). put_out (cond (is_some o) (new_machine settings).world (opened settings)))
    (finmap.get-empty nat_cmp 2)
    ∙ ap (λ (o : Option OpenConnection). (take_client_bytes false 2 (opened settings) (heard_in o) bytes).outputs ++ [])
    (get-inserted finmap.empty 2 (idle_connection None))
    ∙ ap (λ (idle : Bool). (tell_or_serve false 2 v bytes (cond idle (word none_has) None)).outputs ++ [])
    (idle_at set.empty 2)
    ∙ ap (λ (session : Option ℤ). (tell_or_serve false 2 v bytes (word session)).outputs ++ [])
    (ap session_in (finmap.get-empty nat_cmp 2))
  where
    v : World
    v = with_waiting_bytes 2 (opened settings) (idle_connection None) []

    none_has : Option ℤ
    none_has = session_of_connection (new_machine settings).world.clients.sessions 2

    word : Option ℤ → Option Word
    word session = word_without_session session (word_of (take 4 bytes))

    put_out : World → List Output
    put_out w = (take_client_bytes (is_serving_clients w) 2 w (heard_connection 2 w.clients) bytes).outputs ++ []

-- ---- a client that has a session sends a word's letters

letters_are_no_frame : items_in frames_of_client (place_at tt (codes "ruok"))
    ≡ (record { found = []; left = record { phase = tt; unread = Err BadLength } })
unfolding items_within frame_at judged_at
letters_are_no_frame = refl

letters_close : (settings : Settings)
    → (play (earlier_machine settings) (ClientBytes 1 (codes "ruok") ∷ [])).outputs ≡ CloseClient 1 ∷ []
letters_close settings =
    let w = world_at settings (pos 0) [] (start settings) set.empty [] in
    ap (λ (h : StepResult Machine). h.outputs ++ [])
    (in_hand settings (pos 0) [] (start settings) set.empty [] (codes "ruok"))
    ∙ ap (λ (i : Items (Unit {0}) (List ℕ)). (at_frames w i).outputs ++ []) letters_are_no_frame
    ∙ ap (λ (o : Option OpenConnection). (left_at 1 w (Err BadLength) o).outputs ++ [])
    first_open

-- ---- all of them

-- In ZooKeeper 3.4 sessions don't move.
stays : (settings : Settings) → settings.dialect ≡ Zk34 → SessionsStay settings
stays settings is = ap (λ (dialect : Dialect). (reads_of dialect).moved_sessions) is

pub rows_hold : ReadAgain → NobodyTold → FiringRows → WorkedRows
rows_hold again nobody rows = record {
  create_then_get = λ settings is. in_earlier settings
      (create_inform_event ∷ get_data_event ∷ []) _ is
      (ap (λ (h : StepResult Machine). h.outputs) (create_get again nobody settings []));
  set_then_get = λ settings is. in_earlier settings
      (create_inform_event ∷ get_data_event ∷ set_data_inform_event ∷ get_data_event ∷ []) _ is
      (ap (λ (h : StepResult Machine). h.outputs)
      (create_get again nobody settings (set_data_inform_event ∷ get_data_event ∷ [])
      ∙ ap (prepend_outputs (ToClient 1 reply_of_create ∷ []))
      (set_get again nobody settings (heard settings set.empty))));
  cut_request = λ settings is. in_earlier settings
      (ClientBytes 1 get_data_frame_start ∷ create_inform_event ∷ ClientBytes 1 get_data_frame_end ∷ []) _ is
      (ap (λ (h : StepResult Machine). h.outputs) (cut_get again nobody settings));
  same_zxid_twice = λ settings is. in_earlier settings
      (create_inform_event ∷ create_inform_event ∷ set_data_inform_event ∷ get_data_event ∷ []) _ is
      (ap (λ (h : StepResult Machine). h.outputs) (create_twice again nobody settings) ∙ closed_passes settings);
  watch_on_missing = λ settings is. in_earlier settings
      (exists_watch_event ∷ create_inform_event ∷ set_data_inform_event ∷ []) _ is
      (ap (λ (h : StepResult Machine). h.outputs) (watch_told again nobody rows settings));
  forwarded_create = λ settings is three begins. in_earlier settings
      (ClientBytes 1 framed_create ∷ LeaderBytes inform_of_forwarded ∷ []) _ is
      (create_answered again nobody settings (stays settings is) (three, begins));
  failed_create = λ settings is three begins. in_earlier settings
      (ClientBytes 1 framed_create ∷ LeaderBytes inform_of_error ∷ []) _ is
      (error_answered again nobody settings (stays settings is) (three, begins));
  forwarded_sync = λ settings is three begins. in_earlier settings
      (ClientBytes 1 sync_frame ∷ LeaderBytes sync_packet ∷ []) _ is (sync_answers settings (three, begins));
  new_session = λ settings is three begins terms secretless. in_earlier settings
      (ClientUp 2 None ∷ ClientBytes 2 connect_frame ∷ LeaderBytes inform_of_session ∷ []) _ is
      (session_is_created again nobody settings is (three, begins) terms secretless);
  heard_session = λ settings is three begins terms secretless. in_earlier settings
      (ClientBytes 1 client_ping ∷ LeaderBytes leader_ping ∷ LeaderBytes leader_ping ∷ []) _ is
      (first_is_told settings (stays settings is) (three, begins) terms secretless);
  nothing = λ settings is. refl;
  idle = λ settings. idle_is settings;
  ruok = λ settings. word_comes settings (codes "ruok");
  isro_not_serving = λ settings. word_comes settings (codes "isro");
  claim = claim_names;
  word_with_a_session = λ settings is. in_earlier settings
      (ClientBytes 1 (codes "ruok") ∷ []) _ is (letters_close settings);
}
