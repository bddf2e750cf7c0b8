-- Rows of bytes that were worked out by hand: events, and the outputs that they cause.
use Rattle.std.specs.Prelude.{◌≡◌, ℕ, ℤ, pos, List, [], ◌∷◌, ◌++◌, codes, Some, None, true}
use Rattle.values.specs.Hex.{hex_bytes}
use Rattle.values.specs.declared.fault.Fault.TheVariants.{OutOfOrder}
use Rattle.settings.specs.Settings.{timeout_pair}
use Rattle.settings.specs.declared.dialect.Dialect.TheVariants.{Zk34}
use Rattle.world.specs.declared.world.Settings.{Settings}
use Rattle.observer_core.specs.declared.event.Event.{Event}
use Rattle.observer_core.specs.declared.event.Event.TheVariants.{LeaderBytes, ClientUp, ClientBytes}
use Rattle.world.specs.declared.output.Output.{Output}
use Rattle.world.specs.declared.output.Output.TheVariants.{ToLeader, ToClient, CloseLeader, CloseClient}
use Rattle.sessions.specs.declared.passwords.Passwords.TheVariants.{Keyed}
use Rattle.world.specs.World.{World}
use Rattle.world.specs.Clients.{idle_connection, heard_connection}
use Rattle.client_service.specs.Serve.{is_live}
use Rattle.observer_core.specs.Play.{is_serving_clients, play, new_machine, primed_machine}
use Rattle.observer_core.specs.Apart.{IsClaimed}

-- An INFORM of a create of /a with the data "hi", zxid 0x100000001.
abbrev pub inform_of_create : List ℕ
inform_of_create =
    hex_bytes (codes "00000008 0000000100000001 0000004c 0000000000000007 00000001 0000000100000001"
    ++ codes " 00000000000003e8 00000001 00000002 2f61 00000002 6869 00000001 0000001f 00000005 776f726c64"
    ++ codes " 00000006 616e796f6e65 00 00000001 ffffffff")

-- An INFORM of a setData of /a to null at version 1, zxid 0x100000002.
abbrev pub inform_of_set_data : List ℕ
inform_of_set_data =
    hex_bytes (codes "00000008 0000000100000002 0000002e 0000000000000007 00000002 0000000100000002"
    ++ codes " 00000000000007d0 00000005 00000002 2f61 ffffffff 00000001 ffffffff")

-- A getData of /a: its first 10 bytes.
abbrev pub get_data_frame_start : List ℕ
get_data_frame_start = hex_bytes (codes "0000000f 00000001 0000")

-- The other 9 bytes.
abbrev pub get_data_frame_end : List ℕ
get_data_frame_end = hex_bytes (codes "0004 00000002 2f61 00")

-- The reply to the read after the create.
abbrev pub reply_of_create : List ℕ
reply_of_create =
    hex_bytes (codes "0000005a 00000001 0000000100000001 00000000 00000002 6869 0000000100000001 0000000100000001"
    ++ codes " 00000000000003e8 00000000000003e8 00000000 00000000 00000000 0000000000000000 00000002"
    ++ codes " 00000000 0000000100000001")

-- The reply to the read after the setData.
abbrev pub reply_of_set_data : List ℕ
reply_of_set_data =
    hex_bytes (codes "00000058 00000001 0000000100000002 00000000 ffffffff 0000000100000001 0000000100000002"
    ++ codes " 00000000000003e8 00000000000007d0 00000001 00000000 00000000 0000000000000000 00000000"
    ++ codes " 00000000 0000000100000001")

-- An exists of /a with a watch.
abbrev pub exists_watch_frame : List ℕ
exists_watch_frame = hex_bytes (codes "0000000f 00000002 00000003 00000002 2f61 01")

-- The reply where there is no node, before any transaction.
abbrev pub reply_of_missing : List ℕ
reply_of_missing = hex_bytes (codes "00000010 00000002 0000000000000000 ffffff9b")

-- The event that the watch sends when the node is created.
abbrev pub event_of_create : List ℕ
event_of_create = hex_bytes (codes "0000001e ffffffff ffffffffffffffff 00000000 00000001 00000003 00000002 2f61")

-- A create of /a with the data "hi", and the REQUEST that forwards it from connection 1 of server 3.
abbrev pub framed_create : List ℕ
framed_create = hex_bytes (codes "0000001c 00000004 00000001 00000002 2f61 00000002 6869 ffffffff 00000000")

abbrev pub request_of_create : List ℕ
request_of_create =
    hex_bytes (codes "00000001 ffffffffffffffff 00000024 0300000000000001 00000004 00000001 00000002 2f61"
    ++ codes " 00000002 6869 ffffffff 00000000 00000000")

-- An INFORM of its transaction, zxid 0x100000001, and the reply.
abbrev pub inform_of_forwarded : List ℕ
inform_of_forwarded =
    hex_bytes (codes "00000008 0000000100000001 0000004c 0300000000000001 00000004 0000000100000001"
    ++ codes " 00000000000003e8 00000001 00000002 2f61 00000002 6869 00000001 0000001f 00000005 776f726c64"
    ++ codes " 00000006 616e796f6e65 00 00000001 ffffffff")

abbrev pub reply_of_forwarded : List ℕ
reply_of_forwarded = hex_bytes (codes "00000016 00000004 0000000100000001 00000000 00000002 2f61")

-- An INFORM of an ErrorTxn in its place, with the error -110, and the reply.
abbrev pub inform_of_error : List ℕ
inform_of_error =
    hex_bytes (codes "00000008 0000000100000001 00000024 0300000000000001 00000004 0000000100000001"
    ++ codes " 00000000000003e8 ffffffff ffffff92 ffffffff")

abbrev pub reply_of_error : List ℕ
reply_of_error = hex_bytes (codes "00000010 00000004 0000000100000001 ffffff92")

-- A sync of /a, the REQUEST that forwards it, the leader's SYNC, and the reply.
abbrev pub sync_frame : List ℕ
sync_frame = hex_bytes (codes "0000000e 00000005 00000009 00000002 2f61")

abbrev pub request_of_sync : List ℕ
request_of_sync =
    hex_bytes (codes "00000001 ffffffffffffffff 00000016 0300000000000001 00000005 00000009 00000002 2f61 00000000")

abbrev pub sync_packet : List ℕ
sync_packet = hex_bytes (codes "00000007 0000000000000000 ffffffff ffffffff")

abbrev pub reply_of_sync : List ℕ
reply_of_sync = hex_bytes (codes "00000016 00000005 0000000000000000 00000000 00000002 2f61")

-- A ping of a client, and the reply before any transaction.
abbrev pub client_ping : List ℕ
client_ping = hex_bytes (codes "00000008 fffffffe 0000000b")

abbrev pub reply_of_ping : List ℕ
reply_of_ping = hex_bytes (codes "00000010 fffffffe 0000000000000000 00000000")

-- A PING of the leader, and the answers to it: with the first session of server 3 and its timeout, and with no session.
abbrev pub leader_ping : List ℕ
leader_ping = hex_bytes (codes "00000005 0000000100000002 ffffffff ffffffff")

abbrev pub answer_with_first : List ℕ
answer_with_first = hex_bytes (codes "00000005 0000000100000002 0000000c 0300000000000001 00009c40 ffffffff")

abbrev pub answer_with_none : List ℕ
answer_with_none = hex_bytes (codes "00000005 0000000100000002 00000000 ffffffff")

-- The connect of a client that asks for a new session with a timeout of 10 seconds, and the REQUEST for it.
abbrev pub connect_frame : List ℕ
connect_frame =
    hex_bytes (codes "0000002c 00000000 0000000000000000 00002710 0000000000000000"
    ++ codes " 00000010 00000000000000000000000000000000")

abbrev pub request_of_session : List ℕ
request_of_session =
    hex_bytes (codes "00000001 ffffffffffffffff 00000014 0300000000000002 00000000 fffffff6 00002710 ffffffff")

-- The connect of a client that names this session, with its password, which was made with an empty secret.
abbrev pub claim_frame : List ℕ
claim_frame =
    hex_bytes (codes "0000002c 00000000 0000000000000000 00002710 0300000000000002"
    ++ codes " 00000010 5c75ddec095bce05f05804d58decb4ec")

abbrev pub session_of_claim : ℤ
session_of_claim = pos 0x0300000000000002

-- An INFORM of its createSession, zxid 0x100000001, and the response to the connect.
abbrev pub inform_of_session : List ℕ
inform_of_session =
    hex_bytes (codes "00000008 0000000100000001 00000024 0300000000000002 00000000 0000000100000001"
    ++ codes " 00000000000003e8 fffffff6 00002710 ffffffff")

abbrev pub response_of_session : List ℕ
response_of_session =
    hex_bytes (codes "00000024 00000000 00002710 0300000000000002"
    ++ codes " 00000010 5c75ddec095bce05f05804d58decb4ec")

abbrev pub create_inform_event : Event
create_inform_event = LeaderBytes inform_of_create

abbrev pub set_data_inform_event : Event
set_data_inform_event = LeaderBytes inform_of_set_data

abbrev pub get_data_event : Event
get_data_event = ClientBytes 1 (get_data_frame_start ++ get_data_frame_end)

abbrev pub exists_watch_event : Event
exists_watch_event = ClientBytes 1 exists_watch_frame

-- The outputs of a primed machine in the dialect of ZooKeeper 3.4, with any other settings.
abbrev pub PrimedAnswers : List Event → List Output → Type 0
PrimedAnswers events outputs =
    (settings : Settings) → settings.dialect ≡ Zk34 → (play (primed_machine settings) events).outputs ≡ outputs

-- The outputs of a primed machine of server 3, whose session ids begin with the counter 1.
abbrev pub ServerThreeAnswers : List Event → List Output → Type 0
ServerThreeAnswers events outputs =
    (settings : Settings) → settings.dialect ≡ Zk34 → settings.server_id ≡ pos 3 → settings.first_counter ≡ 0
    → (play (primed_machine settings) events).outputs ≡ outputs

-- The same, with timeouts from 4 to 40 seconds and an empty secret.
abbrev pub SettledAnswers : List Event → List Output → Type 0
SettledAnswers events outputs =
    (settings : Settings) → settings.dialect ≡ Zk34 → settings.server_id ≡ pos 3 → settings.first_counter ≡ 0
    → settings.timeouts ≡ timeout_pair (pos 4000) (pos 40000) → settings.secret ≡ []
    → (play (primed_machine settings) events).outputs ≡ outputs

-- A read shows the create, and a later one the setData.
pub record WorkedRows : Type 0 where
  pub create_then_get : PrimedAnswers (create_inform_event ∷ get_data_event ∷ []) (ToClient 1 reply_of_create ∷ [])
  pub set_then_get : PrimedAnswers (create_inform_event ∷ get_data_event ∷ set_data_inform_event ∷ get_data_event ∷ [])
      (ToClient 1 reply_of_create ∷ ToClient 1 reply_of_set_data ∷ [])
  -- A request is answered when its last byte comes.
  pub cut_request : PrimedAnswers
      (ClientBytes 1 get_data_frame_start ∷ create_inform_event ∷ ClientBytes 1 get_data_frame_end ∷ [])
      (ToClient 1 reply_of_create ∷ [])
  -- A transaction that is sent twice is refused, and all that follows is ignored.
  pub same_zxid_twice : PrimedAnswers
      (create_inform_event ∷ create_inform_event ∷ set_data_inform_event ∷ get_data_event ∷ [])
      (CloseLeader OutOfOrder ∷ CloseClient 1 ∷ [])
  -- A watch on a missing node fires for the create, and for nothing after it.
  pub watch_on_missing : PrimedAnswers (exists_watch_event ∷ create_inform_event ∷ set_data_inform_event ∷ [])
      (ToClient 1 reply_of_missing ∷ ToClient 1 event_of_create ∷ [])
  -- A create is forwarded, and answered when its transaction comes.
  pub forwarded_create : ServerThreeAnswers (ClientBytes 1 framed_create ∷ LeaderBytes inform_of_forwarded ∷ [])
      (ToLeader request_of_create ∷ ToClient 1 reply_of_forwarded ∷ [])
  -- A transaction that stands for one that failed answers with its error alone.
  pub failed_create : ServerThreeAnswers (ClientBytes 1 framed_create ∷ LeaderBytes inform_of_error ∷ [])
      (ToLeader request_of_create ∷ ToClient 1 reply_of_error ∷ [])
  -- A sync is forwarded, and answered when the leader has done it.
  pub forwarded_sync : ServerThreeAnswers (ClientBytes 1 sync_frame ∷ LeaderBytes sync_packet ∷ [])
      (ToLeader request_of_sync ∷ ToClient 1 reply_of_sync ∷ [])
  -- A connect waits until the leader has created its session.
  pub new_session : SettledAnswers (ClientUp 2 None ∷ ClientBytes 2 connect_frame ∷ LeaderBytes inform_of_session ∷ [])
      (ToLeader request_of_session ∷ ToClient 2 response_of_session ∷ [])
  -- The leader is told once of a session whose client was heard.
  pub heard_session : SettledAnswers
      (ClientBytes 1 client_ping ∷ LeaderBytes leader_ping ∷ LeaderBytes leader_ping ∷ [])
      (ToClient 1 reply_of_ping ∷ ToLeader answer_with_first ∷ ToLeader answer_with_none ∷ [])
  pub nothing : PrimedAnswers [] []
  -- Without a leader and a client nothing is sent.
  pub idle : (settings : Settings)
      → (play (new_machine settings) (create_inform_event ∷ get_data_event ∷ [])).outputs ≡ []
  -- A connection that begins with "ruok" is answered "imok" and closed, even if no leader was ever followed.
  pub ruok : (settings : Settings)
      → (play (new_machine settings) (ClientUp 2 None ∷ ClientBytes 2 (codes "ruok") ∷ [])).outputs
      ≡ ToClient 2 (codes "imok") ∷ CloseClient 2 ∷ []
  -- The answer to "isro" says that no client is served.
  pub isro_not_serving : (settings : Settings)
      → (play (new_machine settings) (ClientUp 2 None ∷ ClientBytes 2 (codes "isro") ∷ [])).outputs
      ≡ ToClient 2 (codes "null") ∷ CloseClient 2 ∷ []
  -- A connect that names a living session with its password claims it.
  pub claim : (n : ℕ) (w : World) → heard_connection n w.clients ≡ Some (idle_connection None)
      → w.clients.sessions.terms.passwords ≡ Keyed [] → w.replica.learner.last_zxid ≡ pos 0
      → is_serving_clients w ≡ true → is_live session_of_claim w ≡ true → IsClaimed n w claim_frame session_of_claim
  -- A client that has a session can't send a word: the letters are the length of a frame that is too long.
  pub word_with_a_session : PrimedAnswers (ClientBytes 1 (codes "ruok") ∷ []) (CloseClient 1 ∷ [])
