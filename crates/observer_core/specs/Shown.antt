-- What the frames for clients show: each reply to a read or a write names the transaction up to which it shows the
-- tree.
use Rattle.std.specs.Prelude.{◌≡◌, ◌⊎◌, ℕ, ℤ, pos, negsuc, Bool, true, List, [], ◌∷◌, ◌++◌, Option, Some, None}
use Rattle.std.specs.List.{AllByRecursion, list_any}
use Rattle.std.specs.Ordering.{int_eq}
use Rattle.settings.specs.declared.dialect.Dialect.{Dialect}
use Rattle.jute.specs.declared.owned.Id.{Id}
use Rattle.jute.specs.declared.codes.TheConstants.{BAD_ARGUMENTS}
use Rattle.client_records.specs.declared.codes.TheConstants.{OK, MARSHALLING_ERROR, UNIMPLEMENTED, AUTH_FAILED, NOT_READ_ONLY, NO_WATCHER, NOTIFICATION_XID}
use Rattle.client_records.specs.declared.multi.ReadPart.{ReadPart}
use Rattle.txn_codec.specs.declared.txn.Txn.{Txn}
use Rattle.data_tree.specs.State.{State}
use Rattle.data_tree.specs.Meaning.{state_after}
use Rattle.learner_sync.specs.Learn.{zxid_after}
use Rattle.learner_sync.specs.Laws.{ZxidsRise}
use Rattle.data_tree.specs.declared.outcome.TxnResults.{TxnResults}
use Rattle.quorum_packet.specs.declared.item.Item.{Item}
use Rattle.replica.specs.Replica.{Replica}
use Rattle.replica.specs.Taking.{last_txn}
use Rattle.replica.specs.Laws.{FollowsItsLog}
use Rattle.sessions.specs.declared.request.SessionResponse.{SessionResponse}
use Rattle.watch_manager.specs.declared.event.Event.{Event as WatchEvent}
use Rattle.read_processor.specs.declared.request.Request.{Request}
use Rattle.read_processor.specs.declared.shown.Look.{Look}
use Rattle.read_processor.specs.Look.{look_at_state, look_of_path, without_body}
use Rattle.read_processor.specs.MultiReads.{look_at_parts}
use Rattle.read_processor.specs.LaterReads.{look_at_ephemerals, look_below, look_at_ids, look_of_sasl}
use Rattle.read_processor.specs.Watch.{look_of_added}
use Rattle.read_processor.specs.Events.{look_of_event}
use Rattle.read_processor.specs.Reply.{reply_frame}
use Rattle.forwarding.specs.declared.request.WriteKind.{WriteKind}
use Rattle.write_replies.specs.Replies.{write_look}
use Rattle.four_letter.specs.declared.word.Word.{Word}
use Rattle.four_letter.specs.declared.figures.Figures.{Figures}
use Rattle.four_letter.specs.Texts.{reply_text}
use Rattle.client_frames.specs.Connect.{answer_to_connect}
use Rattle.world.specs.declared.output.Output.{Output}
use Rattle.world.specs.declared.output.Output.TheVariants.{ToClient}
use Rattle.world.specs.World.{World}
use Rattle.observer_core.specs.declared.event.Event.{Event}
use Rattle.observer_core.specs.declared.event.Event.TheVariants.{LeaderBytes}
use Rattle.observer_core.specs.Machine.{Leader, Machine}
use Rattle.observer_core.specs.Logs.{delivery_of_items, items_of_bytes}
use Rattle.observer_core.specs.Play.{is_serving_clients, play_event}

-- ---- reads

-- A read, and what it depends on besides the tree: the ids that the connection has shown, or its session.
pub data TreeRead : Type 0 where
  OfRequest : (ids : List Id) (request : Request) → TreeRead
  OfParts : (ids : List Id) (parts : List ReadPart) → TreeRead
  OfEphemerals : (session : ℤ) (prefix : Option (List ℕ)) → TreeRead
  OfNumber : (ids : List Id) (path : Option (List ℕ)) → TreeRead

-- What the read looks up in this tree.
abbrev pub look_in : State → TreeRead → Look
look_in tree (OfRequest ids request) = look_at_state tree ids request
look_in tree (OfParts ids parts) = look_at_parts tree ids parts
look_in tree (OfEphemerals session prefix) = look_at_ephemerals tree session prefix
look_in tree (OfNumber ids path) = look_below tree ids path

-- The frame replies to a read: it names the replica's last zxid, and shows its tree.
pub record IsReadReply (r : Replica) (frame : List ℕ) : Type 0 where
  pub xid : ℤ
  pub read : TreeRead
  pub is : reply_frame xid r.learner.last_zxid (look_in r.tree read) ≡ Some frame

-- ---- writes

-- The frame replies to the write that the last transaction of the log was made of. It names that one, and shows the
-- replica's tree.
pub record IsWriteReply (r : Replica) (frame : List ℕ) : Type 0 where
  pub txn : Txn
  pub last : last_txn r.learner.log ≡ Some txn
  pub kind : WriteKind
  pub results : TxnResults
  pub is : reply_frame txn.header.cxid txn.header.zxid (write_look r.tree kind txn.body results) ≡ Some frame

-- The frame replies to a closeSession. It names the last transaction of the log, which ended the session.
pub record IsEndingReply (r : Replica) (frame : List ℕ) : Type 0 where
  pub txn : Txn
  pub last : last_txn r.learner.log ≡ Some txn
  pub xid : ℤ
  pub is : reply_frame xid txn.header.zxid (without_body OK) ≡ Some frame

-- ---- frames that show no tree

-- Of a request, that it was done, or an error that no look at a tree needs; the path of a sync; or the ids that the
-- connection has shown.
pub data PlainLook : Type 0 where
  OfError : (error : ℤ) → PlainLook
  OfAdded : (dialect : Dialect) → PlainLook
  OfPath : (path : List ℕ) → PlainLook
  OfIds : (ids : List Id) → PlainLook
  OfSasl : PlainLook

abbrev pub plain_look : PlainLook → Look
plain_look (OfError error) = without_body error
plain_look (OfAdded dialect) = look_of_added dialect
plain_look (OfPath path) = look_of_path path
plain_look (OfIds ids) = look_at_ids ids
plain_look OfSasl = look_of_sasl

abbrev pub plain_errors : List ℤ
plain_errors =
    OK ∷ BAD_ARGUMENTS ∷ MARSHALLING_ERROR ∷ UNIMPLEMENTED ∷ AUTH_FAILED ∷ NOT_READ_ONLY ∷ NO_WATCHER ∷ []

abbrev pub is_plain : PlainLook → Bool
is_plain (OfError error) = list_any (int_eq error) plain_errors
is_plain look = true

-- The replica's last zxid, or none.
abbrev pub IsLastOrNone : Replica → ℤ → Type 0
IsLastOrNone r zxid = (zxid ≡ r.learner.last_zxid) ⊎ ((zxid ≡ pos 0) ⊎ (zxid ≡ negsuc 0))

pub record IsPlainReply (r : Replica) (frame : List ℕ) : Type 0 where
  pub xid : ℤ
  pub zxid : ℤ
  pub named : IsLastOrNone r zxid
  pub look : PlainLook
  pub plain : is_plain look ≡ true
  pub is : reply_frame xid zxid (plain_look look) ≡ Some frame

-- The answer to a connect.
pub record IsConnectAnswer (frame : List ℕ) : Type 0 where
  pub response : SessionResponse
  pub has_byte : Bool
  pub is : frame ≡ answer_to_connect response has_byte

-- The event of a watch.
pub record IsNotice (frame : List ℕ) : Type 0 where
  pub event : WatchEvent
  pub is : reply_frame NOTIFICATION_XID (negsuc 0) (look_of_event event) ≡ Some frame

-- The answer to a four-letter word.
pub record IsWordAnswer (frame : List ℕ) : Type 0 where
  pub word : Word
  pub figures : Figures
  pub is : frame ≡ reply_text word figures

abbrev pub ShowsNoTree : Replica → List ℕ → Type 0
ShowsNoTree r frame = IsPlainReply r frame ⊎ (IsConnectAnswer frame ⊎ (IsNotice frame ⊎ IsWordAnswer frame))

-- ---- all frames

-- A frame for a client shows the tree of this replica, or none.
abbrev pub IsShownBy : Replica → Output → Type 0
IsShownBy r (ToClient n frame) =
    IsReadReply r frame ⊎ (IsWriteReply r frame ⊎ (IsEndingReply r frame ⊎ ShowsNoTree r frame))
IsShownBy r output = Unit {0}

-- The replica once these items of the leader were taken.
abbrev pub replica_after : Leader → World → List Item → Replica
replica_after l w taken = (delivery_of_items l w taken).after.left.world.replica

-- A front of these items of the leader leaves a replica by which the frame is shown.
pub record IsShownOnTheWay (l : Leader) (w : World) (items : List Item) (output : Output) : Type 0 where
  pub taken : List Item
  pub others : List Item
  pub is : items ≡ taken ++ others
  pub shown : IsShownBy (replica_after l w taken) output

abbrev pub IsShownWhile : Option Leader → World → List ℕ → Output → Type 0
IsShownWhile None w bytes output = ⊥
IsShownWhile (Some l) w bytes output = IsShownOnTheWay l w (items_of_bytes l bytes).found output

-- What an event sends is shown by the machine's replica; and while bytes of the leader are taken, by the replica that
-- the last item left.
abbrev pub IsShownIn : Machine → Event → Output → Type 0
IsShownIn m (LeaderBytes bytes) output = IsShownWhile m.leader m.world bytes output
IsShownIn m event output = IsShownBy m.world.replica output

-- Between the two replicas these transactions were applied, with rising zxids. So no zxid names two of their trees.
pub record GrowsTo (r s : Replica) : Type 0 where
  pub txns : List Txn
  pub tree : s.tree ≡ state_after r.tree txns
  pub rise : ZxidsRise r.learner.last_zxid txns
  pub last : s.learner.last_zxid ≡ zxid_after r.learner.last_zxid txns

pub record RepliesShowTrees : Type 0 where
  pub shown : (m : Machine) (event : Event) → AllByRecursion (IsShownIn m event) (play_event m event).outputs
  -- While clients are served, only transactions change the tree, one after the other.
  pub grows : (m : Machine) (event : Event) → is_serving_clients m.world ≡ true
      → is_serving_clients (play_event m event).after.world ≡ true
      → GrowsTo m.world.replica (play_event m event).after.world.replica
  pub grows_on : (l : Leader) (w : World) (taken others : List Item) → is_serving_clients w ≡ true
      → GrowsTo (replica_after l w taken) (replica_after l w (taken ++ others))
  -- On the way too the tree is the base with the log applied, if it was before.
  pub follows : (l : Leader) (w : World) (taken : List Item) → FollowsItsLog w.replica
      → FollowsItsLog (replica_after l w taken)
