-- What is learnt of an item of the leader's stream: the acts to do and the learner afterwards; or the fault for which
-- the item is refused. Within one packet the faults are judged in this order: a wrong kind, a zxid out of place, the
-- data of the packet, a commit of another proposal, and a transaction out of order.
use Rattle.std.specs.Prelude.{◌≡◌, ℕ, ℤ, pos, negsuc, false, List, [], ◌∷◌, ◌++◌, filter, int_lt, int_le, Option, Some, None, Result, Ok, Err, if◌then◌else◌}
use Rattle.std.specs.Int.{int_max}
use Rattle.std.specs.Ordering.{int_eq}
use Rattle.values.specs.declared.fault.Fault.{Fault}
use Rattle.values.specs.declared.fault.Fault.TheVariants.{OutOfOrder, CommitMismatch, CannotTruncate, EpochTooSmall, UnexpectedPacket}
use Rattle.values.specs.declared.fault.ReadError.{ReadError}
use Rattle.jute.specs.Format.{int, long, boolean, pair_of, ◌>>=◌}
use Rattle.jute.specs.Reads.{IsFailureOf}
use Rattle.quorum_packet.specs.declared.item.Item.{Item}
use Rattle.quorum_packet.specs.declared.item.Item.TheVariants as item
use Rattle.snapshot_codec.specs.declared.part.ImagePart.{ImagePart}
use Rattle.snapshot_codec.specs.declared.part.ImagePart.TheVariants as part
use Rattle.txn_codec.specs.Spelling.{txn_in, value_of_whole}
use Rattle.txn_codec.specs.declared.txn.Txn.{Txn}
use Rattle.learner_sync.specs.Answers.{observer_info, ack_epoch, epoch_ack}
use Rattle.learner_sync.specs.Learner.{Learner}
use Rattle.learner_sync.specs.Messages.{message_of_packet}
use Rattle.learner_sync.specs.declared.act.Act.{Act}
use Rattle.learner_sync.specs.declared.act.Act.TheVariants as act
use Rattle.learner_sync.specs.declared.message.Message.{Message}
use Rattle.learner_sync.specs.declared.message.Message.TheVariants as message
use Rattle.learner_sync.specs.declared.phase.Phase.{Phase}
use Rattle.learner_sync.specs.declared.phase.Phase.TheVariants as phase

-- The acts to do, in order, and the learner afterwards.
pub record LearnerStep : Type 0 where
  pub acts : List Act
  pub after : Learner

abbrev pub no_acts : Learner → LearnerStep
no_acts l = record { acts = []; after = l }

abbrev pub single_act : Act → Learner → LearnerStep
single_act a l = record { acts = a ∷ []; after = l }

abbrev pub at_phase : Learner → Phase → Learner
at_phase l phase = record l { phase = phase }

-- ---- a leader connects, and leaves

-- The learner introduces itself. While it has a leader, another one is ignored.
abbrev pub start_in : Phase → Learner → ℤ → LearnerStep
start_in phase.Down l server_id = single_act (act.Send (observer_info l server_id)) (at_phase l phase.Hello)
start_in phase l server_id = no_acts l

abbrev pub start_following : Learner → ℤ → LearnerStep
start_following l server_id = start_in l.phase l server_id

-- The leader is gone or was refused: open proposals are forgotten.
abbrev pub stop_following : Learner → Learner
stop_following l = record l { phase = phase.Down; proposals = [] }

-- ---- hello: the leader names its epoch

-- A greater epoch is accepted and answered with the current one. The epoch that was accepted before is answered with
-- -1.
abbrev pub accept_epoch : Learner → ℤ → LearnerStep
accept_epoch l epoch =
    if int_lt l.accepted_epoch epoch
    then record {
      acts = act.Epochs ∷ act.Send (ack_epoch l l.current_epoch) ∷ [];
      after = record l { phase = phase.Sync; accepted_epoch = epoch };
    }
    else single_act (act.Send (ack_epoch l (negsuc 0))) (at_phase l phase.Sync)

-- The data has to hold a protocol version; any version will do.
abbrev pub leader_info : Learner → ℤ → List ℕ → Result LearnerStep Fault
leader_info l epoch bytes =
    if int_lt epoch l.accepted_epoch then Err EpochTooSmall
    else int.read bytes >>= λ version. Ok (accept_epoch l epoch)

abbrev pub message_in_hello : Learner → Message → Result LearnerStep Fault
message_in_hello l (message.LeaderInfo epoch bytes) = leader_info l epoch bytes
message_in_hello l m = Err UnexpectedPacket

-- ---- sync: the leader says how it brings the learner up to date

abbrev pub txns_up_to : ℤ → List Txn → List Txn
txns_up_to zxid log = filter (λ t. int_le t.header.zxid zxid) log

-- The zxid of the last transaction, or the given one if there is none.
abbrev pub zxid_after : ℤ → List Txn → ℤ
zxid_after zxid [] = zxid
zxid_after zxid (t ∷ log) = zxid_after t.header.zxid log

-- The last zxid is the greater of the base's and that of the last transaction kept.
abbrev pub with_truncated_log : Learner → List Txn → Learner
with_truncated_log l kept = record l {
  phase = phase.Replay;
  last_zxid = int_max l.base_zxid (zxid_after l.base_zxid kept);
  log = kept;
  is_complete = false;
}

abbrev pub truncate_log : Learner → ℤ → Result LearnerStep Fault
truncate_log l zxid =
    if int_lt zxid l.base_zxid then Err CannotTruncate
    else Ok (single_act (act.Truncate zxid) (with_truncated_log l (txns_up_to zxid l.log)))

-- Until the image is complete, everything else stays as it was.
abbrev pub await_image : Learner → ℤ → Result LearnerStep Fault
await_image l zxid = if int_lt zxid (pos 0) then Err OutOfOrder else Ok (no_acts (at_phase l (phase.Image zxid)))

abbrev pub message_in_sync : Learner → Message → Result LearnerStep Fault
message_in_sync l message.Diff = Ok (no_acts (at_phase l phase.Replay))
message_in_sync l (message.Trunc zxid) = truncate_log l zxid
message_in_sync l (message.Snap zxid) = await_image l zxid
message_in_sync l m = Err UnexpectedPacket

-- ---- transactions

-- A transaction's zxid has to be above this one, which is the last zxid. After an image there is an exception: a
-- leader's tree changes while it writes the image, so the transactions that it sends next may be in the image already.
-- They only have to be in order.
abbrev pub zxid_floor : Phase → ℤ → ℤ
zxid_floor (phase.ReplayOnImage applied) last_zxid = applied
zxid_floor phase last_zxid = last_zxid

abbrev pub phase_after_zxid : Phase → ℤ → Phase
phase_after_zxid (phase.ReplayOnImage applied) zxid = phase.ReplayOnImage zxid
phase_after_zxid phase zxid = phase

-- A transaction with this zxid was applied: the last zxid is the greater of it and the one before.
abbrev pub with_applied_zxid : Learner → ℤ → Learner
with_applied_zxid l zxid = record l { phase = phase_after_zxid l.phase zxid; last_zxid = int_max l.last_zxid zxid }

-- The transaction is appended to the log.
abbrev pub with_applied : Learner → Txn → Learner
with_applied l t = with_applied_zxid (record l { log = l.log ++ t ∷ [] }) t.header.zxid

abbrev pub apply_txn : Learner → Txn → Result LearnerStep Fault
apply_txn l t =
    if int_lt (zxid_floor l.phase l.last_zxid) t.header.zxid then Ok (single_act act.Apply (with_applied l t))
    else Err OutOfOrder

-- The transaction that a packet carries, in the leader's dialect.
abbrev pub carried_txn : Learner → List ℕ → Result Txn Fault
carried_txn l bytes = value_of_whole (txn_in l.dialect) bytes

-- A transaction that is proposed and committed in one packet; open proposals stay.
abbrev pub learn_inform : Learner → List ℕ → Result LearnerStep Fault
learn_inform l bytes = carried_txn l bytes >>= λ t. apply_txn l t

-- A change of the configuration that is proposed and committed in one packet. In front of the transaction the data
-- names a server that may lead after it; an observer follows whoever leads.
abbrev pub learn_activation : Learner → List ℕ → Result LearnerStep Fault
learn_activation l bytes = long.read bytes >>= λ named. learn_inform l named.1

abbrev pub learn_proposal : Learner → List ℕ → Result LearnerStep Fault
learn_proposal l bytes = carried_txn l bytes >>= λ t. Ok
    (no_acts (record l { proposals = l.proposals ++ t ∷ [] }))

-- The oldest proposal is applied; it has to have this zxid.
abbrev pub commit_of : Learner → List Txn → ℤ → Result LearnerStep Fault
commit_of l [] zxid = Err CommitMismatch
commit_of l (t ∷ others) zxid =
    if int_eq t.header.zxid zxid then apply_txn (record l { proposals = others }) t else Err CommitMismatch

abbrev pub learn_commit : Learner → ℤ → Result LearnerStep Fault
learn_commit l zxid = commit_of l l.proposals zxid

-- ---- replay: until the learner is up to date

abbrev pub new_leader : Learner → LearnerStep
new_leader l = record {
  acts = act.Epochs ∷ act.Send (epoch_ack l) ∷ [];
  after = record l { current_epoch = l.accepted_epoch };
}

-- The leader's epoch is the current one from now on, even if no NEWLEADER came. Open proposals are forgotten.
abbrev pub up_to_date : Learner → LearnerStep
up_to_date l = record {
  acts = act.Epochs ∷ act.Send (epoch_ack l) ∷ act.ServeFrom ∷ [];
  after = record l { phase = phase.Serving; current_epoch = l.accepted_epoch; proposals = [] };
}

abbrev pub message_in_replay : Learner → Message → Result LearnerStep Fault
message_in_replay l (message.Proposal bytes) = learn_proposal l bytes
message_in_replay l (message.Commit zxid) = learn_commit l zxid
message_in_replay l (message.Inform bytes) = learn_inform l bytes
message_in_replay l (message.InformAndActivate bytes) = learn_activation l bytes
message_in_replay l message.NewLeader = Ok (new_leader l)
message_in_replay l message.UpToDate = Ok (up_to_date l)
message_in_replay l m = Ok (no_acts l)

-- ---- serving

-- The leader's answer for a session that a client brought: the id of the session, and whether it lives. Bytes after
-- these are passed over.
abbrev pub learn_revalidated : Learner → List ℕ → Result LearnerStep Fault
learn_revalidated l bytes =
    (pair_of long boolean).read bytes >>= λ answer. Ok (single_act (act.Revalidated answer.0.0 answer.0.1) l)

abbrev pub message_in_serving : Learner → Message → Result LearnerStep Fault
message_in_serving l (message.Ping p) = Ok (single_act (act.AnswerPing p) l)
message_in_serving l message.Sync = Ok (single_act act.SettleSync l)
message_in_serving l (message.Inform bytes) = learn_inform l bytes
message_in_serving l (message.InformAndActivate bytes) = learn_activation l bytes
message_in_serving l (message.Revalidated bytes) = learn_revalidated l bytes
message_in_serving l m = Ok (no_acts l)

-- ---- images

-- The image is the base, and its zxid is the last zxid.
abbrev pub with_image_zxid : Learner → ℤ → Learner
with_image_zxid l zxid = record l {
  phase = phase.ReplayOnImage (pos 0);
  last_zxid = zxid;
  base_zxid = zxid;
  log = [];
  is_complete = false;
}

abbrev pub load_part : ImagePart → Learner → ℤ → LearnerStep
load_part part.End l zxid = single_act act.LoadImage (with_image_zxid l zxid)
load_part p l zxid = single_act (act.LoadPart p) l

-- An image that wasn't asked for is loaded to find its faults, and dropped.
abbrev pub acts_to_drop : ImagePart → List Act
acts_to_drop part.End = act.DropImage ∷ []
acts_to_drop p = act.LoadPart p ∷ []

abbrev pub load_to_drop : ImagePart → Learner → LearnerStep
load_to_drop p l = record { acts = acts_to_drop p; after = l }

-- ---- every item

-- Without a leader a packet does nothing. While an image is awaited, no packet can come.
abbrev pub message_in_phase : Phase → Learner → Message → Result LearnerStep Fault
message_in_phase phase.Down l m = Ok (no_acts l)
message_in_phase phase.Hello l m = message_in_hello l m
message_in_phase phase.Sync l m = message_in_sync l m
message_in_phase (phase.Image zxid) l m = Err UnexpectedPacket
message_in_phase (phase.ReplayOnImage applied) l m = message_in_replay l m
message_in_phase phase.Replay l m = message_in_replay l m
message_in_phase phase.Serving l m = message_in_serving l m

-- Without a leader an image is dropped, like one that wasn't asked for.
abbrev pub part_in_phase : Phase → Learner → ImagePart → Result LearnerStep Fault
part_in_phase phase.Down l p = Ok (load_to_drop p l)
part_in_phase phase.Hello l p = Err UnexpectedPacket
part_in_phase phase.Sync l p = Err UnexpectedPacket
part_in_phase (phase.Image zxid) l p = Ok (load_part p l zxid)
part_in_phase (phase.ReplayOnImage applied) l p = Ok (load_to_drop p l)
part_in_phase phase.Replay l p = Ok (load_to_drop p l)
part_in_phase phase.Serving l p = Ok (load_to_drop p l)

abbrev pub learn_item : Learner → Item → Result LearnerStep Fault
learn_item l (item.Packet p) = message_in_phase l.phase l (message_of_packet l.dialect p)
learn_item l (item.Part p) = part_in_phase l.phase l p

-- ---- a checkpoint: while clients are served, the state is the new base

abbrev pub checkpoint_in : Phase → Learner → Learner
checkpoint_in phase.Serving l = record l { base_zxid = l.last_zxid; log = []; is_complete = false }
checkpoint_in phase l = l

abbrev pub checkpoint_learner : Learner → Learner
checkpoint_learner l = checkpoint_in l.phase l

-- ---- the log as a whole

-- The log if it has every transaction since the empty tree.
abbrev pub whole_log : Learner → Option (List Txn)
whole_log l = if l.is_complete then Some l.log else None

-- The contract of a step: it returns the acts, and the learner is the one after the item; or the item is refused for
-- its fault, or an allocation is, and the learner is as it was.
abbrev pub LearnsItem : Result (List Act) ReadError → Result LearnerStep Fault → Learner → Learner → Type 0
LearnsItem (Ok acts) learned old new = learned ≡ Ok (record { acts = acts; after = new })
LearnsItem (Err e) learned old new = IsFailureOf e learned × (new ≡ old)
