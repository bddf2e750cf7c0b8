-- The acts account for each change of the log and its base, and every packet to send can be written.
use Rattle.std.proofs.Common.{◌≡◌, ℕ, ℤ, List, [], ◌∷◌, ◌++◌, Result, Ok, Err, Bool, true, false, cond, refl, subst, int_lt}
use Rattle.std.specs.Prelude.{pos, negsuc}
use Rattle.std.specs.List.{AllByRecursion}
use Rattle.std.specs.Ordering.{int_eq}
use Rattle.values.specs.declared.fault.Fault.{Fault}
use Rattle.values.specs.declared.fault.Fault.TheVariants.{OutOfOrder, CommitMismatch, CannotTruncate, EpochTooSmall}
use Rattle.jute.specs.Format.{int, long, boolean, pair_of, ◌>>=◌}
use Rattle.quorum_packet.specs.Feed.{CanBeWritten}
use Rattle.quorum_packet.specs.declared.item.Item.{Item}
use Rattle.quorum_packet.specs.declared.item.Item.TheVariants as item
use Rattle.quorum_packet.specs.declared.packet.QuorumPacket.{QuorumPacket}
use Rattle.snapshot_codec.specs.declared.part.ImagePart.{ImagePart}
use Rattle.snapshot_codec.specs.declared.part.ImagePart.TheVariants as part
use Rattle.txn_codec.specs.declared.txn.Txn.{Txn}
use Rattle.learner_sync.specs.Answers.{ack_epoch}
use Rattle.learner_sync.specs.Learner.{Learner}
use Rattle.learner_sync.specs.Learn.{LearnerStep, no_acts, single_act, at_phase, accept_epoch, leader_info, message_in_hello, txns_up_to, with_truncated_log, truncate_log, await_image, message_in_sync, zxid_floor, with_applied, apply_txn, carried_txn, learn_inform, learn_activation, learn_revalidated, learn_proposal, commit_of, message_in_replay, message_in_serving, load_part, load_to_drop, acts_to_drop, start_in, message_in_phase, part_in_phase, learn_item}
use Rattle.learner_sync.specs.Messages.{message_of_packet}
use Rattle.learner_sync.specs.Laws.{AccountsForLog, CanBeDone, is_of_image, ActsAccountForLog}
use Rattle.learner_sync.specs.declared.act.Act.{Act}
use Rattle.learner_sync.specs.declared.act.Act.TheVariants as act
use Rattle.learner_sync.specs.declared.message.Message.{Message}
use Rattle.learner_sync.specs.declared.message.Message.TheVariants as message
use Rattle.learner_sync.specs.declared.phase.Phase.{Phase}
use Rattle.learner_sync.specs.declared.phase.Phase.TheVariants as phase
use Rattle.learner_sync.proofs.Each.{packet-each}
use Rattle.learner_sync.proofs.Sending.{introduction-writable, epoch-writable, acknowledgement-writable, ping-writable}

-- A result that isn't refused accounts for the log.
abbrev Holds : Learner → Result LearnerStep Fault → Type 0
Holds l (Ok x) = AccountsForLog x.acts l x.after
Holds l (Err e) = Unit {0}

apply-holds : (l : Learner) (ts : List Txn) (t : Txn) → Holds l (apply_txn (record l { proposals = ts }) t)
apply-holds l ts t = by (int_lt (zxid_floor l.phase l.last_zxid) t.header.zxid)
  where
    by : (b : Bool) → Holds l
        (cond b (Ok (single_act act.Apply (with_applied (record l { proposals = ts }) t))) (Err OutOfOrder))
    by true = (t, refl, refl)
    by false = tt

inform-holds : (l : Learner) (bytes : List ℕ) → Holds l (learn_inform l bytes)
inform-holds l bytes = by (carried_txn l bytes)
  where
    by : (r : Result Txn Fault) → Holds l (r >>= λ t. apply_txn l t)
    by (Ok t) = apply-holds l l.proposals t
    by (Err e) = tt

activate-holds : (l : Learner) (bytes : List ℕ) → Holds l (learn_activation l bytes)
activate-holds l bytes = by (long.read bytes)
  where
    by : (r : Result (ℤ × List ℕ) Fault) → Holds l (r >>= λ named. learn_inform l named.1)
    by (Ok named) = inform-holds l named.1
    by (Err e) = tt

propose-holds : (l : Learner) (bytes : List ℕ) → Holds l (learn_proposal l bytes)
propose-holds l bytes = by (carried_txn l bytes)
  where
    by : (r : Result Txn Fault) → Holds l (r >>= λ t. Ok (no_acts (record l { proposals = l.proposals ++ t ∷ [] })))
    by (Ok t) = (refl, refl, tt)
    by (Err e) = tt

commit-holds : (l : Learner) (ts : List Txn) (zxid : ℤ) → Holds l (commit_of l ts zxid)
commit-holds l [] zxid = tt
commit-holds l (t ∷ others) zxid = by (int_eq t.header.zxid zxid)
  where
    by : (b : Bool) → Holds l (cond b (apply_txn (record l { proposals = others }) t) (Err CommitMismatch))
    by true = apply-holds l others t
    by false = tt

greeted-holds : (l : Learner) (epoch : ℤ) → AccountsForLog (accept_epoch l epoch).acts l (accept_epoch l epoch).after
greeted-holds l epoch = by (int_lt l.accepted_epoch epoch)
  where
    answered : Bool → LearnerStep
    answered b = cond b (record {
      acts = act.Epochs ∷ act.Send (ack_epoch l l.current_epoch) ∷ [];
      after = record l { phase = phase.Sync; accepted_epoch = epoch };
    }) (single_act (act.Send (ack_epoch l (negsuc 0))) (at_phase l phase.Sync))

    by : (b : Bool) → AccountsForLog (answered b).acts l (answered b).after
    by true = (refl, refl, (refl, (refl, tt)))
    by false = (refl, refl, (refl, tt))

info-holds : (l : Learner) (epoch : ℤ) (bytes : List ℕ) → Holds l (leader_info l epoch bytes)
info-holds l epoch bytes = by (int_lt epoch l.accepted_epoch)
  where
    read : (r : Result (ℤ × List ℕ) Fault) → Holds l (r >>= λ version. Ok (accept_epoch l epoch))
    read (Ok version) = greeted-holds l epoch
    read (Err e) = tt

    by : (b : Bool) → Holds l (cond b (Err EpochTooSmall) (int.read bytes >>= λ version. Ok (accept_epoch l epoch)))
    by true = tt
    by false = read (int.read bytes)

hello-holds : (l : Learner) (m : Message) → Holds l (message_in_hello l m)
hello-holds l (message.LeaderInfo epoch bytes) = info-holds l epoch bytes
hello-holds l m = tt

truncate-holds : (l : Learner) (zxid : ℤ) → Holds l (truncate_log l zxid)
truncate-holds l zxid = by (int_lt zxid l.base_zxid)
  where
    by : (b : Bool) → Holds l
        (cond b (Err CannotTruncate) (Ok
        (single_act (act.Truncate zxid) (with_truncated_log l (txns_up_to zxid l.log)))))
    by true = tt
    by false = (refl, refl)

await-holds : (l : Learner) (zxid : ℤ) → Holds l (await_image l zxid)
await-holds l zxid = by (int_lt zxid (pos 0))
  where
    by : (b : Bool) → Holds l (cond b (Err OutOfOrder) (Ok (no_acts (at_phase l (phase.Image zxid)))))
    by true = tt
    by false = (refl, refl, tt)

sync-holds : (l : Learner) (m : Message) → Holds l (message_in_sync l m)
sync-holds l message.Diff = (refl, refl, tt)
sync-holds l (message.Trunc zxid) = truncate-holds l zxid
sync-holds l (message.Snap zxid) = await-holds l zxid
sync-holds l m = tt

replay-holds : (l : Learner) (m : Message) → Holds l (message_in_replay l m)
replay-holds l (message.Proposal bytes) = propose-holds l bytes
replay-holds l (message.Commit zxid) = commit-holds l l.proposals zxid
replay-holds l (message.Inform bytes) = inform-holds l bytes
replay-holds l (message.InformAndActivate bytes) = activate-holds l bytes
replay-holds l message.NewLeader = (refl, refl, (refl, (refl, tt)))
replay-holds l message.UpToDate = (refl, refl, (refl, (refl, (refl, tt))))
replay-holds l m = (refl, refl, tt)

confirm-holds : (l : Learner) (bytes : List ℕ) → Holds l (learn_revalidated l bytes)
confirm-holds l bytes = by ((pair_of long boolean).read bytes)
  where
    by : (r : Result ((ℤ × Bool) × List ℕ) Fault)
        → Holds l (r >>= λ answer. Ok (single_act (act.Revalidated answer.0.0 answer.0.1) l))
    by (Ok answer) = (refl, refl, (refl, tt))
    by (Err e) = tt

serve-holds : (l : Learner) (m : Message) → Holds l (message_in_serving l m)
serve-holds l (message.Inform bytes) = inform-holds l bytes
serve-holds l (message.InformAndActivate bytes) = activate-holds l bytes
serve-holds l (message.Revalidated bytes) = confirm-holds l bytes
serve-holds l (message.Ping p) = (refl, refl, (refl, tt))
serve-holds l message.Sync = (refl, refl, (refl, tt))
serve-holds l m = (refl, refl, tt)

load-holds : (p : ImagePart) (l : Learner) (zxid : ℤ) → Holds l (Ok (load_part p l zxid))
load-holds part.End l zxid = (refl, refl)
load-holds p l zxid = (refl, refl)

pass-holds : (p : ImagePart) (l : Learner) → Holds l (Ok (load_to_drop p l))
pass-holds part.End l = (refl, refl, (refl, tt))
pass-holds p l = (refl, refl)

message-holds : (ph : Phase) (l : Learner) (m : Message) → Holds l (message_in_phase ph l m)
message-holds phase.Down l m = (refl, refl, tt)
message-holds phase.Hello l m = hello-holds l m
message-holds phase.Sync l m = sync-holds l m
message-holds (phase.Image zxid) l m = tt
message-holds (phase.ReplayOnImage applied) l m = replay-holds l m
message-holds phase.Replay l m = replay-holds l m
message-holds phase.Serving l m = serve-holds l m

part-holds : (ph : Phase) (l : Learner) (p : ImagePart) → Holds l (part_in_phase ph l p)
part-holds phase.Hello l p = tt
part-holds phase.Sync l p = tt
part-holds (phase.Image zxid) l p = load-holds p l zxid
part-holds ph l p = pass-holds p l

learn-holds : (l : Learner) (i : Item) → Holds l (learn_item l i)
learn-holds l (item.Packet p) = message-holds l.phase l (message_of_packet l.dialect p)
learn-holds l (item.Part p) = part-holds l.phase l p

-- ---- what is sent

-- The acts of a result that isn't refused can be done.
abbrev CanBe : Result LearnerStep Fault → Type 0
CanBe (Ok x) = AllByRecursion CanBeDone x.acts
CanBe (Err e) = Unit {0}

drop-can-be : (p : ImagePart) → AllByRecursion CanBeDone (acts_to_drop p)
drop-can-be part.End = (tt, tt)
drop-can-be p = (tt, tt)

load-can-be : (p : ImagePart) (l : Learner) (zxid : ℤ) → AllByRecursion CanBeDone (load_part p l zxid).acts
load-can-be part.End l zxid = (tt, tt)
load-can-be p l zxid = (tt, tt)

part-can-be : (ph : Phase) (l : Learner) (p : ImagePart) → CanBe (part_in_phase ph l p)
part-can-be phase.Hello l p = tt
part-can-be phase.Sync l p = tt
part-can-be (phase.Image zxid) l p = load-can-be p l zxid
part-can-be ph l p = drop-can-be p

learn-can-be : (l : Learner) (i : Item) → CanBeWritten i → CanBe (learn_item l i)
learn-can-be l (item.Packet p) w =
    packet-each CanBeDone tt tt tt tt (λ session is_valid. tt) (λ zxid. tt) epoch-writable acknowledgement-writable l p (ping-writable p w)
learn-can-be l (item.Part p) w = part-can-be l.phase l p

start-can-be : (ph : Phase) (l : Learner) (server_id : ℤ) → AllByRecursion CanBeDone (start_in ph l server_id).acts
start-can-be phase.Down l server_id = (introduction-writable l server_id, tt)
start-can-be ph l server_id = tt

-- ---- packets and images

abbrev IsApart : Act → Type 0
IsApart a = is_of_image a ≡ false

abbrev Apart : Result LearnerStep Fault → Type 0
Apart (Ok x) = AllByRecursion IsApart x.acts
Apart (Err e) = Unit {0}

packet-apart : (l : Learner) (p : QuorumPacket) → Apart (learn_item l (item.Packet p))
packet-apart l p =
    packet-each IsApart refl refl refl refl (λ session is_valid. refl) (λ zxid. refl) (λ l epoch. refl) (λ l. refl) l p refl

pub acts_tell : ActsAccountForLog
acts_tell = record {
  tells = λ l i x e. subst (Holds l) e (learn-holds l i);
  packets = λ l p x e. subst Apart e (packet-apart l p);
  sends = λ l i x e w. subst CanBe e (learn-can-be l i w);
  introduces = λ l server_id. start-can-be l.phase l server_id;
}
