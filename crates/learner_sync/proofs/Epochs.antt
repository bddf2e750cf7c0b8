-- The accepted epoch never decreases, and the dialect stays.
use Rattle.std.proofs.Common.{◌≡◌, ℕ, ℤ, List, [], ◌∷◌, ◌++◌, Result, Ok, Err, Bool, true, false, cond, refl, subst, int_lt, ◌≤ℤ◌}
use Rattle.std.specs.Prelude.{pos, negsuc}
use Rattle.std.specs.Ordering.{int_eq}
use Rattle.values.specs.declared.fault.Fault.{Fault}
use Rattle.values.specs.declared.fault.Fault.TheVariants.{OutOfOrder, CommitMismatch, CannotTruncate, EpochTooSmall}
use Rattle.jute.specs.Format.{int, long, boolean, pair_of, ◌>>=◌}
use Rattle.quorum_packet.specs.declared.item.Item.{Item}
use Rattle.quorum_packet.specs.declared.item.Item.TheVariants as item
use Rattle.snapshot_codec.specs.declared.part.ImagePart.{ImagePart}
use Rattle.snapshot_codec.specs.declared.part.ImagePart.TheVariants as part
use Rattle.txn_codec.specs.declared.txn.Txn.{Txn}
use Rattle.learner_sync.specs.Answers.{ack_epoch}
use Rattle.learner_sync.specs.Learner.{Learner}
use Rattle.learner_sync.specs.Learn.{LearnerStep, no_acts, single_act, at_phase, start_in, accept_epoch, leader_info, message_in_hello, txns_up_to, with_truncated_log, truncate_log, await_image, message_in_sync, zxid_floor, with_applied, apply_txn, carried_txn, learn_inform, learn_activation, learn_revalidated, learn_proposal, commit_of, message_in_replay, message_in_serving, load_part, message_in_phase, part_in_phase, learn_item, checkpoint_in}
use Rattle.learner_sync.specs.Messages.{message_of_packet}
use Rattle.learner_sync.specs.Laws.{EpochsDontFall, DialectStays}
use Rattle.learner_sync.specs.declared.act.Act.TheVariants as act
use Rattle.learner_sync.specs.declared.message.Message.{Message}
use Rattle.learner_sync.specs.declared.message.Message.TheVariants as message
use Rattle.learner_sync.specs.declared.phase.Phase.{Phase}
use Rattle.learner_sync.specs.declared.phase.Phase.TheVariants as phase
use Rattle.learner_sync.proofs.Zxids.{lt_of, lt_le, le_refl}

abbrev Keeps : Learner → Learner → Type 0
Keeps l after = (after.dialect ≡ l.dialect) × (l.accepted_epoch ≤ℤ after.accepted_epoch)

-- In a result that isn't refused the dialect is the same, and the accepted epoch isn't below the one before.
abbrev Holds : Learner → Result LearnerStep Fault → Type 0
Holds l (Ok x) = Keeps l x.after
Holds l (Err e) = Unit {0}

same : (l : Learner) → Keeps l l
same l = (refl, le_refl l.accepted_epoch)

apply-holds : (l : Learner) (t : Txn) → Holds l (apply_txn l t)
apply-holds l t = by (int_lt (zxid_floor l.phase l.last_zxid) t.header.zxid)
  where
    by : (b : Bool) → Holds l (cond b (Ok (single_act act.Apply (with_applied l t))) (Err OutOfOrder))
    by true = same l
    by false = tt

inform-holds : (l : Learner) (bytes : List ℕ) → Holds l (learn_inform l bytes)
inform-holds l bytes = by (carried_txn l bytes)
  where
    by : (r : Result Txn Fault) → Holds l (r >>= λ t. apply_txn l t)
    by (Ok t) = apply-holds l t
    by (Err e) = tt

activate-holds : (l : Learner) (bytes : List ℕ) → Holds l (learn_activation l bytes)
activate-holds l bytes = by (long.read bytes)
  where
    by : (r : Result (ℤ × List ℕ) Fault) → Holds l (r >>= λ named. learn_inform l named.1)
    by (Ok named) = inform-holds l named.1
    by (Err e) = tt

propose-holds : (l : Learner) (bytes : List ℕ) → Holds l (learn_proposal l bytes)
propose-holds l bytes = by (carried_txn l bytes)
  where
    by : (r : Result Txn Fault) → Holds l (r >>= λ t. Ok (no_acts (record l {
      proposals =
          l.proposals ++ t ∷ [];
    })))
    by (Ok t) = same l
    by (Err e) = tt

commit-holds : (l : Learner) (ts : List Txn) (zxid : ℤ) → Holds l (commit_of l ts zxid)
commit-holds l [] zxid = tt
commit-holds l (t ∷ others) zxid = by (int_eq t.header.zxid zxid)
  where
    by : (b : Bool) → Holds l
        (cond b (apply_txn (record l { proposals = others }) t) (Err CommitMismatch))
    by true = apply-holds (record l { proposals = others }) t
    by false = tt

greeted-holds : (l : Learner) (epoch : ℤ) → Keeps l (accept_epoch l epoch).after
greeted-holds l epoch = by (int_lt l.accepted_epoch epoch) refl
  where
    by : (b : Bool) → int_lt l.accepted_epoch epoch ≡ b → Keeps l (cond b (record {
      acts = act.Epochs ∷ act.Send (ack_epoch l l.current_epoch) ∷ [];
      after = record l { phase = phase.Sync; accepted_epoch = epoch };
    }) (single_act (act.Send (ack_epoch l (negsuc 0))) (at_phase l phase.Sync))).after
    by true e = (refl, lt_le l.accepted_epoch epoch (lt_of l.accepted_epoch epoch e))
    by false e = same l

info-holds : (l : Learner) (epoch : ℤ) (bytes : List ℕ) → Holds l (leader_info l epoch bytes)
info-holds l epoch bytes = by (int_lt epoch l.accepted_epoch)
  where
    read : (r : Result (ℤ × List ℕ) Fault) → Holds l (r >>= λ version. Ok (accept_epoch l epoch))
    read (Ok version) = greeted-holds l epoch
    read (Err e) = tt

    by : (b : Bool) → Holds l
        (cond b (Err EpochTooSmall) (int.read bytes >>= λ version. Ok (accept_epoch l epoch)))
    by true = tt
    by false = read (int.read bytes)

hello-holds : (l : Learner) (m : Message) → Holds l (message_in_hello l m)
hello-holds l (message.LeaderInfo epoch bytes) = info-holds l epoch bytes
hello-holds l m = tt

truncate-holds : (l : Learner) (zxid : ℤ) → Holds l (truncate_log l zxid)
truncate-holds l zxid = by (int_lt zxid l.base_zxid)
  where
    by : (b : Bool) → Holds l
        (cond b (Err CannotTruncate) (Ok
        (single_act (act.Truncate zxid) (with_truncated_log l (txns_up_to zxid l.log)))))
    by true = tt
    by false = same l

await-holds : (l : Learner) (zxid : ℤ) → Holds l (await_image l zxid)
await-holds l zxid = by (int_lt zxid (pos 0))
  where
    by : (b : Bool) → Holds l (cond b (Err OutOfOrder) (Ok (no_acts (at_phase l (phase.Image zxid)))))
    by true = tt
    by false = same l

sync-holds : (l : Learner) (m : Message) → Holds l (message_in_sync l m)
sync-holds l message.Diff = same l
sync-holds l (message.Trunc zxid) = truncate-holds l zxid
sync-holds l (message.Snap zxid) = await-holds l zxid
sync-holds l m = tt

replay-holds : (l : Learner) (m : Message) → Holds l (message_in_replay l m)
replay-holds l (message.Proposal bytes) = propose-holds l bytes
replay-holds l (message.Commit zxid) = commit-holds l l.proposals zxid
replay-holds l (message.Inform bytes) = inform-holds l bytes
replay-holds l (message.InformAndActivate bytes) = activate-holds l bytes
replay-holds l m = same l

confirm-holds : (l : Learner) (bytes : List ℕ) → Holds l (learn_revalidated l bytes)
confirm-holds l bytes = by ((pair_of long boolean).read bytes)
  where
    by : (r : Result ((ℤ × Bool) × List ℕ) Fault)
        → Holds l (r >>= λ answer. Ok (single_act (act.Revalidated answer.0.0 answer.0.1) l))
    by (Ok answer) = same l
    by (Err e) = tt

serve-holds : (l : Learner) (m : Message) → Holds l (message_in_serving l m)
serve-holds l (message.Inform bytes) = inform-holds l bytes
serve-holds l (message.InformAndActivate bytes) = activate-holds l bytes
serve-holds l (message.Revalidated bytes) = confirm-holds l bytes
serve-holds l m = same l

load-holds : (p : ImagePart) (l : Learner) (zxid : ℤ) → Keeps l (load_part p l zxid).after
load-holds part.End l zxid = same l
load-holds p l zxid = same l

message-holds : (ph : Phase) (l : Learner) (m : Message) → Holds l (message_in_phase ph l m)
message-holds phase.Down l m = same l
message-holds phase.Hello l m = hello-holds l m
message-holds phase.Sync l m = sync-holds l m
message-holds (phase.Image zxid) l m = tt
message-holds (phase.ReplayOnImage applied) l m = replay-holds l m
message-holds phase.Replay l m = replay-holds l m
message-holds phase.Serving l m = serve-holds l m

part-holds : (ph : Phase) (l : Learner) (p : ImagePart) → Holds l (part_in_phase ph l p)
part-holds phase.Hello l p = tt
part-holds phase.Sync l p = tt
part-holds (phase.Image zxid) l p = load-holds p l zxid
part-holds ph l p = same l

learn-holds : (l : Learner) (i : Item) → Holds l (learn_item l i)
learn-holds l (item.Packet p) = message-holds l.phase l (message_of_packet l.dialect p)
learn-holds l (item.Part p) = part-holds l.phase l p

start-keeps : (ph : Phase) (l : Learner) (server_id : ℤ)
    → ((start_in ph l server_id).after.dialect ≡ l.dialect)
    × ((start_in ph l server_id).after.accepted_epoch ≡ l.accepted_epoch)
start-keeps phase.Down l server_id = (refl, refl)
start-keeps ph l server_id = (refl, refl)

check-keeps : (ph : Phase) (l : Learner)
    → ((checkpoint_in ph l).dialect ≡ l.dialect) × ((checkpoint_in ph l).accepted_epoch ≡ l.accepted_epoch)
check-keeps phase.Serving l = (refl, refl)
check-keeps ph l = (refl, refl)

pub epochs_dont_fall : EpochsDontFall
epochs_dont_fall = record {
  starts = λ l server_id. (start-keeps l.phase l server_id).1;
  learns = λ l i x e. (subst (Holds l) e (learn-holds l i)).1;
  ends = λ l. refl;
  checks = λ l. (check-keeps l.phase l).1;
}

pub dialect_stays : DialectStays
dialect_stays = record {
  starts = λ l server_id. (start-keeps l.phase l server_id).0;
  learns = λ l i x e. (subst (Holds l) e (learn-holds l i)).0;
  ends = λ l. refl;
  checks = λ l. (check-keeps l.phase l).0;
}
