-- Whatever is learnt, the learner follows its log.
use Rattle.std.proofs.Common.{◌≡◌, ℕ, ℤ, List, [], ◌∷◌, ◌++◌, Result, Ok, Err, Bool, true, false, cond, refl, sym, ap, subst, ◌∙◌, int_lt, ◌<ℤ◌, ◌≤ℤ◌}
use Rattle.std.specs.Prelude.{pos, negsuc}
use Rattle.std.specs.Int.{int_max}
use Rattle.std.specs.Ordering.{int_eq}
use Rattle.settings.specs.Settings.{EpochPair}
use Rattle.settings.specs.declared.dialect.Dialect.{Dialect}
use Rattle.values.specs.declared.fault.Fault.{Fault}
use Rattle.values.specs.declared.fault.Fault.TheVariants.{OutOfOrder, CommitMismatch, CannotTruncate, EpochTooSmall}
use Rattle.jute.specs.Format.{int, long, boolean, pair_of, ◌>>=◌}
use Rattle.quorum_packet.specs.declared.item.Item.{Item}
use Rattle.quorum_packet.specs.declared.item.Item.TheVariants as item
use Rattle.snapshot_codec.specs.declared.part.ImagePart.{ImagePart}
use Rattle.snapshot_codec.specs.declared.part.ImagePart.TheVariants as part
use Rattle.txn_codec.specs.declared.txn.Txn.{Txn}
use Rattle.learner_sync.specs.Answers.{ack_epoch}
use Rattle.learner_sync.specs.Learner.{Learner, new_learner}
use Rattle.learner_sync.specs.Learn.{LearnerStep, no_acts, single_act, at_phase, start_in, accept_epoch, leader_info, message_in_hello, txns_up_to, zxid_after, with_truncated_log, truncate_log, await_image, message_in_sync, zxid_floor, phase_after_zxid, with_applied, apply_txn, carried_txn, learn_inform, learn_activation, learn_revalidated, learn_proposal, commit_of, message_in_replay, message_in_serving, load_part, message_in_phase, part_in_phase, learn_item, checkpoint_in}
use Rattle.learner_sync.specs.Messages.{message_of_packet}
use Rattle.learner_sync.specs.Laws.{PhaseFitsLog, FollowsItsLog, LogsAreFollowed, TruncatesToFronts}
use Rattle.learner_sync.specs.declared.act.Act.TheVariants as act
use Rattle.learner_sync.specs.declared.message.Message.{Message}
use Rattle.learner_sync.specs.declared.message.Message.TheVariants as message
use Rattle.learner_sync.specs.declared.phase.Phase.{Phase}
use Rattle.learner_sync.specs.declared.phase.Phase.TheVariants as phase
use Rattle.learner_sync.proofs.Zxids.{lt_of, le_of, below_max, max_same, max_left, max_above, zero_le, max_over, le_lt, zxid-push, rises-push, rises-up_to, front-up_to}

-- A result that isn't refused follows its log.
abbrev Follows : Result LearnerStep Fault → Type 0
Follows (Ok x) = FollowsItsLog x.after
Follows (Err e) = Unit {0}

-- The same log, in another phase.
moved : (l : Learner) (ph : Phase) → PhaseFitsLog ph l.log → FollowsItsLog l → FollowsItsLog (at_phase l ph)
moved l ph s f = record { rising = f.rising; last = f.last; based = f.based; stands = s }

-- ---- transactions

above : (ph : Phase) (log : List Txn) (last zxid : ℤ) → PhaseFitsLog ph log → zxid_after (pos 0) log ≤ℤ last
    → zxid_floor ph last <ℤ zxid → zxid_after (pos 0) log <ℤ zxid
above (phase.ReplayOnImage applied) log last zxid s le lt = subst (λ a. a <ℤ zxid) s lt
above ph log last zxid s le lt = le_lt (zxid_after (pos 0) log) last zxid le lt

stands-push : (ph : Phase) (log : List Txn) (t : Txn) → PhaseFitsLog ph log
    → PhaseFitsLog (phase_after_zxid ph t.header.zxid) (log ++ t ∷ [])
stands-push (phase.ReplayOnImage applied) log t s = sym (zxid-push (pos 0) log t)
stands-push (phase.Image zxid) log t s = s
stands-push ph log t s = tt

applied-follows : (l : Learner) (t : Txn) → zxid_floor l.phase l.last_zxid <ℤ t.header.zxid → FollowsItsLog l
    → FollowsItsLog (with_applied l t)
applied-follows l t lt f =
    let below : zxid_after (pos 0) l.log ≤ℤ l.last_zxid =
    subst (λ z. zxid_after (pos 0) l.log ≤ℤ z) (sym f.last) (below_max l.base_zxid (zxid_after (pos 0) l.log)) in
    let over = above l.phase l.log l.last_zxid t.header.zxid f.stands below lt in
    record {
      rising = rises-push (pos 0) l.log t f.rising over;
      last =
          ap (λ z. int_max z t.header.zxid) f.last
          ∙ max_over l.base_zxid (zxid_after (pos 0) l.log) t.header.zxid over
          ∙ sym (ap (int_max l.base_zxid) (zxid-push (pos 0) l.log t));
      based = f.based;
      stands = stands-push l.phase l.log t f.stands;
    }

apply-follows : (l : Learner) (t : Txn) → FollowsItsLog l → Follows (apply_txn l t)
apply-follows l t f = by (int_lt (zxid_floor l.phase l.last_zxid) t.header.zxid) refl
  where
    by : (b : Bool) → int_lt (zxid_floor l.phase l.last_zxid) t.header.zxid ≡ b
        → Follows (cond b (Ok (single_act act.Apply (with_applied l t))) (Err OutOfOrder))
    by true e = applied-follows l t (lt_of _ _ e) f
    by false e = tt

inform-follows : (l : Learner) (bytes : List ℕ) → FollowsItsLog l → Follows (learn_inform l bytes)
inform-follows l bytes f = by (carried_txn l bytes)
  where
    by : (r : Result Txn Fault) → Follows (r >>= λ t. apply_txn l t)
    by (Ok t) = apply-follows l t f
    by (Err e) = tt

activate-follows : (l : Learner) (bytes : List ℕ) → FollowsItsLog l → Follows (learn_activation l bytes)
activate-follows l bytes f = by (long.read bytes)
  where
    by : (r : Result (ℤ × List ℕ) Fault) → Follows (r >>= λ named. learn_inform l named.1)
    by (Ok named) = inform-follows l named.1 f
    by (Err e) = tt

propose-follows : (l : Learner) (bytes : List ℕ) → FollowsItsLog l → Follows (learn_proposal l bytes)
propose-follows l bytes f = by (carried_txn l bytes)
  where
    by : (r : Result Txn Fault) → Follows (r >>= λ t. Ok (no_acts (record l { proposals = l.proposals ++ t ∷ [] })))
    by (Ok t) = record { rising = f.rising; last = f.last; based = f.based; stands = f.stands }
    by (Err e) = tt

commit-follows : (l : Learner) (ts : List Txn) (zxid : ℤ) → FollowsItsLog l → Follows (commit_of l ts zxid)
commit-follows l [] zxid f = tt
commit-follows l (t ∷ others) zxid f = by (int_eq t.header.zxid zxid)
  where
    by : (b : Bool) → Follows (cond b (apply_txn (record l { proposals = others }) t) (Err CommitMismatch))
    by true = apply-follows (record l { proposals = others }) t (record {
      rising = f.rising;
      last = f.last;
      based =
          f.based;
      stands = f.stands;
    })
    by false = tt

-- ---- hello and sync

greeted-follows : (l : Learner) (epoch : ℤ) → FollowsItsLog l → FollowsItsLog (accept_epoch l epoch).after
greeted-follows l epoch f = by (int_lt l.accepted_epoch epoch)
  where
    by : (b : Bool) → FollowsItsLog (cond b (record {
      acts = act.Epochs ∷ act.Send (ack_epoch l l.current_epoch) ∷ [];
      after = record l { phase = phase.Sync; accepted_epoch = epoch };
    }) (single_act (act.Send (ack_epoch l (negsuc 0))) (at_phase l phase.Sync))).after
    by true = record { rising = f.rising; last = f.last; based = f.based; stands = tt }
    by false = moved l phase.Sync tt f

info-follows : (l : Learner) (epoch : ℤ) (bytes : List ℕ) → FollowsItsLog l → Follows (leader_info l epoch bytes)
info-follows l epoch bytes f = by (int_lt epoch l.accepted_epoch)
  where
    read : (r : Result (ℤ × List ℕ) Fault) → Follows (r >>= λ version. Ok (accept_epoch l epoch))
    read (Ok version) = greeted-follows l epoch f
    read (Err e) = tt

    by : (b : Bool) → Follows (cond b (Err EpochTooSmall) (int.read bytes >>= λ version. Ok (accept_epoch l epoch)))
    by true = tt
    by false = read (int.read bytes)

hello-follows : (l : Learner) (m : Message) → FollowsItsLog l → Follows (message_in_hello l m)
hello-follows l (message.LeaderInfo epoch bytes) f = info-follows l epoch bytes f
hello-follows l m f = tt

last-kept : (base : ℤ) (kept : List Txn) → pos 0 ≤ℤ base
    → int_max base (zxid_after base kept) ≡ int_max base (zxid_after (pos 0) kept)
last-kept base [] le = max_same base ∙ sym (max_left base (pos 0) le)
last-kept base (t ∷ kept) le = refl

truncate-follows : (l : Learner) (zxid : ℤ) → FollowsItsLog l → Follows (truncate_log l zxid)
truncate-follows l zxid f = by (int_lt zxid l.base_zxid)
  where
    by : (b : Bool) → Follows
        (cond b (Err CannotTruncate) (Ok
        (single_act (act.Truncate zxid) (with_truncated_log l (txns_up_to zxid l.log)))))
    by true = tt
    by false = record {
      rising = rises-up_to zxid (pos 0) l.log f.rising;
      last = last-kept l.base_zxid (txns_up_to zxid l.log) f.based;
      based = f.based;
      stands = tt;
    }

await-follows : (l : Learner) (zxid : ℤ) → FollowsItsLog l → Follows (await_image l zxid)
await-follows l zxid f = by (int_lt zxid (pos 0)) refl
  where
    by : (b : Bool) → int_lt zxid (pos 0) ≡ b
        → Follows (cond b (Err OutOfOrder) (Ok (no_acts (at_phase l (phase.Image zxid)))))
    by true e = tt
    by false e = moved l (phase.Image zxid) (le_of zxid (pos 0) e) f

sync-follows : (l : Learner) (m : Message) → FollowsItsLog l → Follows (message_in_sync l m)
sync-follows l message.Diff f = moved l phase.Replay tt f
sync-follows l (message.Trunc zxid) f = truncate-follows l zxid f
sync-follows l (message.Snap zxid) f = await-follows l zxid f
sync-follows l m f = tt

-- ---- replay and serving

replay-follows : (l : Learner) (m : Message) → FollowsItsLog l → Follows (message_in_replay l m)
replay-follows l (message.Proposal bytes) f = propose-follows l bytes f
replay-follows l (message.Commit zxid) f = commit-follows l l.proposals zxid f
replay-follows l (message.Inform bytes) f = inform-follows l bytes f
replay-follows l (message.InformAndActivate bytes) f = activate-follows l bytes f
replay-follows l message.NewLeader f = record {
  rising = f.rising;
  last = f.last;
  based = f.based;
  stands =
      f.stands;
}
replay-follows l message.UpToDate f = record { rising = f.rising; last = f.last; based = f.based; stands = tt }
replay-follows l m f = f

confirm-follows : (l : Learner) (bytes : List ℕ) → FollowsItsLog l → Follows (learn_revalidated l bytes)
confirm-follows l bytes f = by ((pair_of long boolean).read bytes)
  where
    by : (r : Result ((ℤ × Bool) × List ℕ) Fault)
        → Follows (r >>= λ answer. Ok (single_act (act.Revalidated answer.0.0 answer.0.1) l))
    by (Ok answer) = f
    by (Err e) = tt

serve-follows : (l : Learner) (m : Message) → FollowsItsLog l → Follows (message_in_serving l m)
serve-follows l (message.Ping p) f = f
serve-follows l (message.Inform bytes) f = inform-follows l bytes f
serve-follows l (message.InformAndActivate bytes) f = activate-follows l bytes f
serve-follows l (message.Revalidated bytes) f = confirm-follows l bytes f
serve-follows l m f = f

-- ---- images

load-follows : (p : ImagePart) (l : Learner) (zxid : ℤ) → pos 0 ≤ℤ zxid → FollowsItsLog l
    → FollowsItsLog (load_part p l zxid).after
load-follows part.End l zxid le f = record {
  rising = tt;
  last = sym (max_left zxid (pos 0) le);
  based =
      le;
  stands = refl;
}
load-follows p l zxid le f = f

-- ---- every item

message-follows : (ph : Phase) (l : Learner) (m : Message) → FollowsItsLog l → Follows (message_in_phase ph l m)
message-follows phase.Down l m f = f
message-follows phase.Hello l m f = hello-follows l m f
message-follows phase.Sync l m f = sync-follows l m f
message-follows (phase.Image zxid) l m f = tt
message-follows (phase.ReplayOnImage applied) l m f = replay-follows l m f
message-follows phase.Replay l m f = replay-follows l m f
message-follows phase.Serving l m f = serve-follows l m f

part-follows : (ph : Phase) (l : Learner) (p : ImagePart) → PhaseFitsLog ph l.log → FollowsItsLog l
    → Follows (part_in_phase ph l p)
part-follows phase.Down l p s f = f
part-follows phase.Hello l p s f = tt
part-follows phase.Sync l p s f = tt
part-follows (phase.Image zxid) l p s f = load-follows p l zxid s f
part-follows (phase.ReplayOnImage applied) l p s f = f
part-follows phase.Replay l p s f = f
part-follows phase.Serving l p s f = f

learn-follows : (l : Learner) (i : Item) → FollowsItsLog l → Follows (learn_item l i)
learn-follows l (item.Packet p) f = message-follows l.phase l (message_of_packet l.dialect p) f
learn-follows l (item.Part p) f = part-follows l.phase l p f.stands f

start-follows : (ph : Phase) (l : Learner) (server_id : ℤ) → FollowsItsLog l
    → FollowsItsLog (start_in ph l server_id).after
start-follows phase.Down l server_id f = moved l phase.Hello tt f
start-follows ph l server_id f = f

last-above : (l : Learner) → FollowsItsLog l → pos 0 ≤ℤ l.last_zxid
last-above l f = subst (λ z. pos 0 ≤ℤ z) (sym f.last) (max_above l.base_zxid (zxid_after (pos 0) l.log) f.based)

check-follows : (ph : Phase) (l : Learner) → l.phase ≡ ph → FollowsItsLog l → FollowsItsLog (checkpoint_in ph l)
check-follows phase.Serving l e f =
    let le = last-above l f in
    let stands : PhaseFitsLog l.phase [] = subst (λ (ph : Phase). PhaseFitsLog ph []) (sym e) tt in
    record { rising = tt; last = sym (max_left l.last_zxid (pos 0) le); based = le; stands = stands }
check-follows ph l e f = f

made-follows : (dialect : Dialect) (epochs : EpochPair) → FollowsItsLog (new_learner dialect epochs)
made-follows dialect epochs = record { rising = tt; last = refl; based = zero_le; stands = tt }

learns-follow : (l : Learner) (i : Item) (x : LearnerStep) → FollowsItsLog l → learn_item l i ≡ Ok x
    → FollowsItsLog x.after
learns-follow l i x f e = subst Follows e (learn-follows l i f)

pub logs_are_followed : LogsAreFollowed
logs_are_followed = record {
  made = made-follows;
  primed = λ dialect. record { rising = tt; last = refl; based = zero_le; stands = tt };
  starts = λ l server_id. start-follows l.phase l server_id;
  learns = learns-follow;
  ends = λ l f. record { rising = f.rising; last = f.last; based = f.based; stands = tt };
  checks = λ l. check-follows l.phase l refl;
}

pub truncates_to_fronts : TruncatesToFronts
truncates_to_fronts l zxid f = front-up_to zxid (pos 0) l.log f.rising
