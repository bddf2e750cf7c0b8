-- A predicate that holds for each act of a packet.
use Rattle.std.proofs.Common.{ℕ, ℤ, List, [], ◌∷◌, ◌++◌, Option, Some, Result, Ok, Err, Bool, true, false, cond, int_lt}
use Rattle.std.specs.Prelude.{pos, negsuc}
use Rattle.std.specs.List.{AllByRecursion}
use Rattle.std.specs.Ordering.{int_eq}
use Rattle.values.specs.declared.fault.Fault.{Fault}
use Rattle.values.specs.declared.fault.Fault.TheVariants.{OutOfOrder, CommitMismatch, CannotTruncate, EpochTooSmall}
use Rattle.settings.specs.Dialects.{reads_of}
use Rattle.settings.specs.declared.dialect.Reads.{Reads}
use Rattle.jute.specs.Format.{int, long, boolean, pair_of, ◌>>=◌}
use Rattle.quorum_packet.specs.declared.packet.QuorumPacket.{QuorumPacket}
use Rattle.quorum_packet.specs.declared.kind.PacketKind.{PacketKind}
use Rattle.quorum_packet.specs.declared.kind.PacketKind.TheVariants as kinds
use Rattle.quorum_packet.specs.Kinds.{kind_of}
use Rattle.quorum_packet.specs.Packet.{carried_bytes}
use Rattle.txn_codec.specs.declared.txn.Txn.{Txn}
use Rattle.learner_sync.specs.Answers.{ack_epoch, epoch_ack}
use Rattle.learner_sync.specs.Learner.{Learner}
use Rattle.learner_sync.specs.Learn.{LearnerStep, no_acts, single_act, at_phase, accept_epoch, leader_info, message_in_hello, txns_up_to, with_truncated_log, truncate_log, await_image, message_in_sync, zxid_floor, with_applied, apply_txn, carried_txn, learn_inform, learn_activation, learn_revalidated, learn_proposal, commit_of, message_in_replay, message_in_serving, message_in_phase}
use Rattle.learner_sync.specs.Messages.{message_if, message_of_kind, message_of_packet}
use Rattle.learner_sync.specs.declared.act.Act.{Act}
use Rattle.learner_sync.specs.declared.act.Act.TheVariants as act
use Rattle.learner_sync.specs.declared.message.Message.{Message}
use Rattle.learner_sync.specs.declared.message.Message.TheVariants as message
use Rattle.learner_sync.specs.declared.phase.Phase.{Phase}
use Rattle.learner_sync.specs.declared.phase.Phase.TheVariants as phase

module _ (P : Act → Type 0) (applies : P act.Apply) (epochs : P act.Epochs) (serves : P act.ServeFrom)
    (settles : P act.SettleSync) (confirms : (session : ℤ) (is_valid : Bool) → P (act.Revalidated session is_valid))
    (truncates : (zxid : ℤ) → P (act.Truncate zxid))
    (answers : (l : Learner) (epoch : ℤ) → P (act.Send (ack_epoch l epoch)))
    (acknowledges : (l : Learner) → P (act.Send (epoch_ack l))) where
  -- It holds for each act of a result that isn't refused.
  abbrev pub Each : Result LearnerStep Fault → Type 0
  Each (Ok x) = AllByRecursion P x.acts
  Each (Err e) = Unit {0}

  apply-each : (l : Learner) (t : Txn) → Each (apply_txn l t)
  apply-each l t = by (int_lt (zxid_floor l.phase l.last_zxid) t.header.zxid)
    where
      by : (b : Bool) → Each (cond b (Ok (single_act act.Apply (with_applied l t))) (Err OutOfOrder))
      by true = (applies, tt)
      by false = tt

  inform-each : (l : Learner) (bytes : List ℕ) → Each (learn_inform l bytes)
  inform-each l bytes = by (carried_txn l bytes)
    where
      by : (r : Result Txn Fault) → Each (r >>= λ t. apply_txn l t)
      by (Ok t) = apply-each l t
      by (Err e) = tt

  activate-each : (l : Learner) (bytes : List ℕ) → Each (learn_activation l bytes)
  activate-each l bytes = by (long.read bytes)
    where
      by : (r : Result (ℤ × List ℕ) Fault) → Each (r >>= λ named. learn_inform l named.1)
      by (Ok named) = inform-each l named.1
      by (Err e) = tt

  propose-each : (l : Learner) (bytes : List ℕ) → Each (learn_proposal l bytes)
  propose-each l bytes = by (carried_txn l bytes)
    where
      by : (r : Result Txn Fault) → Each (r >>= λ t. Ok (no_acts (record l { proposals = l.proposals ++ t ∷ [] })))
      by (Ok t) = tt
      by (Err e) = tt

  commit-each : (l : Learner) (ts : List Txn) (zxid : ℤ) → Each (commit_of l ts zxid)
  commit-each l [] zxid = tt
  commit-each l (t ∷ others) zxid = by (int_eq t.header.zxid zxid)
    where
      by : (b : Bool) → Each (cond b (apply_txn (record l { proposals = others }) t) (Err CommitMismatch))
      by true = apply-each (record l { proposals = others }) t
      by false = tt

  greeted-each : (l : Learner) (epoch : ℤ) → AllByRecursion P (accept_epoch l epoch).acts
  greeted-each l epoch = by (int_lt l.accepted_epoch epoch)
    where
      answered : Bool → LearnerStep
      answered b = cond b (record {
        acts = act.Epochs ∷ act.Send (ack_epoch l l.current_epoch) ∷ [];
        after = record l { phase = phase.Sync; accepted_epoch = epoch };
      }) (single_act (act.Send (ack_epoch l (negsuc 0))) (at_phase l phase.Sync))

      by : (b : Bool) → AllByRecursion P (answered b).acts
      by true = (epochs, (answers l l.current_epoch, tt))
      by false = (answers l (negsuc 0), tt)

  info-each : (l : Learner) (epoch : ℤ) (bytes : List ℕ) → Each (leader_info l epoch bytes)
  info-each l epoch bytes = by (int_lt epoch l.accepted_epoch)
    where
      read : (r : Result (ℤ × List ℕ) Fault) → Each (r >>= λ version. Ok (accept_epoch l epoch))
      read (Ok version) = greeted-each l epoch
      read (Err e) = tt

      by : (b : Bool) → Each (cond b (Err EpochTooSmall) (int.read bytes >>= λ version. Ok (accept_epoch l epoch)))
      by true = tt
      by false = read (int.read bytes)

  hello-each : (l : Learner) (m : Message) → Each (message_in_hello l m)
  hello-each l (message.LeaderInfo epoch bytes) = info-each l epoch bytes
  hello-each l m = tt

  truncate-each : (l : Learner) (zxid : ℤ) → Each (truncate_log l zxid)
  truncate-each l zxid = by (int_lt zxid l.base_zxid)
    where
      by : (b : Bool)
          → Each (cond b (Err CannotTruncate)
          (Ok (single_act (act.Truncate zxid) (with_truncated_log l (txns_up_to zxid l.log)))))
      by true = tt
      by false = (truncates zxid, tt)

  await-each : (l : Learner) (zxid : ℤ) → Each (await_image l zxid)
  await-each l zxid = by (int_lt zxid (pos 0))
    where
      by : (b : Bool) → Each (cond b (Err OutOfOrder) (Ok (no_acts (at_phase l (phase.Image zxid)))))
      by true = tt
      by false = tt

  sync-each : (l : Learner) (m : Message) → Each (message_in_sync l m)
  sync-each l message.Diff = tt
  sync-each l (message.Trunc zxid) = truncate-each l zxid
  sync-each l (message.Snap zxid) = await-each l zxid
  sync-each l m = tt

  replay-each : (l : Learner) (m : Message) → Each (message_in_replay l m)
  replay-each l (message.Proposal bytes) = propose-each l bytes
  replay-each l (message.Commit zxid) = commit-each l l.proposals zxid
  replay-each l (message.Inform bytes) = inform-each l bytes
  replay-each l (message.InformAndActivate bytes) = activate-each l bytes
  replay-each l message.NewLeader = (epochs, (acknowledges l, tt))
  replay-each l message.UpToDate = (epochs, (acknowledges l, (serves, tt)))
  replay-each l m = tt

  confirm-each : (l : Learner) (bytes : List ℕ) → Each (learn_revalidated l bytes)
  confirm-each l bytes = by ((pair_of long boolean).read bytes)
    where
      by : (r : Result ((ℤ × Bool) × List ℕ) Fault)
          → Each (r >>= λ answer. Ok (single_act (act.Revalidated answer.0.0 answer.0.1) l))
      by (Ok answer) = (confirms answer.0.0 answer.0.1, tt)
      by (Err e) = tt

  -- It holds for the answer, where the message asks for one.
  abbrev Answered : Message → Type 0
  Answered (message.Ping p) = P (act.AnswerPing p)
  Answered m = Unit {0}

  serve-each : (l : Learner) (m : Message) → Answered m → Each (message_in_serving l m)
  serve-each l (message.Ping p) ping = (ping, tt)
  serve-each l message.Sync ping = (settles, tt)
  serve-each l (message.Inform bytes) ping = inform-each l bytes
  serve-each l (message.InformAndActivate bytes) ping = activate-each l bytes
  serve-each l (message.Revalidated bytes) ping = confirm-each l bytes
  serve-each l m ping = tt

  message-each : (ph : Phase) (l : Learner) (m : Message) → Answered m → Each (message_in_phase ph l m)
  message-each phase.Down l m ping = tt
  message-each phase.Hello l m ping = hello-each l m
  message-each phase.Sync l m ping = sync-each l m
  message-each (phase.Image zxid) l m ping = tt
  message-each (phase.ReplayOnImage applied) l m ping = replay-each l m
  message-each phase.Replay l m ping = replay-each l m
  message-each phase.Serving l m ping = serve-each l m ping

  answered-if : (b : Bool) (m : Message) → Answered m → Answered (message_if b m)
  answered-if true m asks = asks
  answered-if false m asks = tt

  answered : (reads : Reads) (k : Option PacketKind) (p : QuorumPacket) → P (act.AnswerPing p)
      → Answered (message_of_kind reads k p)
  answered reads (Some kinds.Ping) p ping = ping
  answered reads (Some kinds.Revalidate) p ping =
      answered-if reads.moved_sessions (message.Revalidated (carried_bytes p.bytes)) tt
  answered reads (Some kinds.CommitAndActivate) p ping =
      answered-if reads.extended_types (message.Commit p.zxid) tt
  answered reads (Some kinds.InformAndActivate) p ping =
      answered-if reads.extended_types (message.InformAndActivate (carried_bytes p.bytes)) tt
  answered reads k p ping = tt

  pub packet-each : (l : Learner) (p : QuorumPacket) → P (act.AnswerPing p)
      → Each (message_in_phase l.phase l (message_of_packet l.dialect p))
  packet-each l p ping =
      message-each l.phase l (message_of_packet l.dialect p) (answered (reads_of l.dialect) (kind_of p.kind) p ping)
