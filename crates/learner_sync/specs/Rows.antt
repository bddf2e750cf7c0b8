-- Steps that were worked out by hand.
use Rattle.std.specs.Prelude.{◌≡◌, ℕ, ◌+◌, ℤ, pos, negsuc, true, false, List, [], ◌∷◌, Option, Some, None, Ok, Err, codes}
use Rattle.values.specs.Hex.{hex_bytes}
use Rattle.values.specs.declared.fault.Fault.TheVariants.{Short, OutOfOrder, CommitMismatch, CannotTruncate, EpochTooSmall, UnexpectedPacket}
use Rattle.settings.specs.declared.dialect.Dialect.{Dialect}
use Rattle.settings.specs.declared.dialect.Dialect.TheVariants.{Zk34, Zk38}
use Rattle.quorum_packet.specs.declared.item.Item.{Item}
use Rattle.quorum_packet.specs.declared.item.Item.TheVariants as item
use Rattle.quorum_packet.specs.declared.packet.QuorumPacket.{QuorumPacket}
use Rattle.quorum_packet.specs.declared.kind.PacketKind.{PacketKind}
use Rattle.quorum_packet.specs.declared.kind.PacketKind.TheVariants as kinds
use Rattle.quorum_packet.specs.Kinds.{code_of}
use Rattle.txn_codec.specs.declared.txn.Txn.{Txn}
use Rattle.txn_codec.specs.declared.txn.Body.TheVariants as bodies
use Rattle.snapshot_codec.specs.declared.part.ImagePart.TheVariants as part
use Rattle.quorum_packet.specs.Packet.{packet_format}
use Rattle.learner_sync.specs.Answers.{ping_reply, request_of, session_request, session_question}
use Rattle.learner_sync.specs.Learner.{Learner, new_learner}
use Rattle.learner_sync.specs.Learn.{single_act, no_acts, start_following, learn_item, apply_txn}
use Rattle.learner_sync.specs.declared.act.Act.TheVariants as act
use Rattle.learner_sync.specs.declared.phase.Phase.{Phase}
use Rattle.learner_sync.specs.declared.phase.Phase.TheVariants as phase

-- The zxid with this counter in epoch 1.
abbrev pub zxid_at : ℕ → ℤ
zxid_at counter = pos (0x100000000 + counter)

abbrev pub txn_at : ℕ → Txn
txn_at counter = record {
  header = record { client_id = pos 7; cxid = pos 1; zxid = zxid_at counter; time = pos 1000; rules = Zk34 };
  body = bodies.CloseSession [];
}

abbrev pub sent_packet : ℤ → ℤ → Option (List ℕ) → QuorumPacket
sent_packet kind zxid bytes = record { kind = kind; zxid = zxid; bytes = bytes; authinfo = None }

abbrev pub packet_item : PacketKind → ℤ → Option (List ℕ) → Item
packet_item kind zxid bytes = item.Packet (sent_packet (code_of kind) zxid bytes)

-- A learner of ZooKeeper 3.4 that was brought through epoch 1.
abbrev pub learner_in_phase : Phase → ℤ → ℤ → List Txn → List Txn → Learner
learner_in_phase phase last base log proposals = record {
  dialect = Zk34;
  phase = phase;
  accepted_epoch = pos 1;
  current_epoch = pos 1;
  last_zxid = last;
  base_zxid = base;
  log = log;
  proposals = proposals;
  is_complete = false;
}

abbrev pub version_bytes : Option (List ℕ)
version_bytes = Some (hex_bytes (codes "00010000"))

abbrev pub learner_in_hello : Learner
learner_in_hello = learner_in_phase phase.Hello (pos 0) (pos 0) [] []

-- The base is at 3, and the log has 4 and 5.
abbrev pub learner_with_log : Learner
learner_with_log = learner_in_phase phase.Sync (zxid_at 5) (zxid_at 3) (txn_at 4 ∷ txn_at 5 ∷ []) []

-- The image is at 5, and its SNAP came before the transactions that the leader made meanwhile.
abbrev pub learner_on_image : Learner
learner_on_image = learner_in_phase (phase.ReplayOnImage (pos 0)) (zxid_at 5) (zxid_at 5) [] (txn_at 4 ∷ [])

abbrev pub learner_with_proposals : Learner
learner_with_proposals = learner_in_phase phase.Replay (pos 0) (pos 0) [] (txn_at 1 ∷ txn_at 2 ∷ [])

abbrev pub serving_learner : Learner
serving_learner = learner_in_phase phase.Serving (zxid_at 2) (pos 0) [] []

abbrev pub in_dialect : Dialect → Learner → Learner
in_dialect dialect l = record l { dialect = dialect }

-- A client creates /a with "hi" and no ACL: its frame, without the length.
abbrev pub create_frame : List ℕ
create_frame = hex_bytes (codes "00000004 00000001 00000002 2f61 00000002 6869 ffffffff 00000000")

pub record WorkedRows : Type 0 where
  pub introduced :
      start_following (new_learner Zk34 (record { accepted = pos 0; current = pos 0 })) (pos 3)
      ≡ single_act (act.Send (sent_packet (pos 16) (pos 0) (Some (hex_bytes (codes "0000000000000003 00010000")))))
      (record (new_learner Zk34 (record { accepted = pos 0; current = pos 0 })) { phase = phase.Hello })
  -- The epoch was accepted before.
  pub same_epoch :
      learn_item learner_in_hello (packet_item kinds.LeaderInfo (zxid_at 0) version_bytes)
      ≡ Ok (single_act (act.Send (sent_packet (pos 18) (pos 0) (Some (hex_bytes (codes "ffffffff")))))
      (record learner_in_hello { phase = phase.Sync }))
  pub greater_epoch :
      learn_item learner_in_hello (packet_item kinds.LeaderInfo (pos 0x200000000) version_bytes)
      ≡ Ok (record {
        acts = act.Epochs ∷ act.Send (sent_packet (pos 18) (pos 0) (Some (hex_bytes (codes "00000001")))) ∷ [];
        after = record learner_in_hello { phase = phase.Sync; accepted_epoch = pos 2 };
      })
  -- The epoch is judged before the packet's data.
  pub smaller_epoch : learn_item learner_in_hello (packet_item kinds.LeaderInfo (pos 0) None) ≡ Err EpochTooSmall
  pub no_version : learn_item learner_in_hello (packet_item kinds.LeaderInfo (pos 0x200000000) None) ≡ Err Short
  pub too_early : learn_item learner_in_hello (packet_item kinds.Diff (zxid_at 0) None) ≡ Err UnexpectedPacket
  pub truncated_to_base :
      learn_item learner_with_log (packet_item kinds.Trunc (zxid_at 3) None)
      ≡ Ok (single_act (act.Truncate (zxid_at 3)) (learner_in_phase phase.Replay (zxid_at 3) (zxid_at 3) [] []))
  pub one_kept :
      learn_item learner_with_log (packet_item kinds.Trunc (zxid_at 4) None)
      ≡ Ok (single_act (act.Truncate (zxid_at 4))
      (learner_in_phase phase.Replay (zxid_at 4) (zxid_at 3) (txn_at 4 ∷ []) []))
  pub below_base : learn_item learner_with_log (packet_item kinds.Trunc (zxid_at 2) None) ≡ Err CannotTruncate
  -- A transaction below the base is kept, and the last zxid is the base's.
  pub base_is_greater :
      learn_item (learner_in_phase phase.Sync (zxid_at 6) (zxid_at 5) (txn_at 4 ∷ txn_at 6 ∷ []) [])
      (packet_item kinds.Trunc (zxid_at 5) None)
      ≡ Ok (single_act (act.Truncate (zxid_at 5))
      (learner_in_phase phase.Replay (zxid_at 5) (zxid_at 5) (txn_at 4 ∷ []) []))
  pub below_zero : learn_item learner_with_log (packet_item kinds.Snap (negsuc 0) None) ≡ Err OutOfOrder
  pub image_comes :
      learn_item learner_with_log (packet_item kinds.Snap (zxid_at 5) None)
      ≡ Ok (no_acts (record learner_with_log { phase = phase.Image (zxid_at 5) }))
  pub image_is_whole :
      learn_item (record learner_with_log { phase = phase.Image (zxid_at 7) }) (item.Part part.End)
      ≡ Ok (single_act act.LoadImage (learner_in_phase (phase.ReplayOnImage (pos 0)) (zxid_at 7) (zxid_at 7) [] []))
  -- A transaction that may be in the image already doesn't lower the last zxid.
  pub in_the_image :
      learn_item learner_on_image (packet_item kinds.Commit (zxid_at 4) None)
      ≡ Ok (single_act act.Apply (learner_in_phase (phase.ReplayOnImage (zxid_at 4)) (zxid_at 5) (zxid_at 5)
      (txn_at 4 ∷ []) []))
  pub out_of_order : apply_txn (record learner_on_image { phase = phase.Serving }) (txn_at 4) ≡ Err OutOfOrder
  pub other_commit : learn_item learner_with_proposals (packet_item kinds.Commit (zxid_at 2) None) ≡ Err CommitMismatch
  pub oldest_commit :
      learn_item learner_with_proposals (packet_item kinds.Commit (zxid_at 1) None)
      ≡ Ok (single_act act.Apply (learner_in_phase phase.Replay (zxid_at 1) (pos 0) (txn_at 1 ∷ []) (txn_at 2 ∷ [])))
  -- A change of the configuration is committed: in the later dialect, as any proposal.
  pub configuration_commit :
      learn_item (in_dialect Zk38 learner_with_proposals) (packet_item kinds.CommitAndActivate (zxid_at 1) None)
      ≡ Ok (single_act act.Apply
      (in_dialect Zk38 (learner_in_phase phase.Replay (zxid_at 1) (pos 0) (txn_at 1 ∷ []) (txn_at 2 ∷ []))))
  pub configuration_passed :
      learn_item learner_with_proposals (packet_item kinds.CommitAndActivate (zxid_at 1) None)
      ≡ Ok (no_acts learner_with_proposals)
  -- The data names no server: it has seven bytes.
  pub no_server_named :
      learn_item (in_dialect Zk38 learner_with_proposals)
      (packet_item kinds.InformAndActivate (zxid_at 1) (Some (hex_bytes (codes "00000000000000")))) ≡ Err Short
  pub activation_passed :
      learn_item learner_with_proposals
      (packet_item kinds.InformAndActivate (zxid_at 1) (Some (hex_bytes (codes "00000000000000"))))
      ≡ Ok (no_acts learner_with_proposals)
  pub none_proposed : learn_item (record learner_with_proposals { proposals = [] })
      (packet_item kinds.Commit (zxid_at 2) None) ≡ Err CommitMismatch
  pub up_to_date :
      learn_item learner_with_proposals (packet_item kinds.UpToDate (zxid_at 0) None)
      ≡ Ok (record {
        acts = act.Epochs ∷ act.Send (sent_packet (pos 3) (zxid_at 0) None) ∷ act.ServeFrom ∷ [];
        after = learner_in_phase phase.Serving (pos 0) (pos 0) [] [];
      })
  pub ping :
      learn_item serving_learner (packet_item kinds.Ping (zxid_at 2) None)
      ≡ Ok (single_act (act.AnswerPing (sent_packet (pos 5) (zxid_at 2) None))
      serving_learner)
  -- Null data is sent back as data of length 0.
  pub answer_to_ping : ping_reply (sent_packet (pos 5) (zxid_at 2) None) [] ≡ sent_packet (pos 5) (zxid_at 2) (Some [])
  pub sync :
      learn_item serving_learner (packet_item kinds.Sync (pos 0) None)
      ≡ Ok (single_act act.SettleSync serving_learner)
  -- A session from another server lives.
  pub session_confirmed :
      learn_item (in_dialect Zk38 serving_learner)
      (packet_item kinds.Revalidate (negsuc 0) (Some (hex_bytes (codes "0300000000000002 01"))))
      ≡ Ok (single_act (act.Revalidated (pos 0x300000000000002) true) (in_dialect Zk38 serving_learner))
  -- Before clients are served nobody waits for a sync.
  pub sync_in_replay :
      learn_item (learner_in_phase phase.Replay (zxid_at 2) (pos 0) [] []) (packet_item kinds.Sync (pos 0) None)
      ≡ Ok (no_acts (learner_in_phase phase.Replay (zxid_at 2) (pos 0) [] []))
  -- The client has shown no id, and one.
  pub forwarded :
      packet_format.written (request_of (pos 0x300000000000001) create_frame [])
      ≡ hex_bytes (codes "00000001 ffffffffffffffff 00000024 0300000000000001 00000004 00000001 00000002 2f61 00000002 6869 ffffffff 00000000 00000000")
  pub forwarded_with_id :
      packet_format.written
      (request_of (pos 0x300000000000001) create_frame (record { scheme = codes "ip"; id = codes "1.2.3.4" } ∷ []))
      ≡ hex_bytes (codes "00000001 ffffffffffffffff 00000024 0300000000000001 00000004 00000001 00000002 2f61 00000002 6869 ffffffff 00000000 00000001 00000002 6970 00000007 312e322e332e34")
  pub session_asked_about :
      packet_format.written (session_question (pos 0x100001c0fff0000) (pos 20000))
      ≡ hex_bytes (codes "00000006 ffffffffffffffff 0000000c 0100001c0fff0000 00004e20 ffffffff")
  pub session_asked_for :
      packet_format.written (session_request (pos 0x300000000000002) (pos 10000))
      ≡ hex_bytes (codes "00000001 ffffffffffffffff 00000014 0300000000000002 00000000 fffffff6 00002710 ffffffff")
