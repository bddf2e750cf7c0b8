-- The packets that a learner sends to its leader.
use Rattle.std.specs.Prelude.{ℕ, ℤ, pos, negsuc, List, [], ◌∷◌, ◌++◌, Some, None}
use Rattle.jute.specs.Format.{int, long}
use Rattle.jute.specs.declared.owned.Id.{Id}
use Rattle.quorum_packet.specs.declared.packet.QuorumPacket.{QuorumPacket}
use Rattle.quorum_packet.specs.declared.kind.PacketKind.TheVariants as kinds
use Rattle.quorum_packet.specs.Kinds.{code_of}
use Rattle.learner_sync.specs.Learner.{Learner}
use Rattle.learner_sync.specs.Records.{learner_info}
use Rattle.learner_sync.specs.Zxids.{first_zxid}

abbrev pub protocol_version : ℤ
protocol_version = pos 0x10000

-- A learner introduces itself, with the epoch that it has accepted.
abbrev pub observer_info : Learner → ℤ → QuorumPacket
observer_info l server_id = record {
  kind = code_of kinds.ObserverInfo;
  zxid = first_zxid l.accepted_epoch;
  bytes = Some (learner_info.written (record { server_id = server_id; protocol_version = protocol_version }));
  authinfo = None;
}

-- The leader's epoch is answered with the learner's last zxid and an epoch.
abbrev pub ack_epoch : Learner → ℤ → QuorumPacket
ack_epoch l epoch = record {
  kind = code_of kinds.AckEpoch;
  zxid = l.last_zxid;
  bytes = Some (int.written epoch);
  authinfo = None;
}

-- The leader's epoch is acknowledged.
abbrev pub epoch_ack : Learner → QuorumPacket
epoch_ack l = record {
  kind = code_of kinds.Ack;
  zxid = first_zxid l.accepted_epoch;
  bytes = None;
  authinfo = None;
}

-- A PING is sent back with a table of sessions in place of its data.
abbrev pub ping_reply : QuorumPacket → List ℕ → QuorumPacket
ping_reply p table = record p { bytes = Some table }

-- ---- requests that are forwarded

-- The type of a request for a session, and of its transaction.
abbrev pub create_session : ℤ
create_session = negsuc 9

-- A client's request: its session, its frame as it came, and the ids that it has shown.
abbrev pub request_of : ℤ → List ℕ → List Id → QuorumPacket
request_of session frame ids = record {
  kind = code_of kinds.Request;
  zxid = negsuc 0;
  bytes = Some (long.written session ++ frame);
  authinfo = Some ids;
}

-- A session is asked for by its id, the xid 0, the type and the timeout.
abbrev pub session_request : ℤ → ℤ → QuorumPacket
session_request session time_out = record {
  kind = code_of kinds.Request;
  zxid = negsuc 0;
  bytes = Some
      (long.written session ++ (int.written (pos 0) ++ (int.written create_session ++ int.written time_out)));
  authinfo = None;
}

-- The leader is asked whether a session that a client brought lives. The client is told the timeout.
abbrev pub session_question : ℤ → ℤ → QuorumPacket
session_question session time_out = record {
  kind = code_of kinds.Revalidate;
  zxid = negsuc 0;
  bytes = Some (long.written session ++ int.written time_out);
  authinfo = None;
}

-- ---- the table of a PING's answer

-- For each row the session's id, and then its timeout.
abbrev pub session_rows : List (ℤ × ℤ) → List ℕ
session_rows [] = []
session_rows (row ∷ rest) = long.written row.0 ++ (int.written row.1 ++ session_rows rest)
