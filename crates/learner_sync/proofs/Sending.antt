-- The packets that a learner sends can be written.
use Rattle.std.proofs.Common.{◌≡◌, ℕ, ℤ, List, ◌++◌, ◌+◌, length, length-append, ◌<◌, ◌≤◌, ◌^◌, refl, sym, subst, arith}
use Rattle.std.specs.Prelude.{All, pos}
use Rattle.jute.specs.Format.{int, long, number_bytes}
use Rattle.jute.specs.Owned.{id_format}
use Rattle.jute.specs.declared.owned.Id.{Id}
use Rattle.quorum_packet.specs.Packet.{packet_format}
use Rattle.quorum_packet.specs.declared.packet.QuorumPacket.{QuorumPacket}
use Rattle.learner_sync.specs.Answers.{protocol_version, observer_info, ack_epoch, epoch_ack, ping_reply, create_session, request_of, session_request, session_question}
use Rattle.learner_sync.specs.Learner.{Learner}
use Rattle.learner_sync.specs.Records.{learner_info}

info-length : (server_id : ℤ)
    → length (learner_info.written (record { server_id = server_id; protocol_version = protocol_version })) ≡ 12
unfolding learner_info number_bytes
info-length server_id = refl

int-length : (z : ℤ) → length (int.written z) ≡ 4
unfolding number_bytes
int-length z = refl

pub introduction-writable : (l : Learner) (server_id : ℤ) → packet_format.Writable (observer_info l server_id)
unfolding packet_format
introduction-writable l server_id = (tt, (tt, (omega (arith, info-length server_id), tt)))

pub epoch-writable : (l : Learner) (epoch : ℤ) → packet_format.Writable (ack_epoch l epoch)
unfolding packet_format
epoch-writable l epoch = (tt, (tt, (omega (arith, int-length epoch), tt)))

pub acknowledgement-writable : (l : Learner) → packet_format.Writable (epoch_ack l)
unfolding packet_format
acknowledgement-writable l = (tt, (tt, (tt, tt)))

pub ping-writable : (p : QuorumPacket) → packet_format.Writable p → (table : List ℕ) → length table < 2 ^ 31
    → packet_format.Writable (ping_reply p table)
unfolding packet_format
ping-writable p w table fits = (tt, (tt, (fits, w.1.1.1)))

-- ---- requests

long-length : (z : ℤ) → length (long.written z) ≡ 8
unfolding number_bytes
long-length z = refl

forwarded-length : (session : ℤ) (frame : List ℕ) → length (long.written session ++ frame) ≡ 8 + length frame
forwarded-length session frame =
    omega (arith, length-append (long.written session) frame, long-length session)

pub request-writable : (p : QuorumPacket) (session : ℤ) (frame : List ℕ) (ids : List Id)
    → p ≡ request_of session frame ids → length frame < 2 ^ 30 → length ids ≤ 1024 → All id_format.Writable ids
    → packet_format.Writable p
unfolding packet_format
request-writable p session frame ids is short few each =
    subst packet_format.Writable (sym is)
    (tt, (tt, (omega (arith, forwarded-length session frame, short), (omega (arith, few), each))))

asked-length : (session time_out : ℤ)
    → length
    (long.written session ++ (int.written (pos 0) ++ (int.written create_session ++ int.written time_out))) ≡ 20
unfolding number_bytes
asked-length session time_out = refl

pub session-writable : (p : QuorumPacket) (session time_out : ℤ) → p ≡ session_request session time_out
    → packet_format.Writable p
unfolding packet_format
session-writable p session time_out is =
    subst packet_format.Writable (sym is) (tt, (tt, (omega (arith, asked-length session time_out), tt)))

question-length : (session time_out : ℤ) → length (long.written session ++ int.written time_out) ≡ 12
unfolding number_bytes
question-length session time_out = refl

pub question-writable : (p : QuorumPacket) (session time_out : ℤ) → p ≡ session_question session time_out
    → packet_format.Writable p
unfolding packet_format
question-writable p session time_out is =
    subst packet_format.Writable (sym is) (tt, (tt, (omega (arith, question-length session time_out), tt)))
