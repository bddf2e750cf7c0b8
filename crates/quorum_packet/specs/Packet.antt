-- The QuorumPacket of zookeeper.jute.
use Rattle.std.specs.Prelude.{ℕ, List, [], Option, Some, None}
use Rattle.jute.specs.Format.{Format, int, long, buffer, vector_of, pair_of, mapped_format}
use Rattle.jute.specs.Owned.{id_format}
use Rattle.quorum_packet.specs.declared.packet.QuorumPacket.{QuorumPacket}

unfoldable pub packet_format : Format QuorumPacket
packet_format = mapped_format (λ v. record { kind = v.0; zxid = v.1.0; bytes = v.1.1.0; authinfo = v.1.1.1 })
    (λ p. (p.kind, (p.zxid, (p.bytes, p.authinfo))))
    (pair_of int (pair_of long (pair_of buffer (vector_of id_format))))

-- The data of a packet; null reads as empty.
abbrev pub carried_bytes : Option (List ℕ) → List ℕ
carried_bytes None = []
carried_bytes (Some bytes) = bytes
