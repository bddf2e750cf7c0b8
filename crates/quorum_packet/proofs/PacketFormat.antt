-- The format of packets is sound.
use Rattle.std.proofs.Common.{refl}
use Rattle.jute.specs.Laws.{IsSound}
use Rattle.jute.proofs.Public.{int_sound, long_sound, buffer_sound, both_sound, mapped_sound, vector_sound, id_sound}
use Rattle.quorum_packet.specs.Packet.{packet_format}

pub packet_sound : IsSound packet_format
unfolding packet_format
packet_sound =
    mapped_sound _ _ _ (λ v. refl) (λ p. refl)
    (both_sound _ _ int_sound (both_sound _ _ long_sound (both_sound _ _ buffer_sound (vector_sound _ id_sound))))
