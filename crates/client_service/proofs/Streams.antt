-- The frames of a client may be read in pieces.
use Rattle.std.proofs.Common.{arith}
use Rattle.jute.specs.Laws.{IsSound}
use Rattle.jute.specs.Frame.{frame_format}
use Rattle.jute.specs.Stream.{IsStream}
use Rattle.jute.proofs.Public.{frame_sound, only_streamed}
use Rattle.client_service.specs.Serve.{frames_of_client, client_frame_limit}

pub client_frame_sound : IsSound (frame_format client_frame_limit)
client_frame_sound = frame_sound client_frame_limit (omega arith)

pub frames_streamed : IsStream frames_of_client
frames_streamed = only_streamed (frame_format client_frame_limit)
    (record { pieced = client_frame_sound.pieced; some = client_frame_sound.some })
