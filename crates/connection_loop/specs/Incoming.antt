-- The bytes of a connection that weren't sent on yet, and the pieces in which they are sent on.
use Rattle.std.specs.Prelude.{ℕ, ◌+◌, ◌-◌, ◌==◌, ◌&&◌, min, nat_lt, nat_le, if◌then◌else◌, Bool, List, [], length, take, drop, Option, None, Some, true, false}
use Rattle.std.specs.Int.{w32, from_be_bytes}
use Rattle.settings.specs.declared.dialect.Dialect.{Dialect}
use Rattle.connection_loop.specs.declared.incoming.Cutting.{Cutting}
use Rattle.connection_loop.specs.declared.incoming.Cutting.TheVariants.{Frames, Reads}
use Rattle.connection_loop.specs.declared.incoming.Piece.{Piece}
use Rattle.connection_loop.specs.declared.kind.Gate.{Gate}
use Rattle.connection_loop.specs.Frames.{whole_frames_length, goes_with, frames_going}
use Rattle.connection_loop.specs.Kinds.{kind_of_frame}

pub record Unsent : Type 0 where
  -- In the order in which they were read.
  pub bytes : List ℕ
  -- How many bytes of a frame that was sent on in part come after the last one sent.
  pub missing : ℕ
  pub cutting : Cutting

-- The most bytes that wait.
abbrev pub buffer_length : ℕ
buffer_length = 16384

abbrev pub nothing_unsent : Cutting → Unsent
nothing_unsent cutting = record { bytes = []; missing = 0; cutting = cutting }

-- ---- pieces, by the number of bytes that wait

abbrev pub piece_of_reads : ℕ → Piece
piece_of_reads waiting = record { len = waiting; frames = 0; ends_frame = false; missing = 0 }

abbrev pub piece_of_whole_frames : ℕ → ℕ → Piece
piece_of_whole_frames len frames = record { len = len; frames = frames; ends_frame = true; missing = 0 }

-- All waiting bytes: the front of a frame of this length.
abbrev pub piece_of_front : ℕ → ℕ → Piece
piece_of_front waiting frame = record { len = waiting; frames = 1; ends_frame = false; missing = frame - waiting }

-- As much as waits of the missing bytes of a frame.
abbrev pub piece_of_rest : ℕ → ℕ → Piece
piece_of_rest waiting missing =
    record { len = min waiting missing; frames = 0; ends_frame = nat_le missing waiting; missing = missing - waiting }

-- ---- the next piece, of at most so many frames, through this gate

-- The length of the frame that the bytes begin with, its length prefix included.
abbrev pub first_frame_length : List ℕ → ℕ
first_frame_length bytes = if nat_lt (length bytes) 4 then 0 else from_be_bytes w32 (take 4 bytes) + 4

-- Whether a frame may be sent on in parts.
abbrev pub may_begin : Dialect → ℕ → Gate → List ℕ → Bool
may_begin dialect most gate bytes = nat_lt 0 most && goes_with (kind_of_frame dialect (drop 4 bytes)) gate

-- A part of a frame is only sent on if it fills the buffer, and isn't all of it.
abbrev pub piece_of_long_frame : Dialect → ℕ → Gate → List ℕ → Option Piece
piece_of_long_frame dialect most gate bytes =
    if nat_le buffer_length (length bytes) && nat_lt (length bytes) (first_frame_length bytes)
    && may_begin dialect most gate bytes
    then Some (piece_of_front (length bytes) (first_frame_length bytes)) else None

-- The next piece where these whole frames go together, which are so many bytes.
abbrev pub piece_of_frames : Dialect → ℕ → Gate → List ℕ → ℕ → ℕ → Option Piece
piece_of_frames dialect most gate bytes frames len =
    if len == 0 then piece_of_long_frame dialect most gate bytes else Some (piece_of_whole_frames len frames)

-- The next piece of a client's bytes: the missing bytes of a frame come first.
abbrev pub piece_for_client : Dialect → ℕ → Gate → List ℕ → ℕ → Option Piece
piece_for_client dialect most gate bytes missing =
    let frames = frames_going dialect most gate bytes in
    if missing == 0 then piece_of_frames dialect most gate bytes frames (whole_frames_length frames bytes)
    else Some (piece_of_rest (length bytes) missing)

abbrev pub last_piece : List ℕ → Option Piece
last_piece bytes = if length bytes == 0 then None else Some (piece_of_reads (length bytes))

abbrev pub piece_by : Cutting → ℕ → Gate → List ℕ → ℕ → Option Piece
piece_by (Frames dialect) most gate bytes missing =
    if length bytes == 0 then None else piece_for_client dialect most gate bytes missing
piece_by Reads most gate bytes missing = last_piece bytes

abbrev pub next_piece : Unsent → ℕ → Gate → Option Piece
next_piece u most gate = piece_by u.cutting most gate u.bytes u.missing
