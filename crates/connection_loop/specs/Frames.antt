-- The ends of a client's frames, and which of them are sent on together.
use Rattle.std.specs.Prelude.{ℕ, suc, List, [], ◌∷◌, length, ◌-◌, Ok, Err, Bool, true, false, if◌then◌else◌}
use Rattle.settings.specs.declared.dialect.Dialect.{Dialect}
use Rattle.jute.specs.Stream.{Unread, items_within}
use Rattle.client_service.specs.Serve.{frames_of_client}
use Rattle.connection_loop.specs.declared.kind.FrameKind.{FrameKind}
use Rattle.connection_loop.specs.declared.kind.FrameKind.TheVariants.{Light, Forwarded, Local, Heavy}
use Rattle.connection_loop.specs.declared.kind.Gate.{Gate}
use Rattle.connection_loop.specs.declared.kind.Gate.TheVariants.{Narrow, Ahead, Open}
use Rattle.connection_loop.specs.Kinds.{kind_of_frame}

-- The number of bytes read; all of them if a length is out of bounds.
abbrev pub bytes_read : List ℕ → Unread → ℕ
bytes_read bytes (Ok rest) = length bytes - length rest
bytes_read bytes (Err e) = length bytes

-- The length of the longest prefix of at most this many whole frames.
abbrev pub whole_frames_length : ℕ → List ℕ → ℕ
whole_frames_length most bytes = bytes_read bytes (items_within frames_of_client most tt bytes).left.unread

-- ---- the frames that go together

-- The engine would hold a frame that this server answers while the leader owes an answer to one before. So such a frame
-- is sent on only where none is owed, or where it has a place. One of unbounded cost has none.
abbrev pub goes_with : FrameKind → Gate → Bool
goes_with Light gate = true
goes_with Forwarded gate = true
goes_with Local Narrow = false
goes_with Local Ahead = true
goes_with Local Open = true
goes_with Heavy Narrow = false
goes_with Heavy Ahead = false
goes_with Heavy Open = true

-- The gate after a frame, before its answer. Those that go ahead all have places, also after one for the leader.
abbrev pub gate_after : FrameKind → Gate → Gate
gate_after Light gate = gate
gate_after Forwarded Narrow = Narrow
gate_after Forwarded Ahead = Ahead
gate_after Forwarded Open = Narrow
gate_after Local gate = gate
gate_after Heavy gate = Narrow

-- Where a length is out of bounds, the connection ends at the bytes after the frames. They go as one more frame.
abbrev pub ending_going : Gate → Unread → ℕ
ending_going gate (Ok rest) = 0
ending_going gate (Err e) = if goes_with Heavy gate then 1 else 0

-- A frame of unbounded cost goes last.
abbrev pub goes_last : FrameKind → Bool
goes_last Light = false
goes_last Forwarded = false
goes_last Local = false
goes_last Heavy = true

abbrev pub going_after : FrameKind → Gate → ℕ → ℕ
going_after kind gate others =
    if goes_with kind gate then if goes_last kind then 1 else suc others else 0

-- How many of these frames go together, with what is left after them.
abbrev pub count_going : Dialect → List (List ℕ) → Unread → Gate → ℕ
count_going dialect [] left gate = ending_going gate left
count_going dialect (f ∷ fs) left gate =
    let kind = kind_of_frame dialect f in
    going_after kind gate (count_going dialect fs left (gate_after kind gate))

abbrev pub frames_going : Dialect → ℕ → Gate → List ℕ → ℕ
frames_going dialect most gate bytes =
    let items = items_within frames_of_client most tt bytes in
    count_going dialect items.found items.left.unread gate
