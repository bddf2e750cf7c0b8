-- The frame of a look: a header and a body (zookeeper.jute, ReplyHeader).
use Rattle.std.specs.Prelude.{ℕ, ℤ, List, ◌++◌, Option}
use Rattle.std.specs.Option.{option_map}
use Rattle.jute.specs.Frame.{frame_bytes}
use Rattle.jute.specs.declared.message.ReplyHeader.{ReplyHeader}
use Rattle.jute.specs.Records.{reply_header}
use Rattle.read_processor.specs.declared.shown.Look.{Look}

-- A header, and a body after it.
abbrev pub with_header : ReplyHeader → List ℕ → List ℕ
with_header header body = reply_header.written header ++ body

-- The header has the last zxid. There is no frame if the body is too long.
abbrev pub reply_frame : ℤ → ℤ → Look → Option (List ℕ)
reply_frame xid zxid look =
    option_map (λ body. frame_bytes (with_header (record { xid = xid; zxid = zxid; err = look.error }) body)) look.body
