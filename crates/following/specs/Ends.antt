-- What the end of a leader means.
use Rattle.std.specs.Prelude.{Option, Some, None}
use Rattle.values.specs.declared.fault.Fault.{Fault}
use Rattle.values.specs.declared.fault.Fault.TheVariants.{Short, BadLength, BadText, BadPath, BadTxnType, TrailingBytes, OutOfOrder, CommitMismatch, CannotTruncate, BadImage, EpochTooSmall, UnexpectedPacket}
use Rattle.following.specs.declared.ends.Verdict.{Verdict}
use Rattle.following.specs.declared.ends.Verdict.TheVariants.{SameEngine, Pause, NewProcess}

-- An engine that read nothing wrong goes on. An image that contradicts itself (F10) and an old epoch (F11) are that
-- server's fault, so another one is tried after a pause. What can't be read (F1 to F8, F12) would come again, and what
-- was cut too far (F9) can't be: only an empty engine is sent an image in place of them.
abbrev pub verdict_after : Option Fault → Verdict
verdict_after None = SameEngine
verdict_after (Some Short) = NewProcess
verdict_after (Some BadLength) = NewProcess
verdict_after (Some BadText) = NewProcess
verdict_after (Some BadPath) = NewProcess
verdict_after (Some BadTxnType) = NewProcess
verdict_after (Some TrailingBytes) = NewProcess
verdict_after (Some OutOfOrder) = NewProcess
verdict_after (Some CommitMismatch) = NewProcess
verdict_after (Some CannotTruncate) = NewProcess
verdict_after (Some BadImage) = Pause
verdict_after (Some EpochTooSmall) = Pause
verdict_after (Some UnexpectedPacket) = NewProcess
