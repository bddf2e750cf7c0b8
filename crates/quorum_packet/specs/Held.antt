-- The model of the waiting bytes and the fault.
use Rattle.std.specs.Prelude.{ℕ, List, Option, Some, None, Ok, Err}
use Rattle.values.specs.declared.fault.Fault.{Fault}
use Rattle.jute.specs.Stream.{Unread}

abbrev pub unread_of : List ℕ → Option Fault → Unread
unread_of bytes None = Ok bytes
unread_of bytes (Some e) = Err e
