use Rattle.std.proofs.Common.{◌≡◌}
use Rattle.std.specs.Prelude.{take}
use Rattle.sessions.specs.Sessions.{bytes_of_ids}
use Rattle.sessions.proofs.table.bytes_of_ids.Given as goal

abbrev pub invariant-loop-id : goal.invariant-loop-id
invariant-loop-id l = l.bytes ≡ bytes_of_ids (take l.id-index l.ids)
