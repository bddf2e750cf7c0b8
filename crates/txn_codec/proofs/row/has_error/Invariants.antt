use Rattle.std.proofs.Common.{◌≡◌, drop}
use Rattle.txn_codec.specs.Row.{has_error}
use Rattle.txn_codec.proofs.row.has_error.Given as goal

abbrev pub invariant-loop-part : goal.invariant-loop-part
invariant-loop-part l = has_error (drop l.part-index l.parts) ≡ has_error l.parts
