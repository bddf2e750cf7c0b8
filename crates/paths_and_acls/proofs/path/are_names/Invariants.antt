use Rattle.std.proofs.Common.{◌≡◌, drop, true}
use Rattle.paths_and_acls.proofs.Names.{goes_on}
use Rattle.paths_and_acls.proofs.path.are_names.Given as goal

abbrev pub invariant-loop-byte : goal.invariant-loop-byte
invariant-loop-byte l = goes_on l.after_slash (drop l.byte-index l.text) ≡ goes_on true l.text
