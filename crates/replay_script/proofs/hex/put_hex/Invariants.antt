use Rattle.std.proofs.Common.{◌≡◌, ◌++◌, take}
use Rattle.values.specs.Hex.{hex_digits}
use Rattle.replay_script.proofs.hex.put_hex.Given as goal

abbrev pub invariant-loop-byte : goal.invariant-loop-byte
invariant-loop-byte l = l.out.items ≡ l.fn.out.items ++ hex_digits (take l.byte-index l.bytes)
