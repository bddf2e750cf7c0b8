use Rattle.std.proofs.Common.{◌≡◌, length, take}
use Rattle.std.specs.List.{fold}
use Rattle.pairs.specs.Fed.{with_byte}
use Rattle.pairs.proofs.text_key.counted_word.Given as goal

abbrev pub invariant-loop-byte : goal.invariant-loop-byte
invariant-loop-byte l = l.word ≡ fold with_byte (length l.rest) (take l.byte-index l.rest)
