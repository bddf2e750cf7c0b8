use Rattle.std.proofs.Common.{◌≡◌, ◌+◌, ◌≤◌, length, take}
use Rattle.std.specs.List.{flat_map}
use Rattle.jute.specs.Format.{text_or_empty}
use Rattle.read_processor.specs.Limits.{body_limit}
use Rattle.read_processor.proofs.counts.texts_len.Given as goal

abbrev pub invariant-loop-text : goal.invariant-loop-text
invariant-loop-text l =
    (l.count ≡ 4 + length (flat_map text_or_empty.written (take l.text-index l.texts))) × (l.count ≤ body_limit)
