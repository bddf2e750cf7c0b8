use Rattle.std.proofs.Common.{◌≡◌, length, map, string_bytes}
use Rattle.serve_options.specs.Filed.{word_after}
use Rattle.serve_options.proofs.filed.value_given.Given as goal

-- The word stands among those that are left.
abbrev pub invariant-loop-word : goal.invariant-loop-word
invariant-loop-word l =
    word_after l.option (map string_bytes l.fn.words) ≡ word_after l.option (map string_bytes l.rest)

abbrev pub decreases-loop-word : goal.decreases-loop-word
decreases-loop-word l = length l.rest
