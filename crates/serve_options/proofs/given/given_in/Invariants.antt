use Rattle.std.proofs.Common.{◌≡◌, ◌++◌, length, map, string_bytes}
use Rattle.std.specs.Prelude.{flat_map, All}
use Rattle.serve_options.specs.Rows.{option_kind}
use Rattle.serve_options.specs.Given.{words_of_option, IsValueOf, IsOnce}
use Rattle.serve_options.proofs.given.given_in.Given as goal

-- The options so far are spelled by the words that were read, and the words that are left follow them.
abbrev pub invariant-loop-word : goal.invariant-loop-word
invariant-loop-word l = record {
  spelled : map string_bytes l.fn.words ≡ flat_map words_of_option l.given.items ++ map string_bytes l.rest;
  fit : All (λ option. IsValueOf (option_kind option.name) option.value) l.given.items;
  once : IsOnce l.given.items;
}

abbrev pub decreases-loop-word : goal.decreases-loop-word
decreases-loop-word l = length l.rest
