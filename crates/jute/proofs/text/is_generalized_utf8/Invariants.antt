use Rattle.std.proofs.Common.{◌≡◌, ◌≤◌, ◌-◌, length, take, drop}
use Rattle.std.specs.List.{list_all}
use Rattle.std.specs.Str.{is_utf8}
use Rattle.jute.specs.Texts.{between_surrogates, is_generalized_utf8}
use Rattle.jute.proofs.Utf8.{front_onto}
use Rattle.jute.proofs.text.is_generalized_utf8.Given as goal

-- What is left of the span and of the bytes behind it is to be UTF-8.
abbrev pub invariant-loop-len : goal.invariant-loop-len
invariant-loop-len l = record {
  within : l.len ≤ length l.span;
  shorter : length l.span ≤ length l.bytes;
  so_far : list_all is_utf8 (front_onto (take l.len l.span) (between_surrogates (drop l.len l.span)))
      ≡ is_generalized_utf8 l.bytes;
}

abbrev pub decreases-loop-len : goal.decreases-loop-len
decreases-loop-len l = length l.span - l.len
