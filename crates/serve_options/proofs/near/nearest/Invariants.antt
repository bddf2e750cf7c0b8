use Rattle.serve_options.proofs.Fewest.{IsFewest, IsLeast}
use Rattle.serve_options.proofs.near.nearest.Given as goal

-- The nearest of the names so far.
abbrev pub invariant-loop-name : goal.invariant-loop-name
invariant-loop-name l = record {
  least : IsLeast l.word l.name-index l.fewest;
  found : IsFewest l.word l.found l.fewest;
}
