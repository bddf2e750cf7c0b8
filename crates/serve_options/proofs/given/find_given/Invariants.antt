use Rattle.std.proofs.Common.{◌≡◌, drop}
use Rattle.serve_options.specs.Given.{given_of}
use Rattle.serve_options.proofs.given.find_given.Given as goal

abbrev pub invariant-loop-option : goal.invariant-loop-option
invariant-loop-option l = given_of l.name l.given ≡ given_of l.name (drop l.option-index l.given)
