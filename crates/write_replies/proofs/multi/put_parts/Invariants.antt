use Rattle.std.proofs.Common.{◌≡◌, ◌++◌, drop}
use Rattle.write_replies.specs.Results.{results_of_parts}
use Rattle.write_replies.proofs.multi.put_parts.Given as goal

abbrev pub invariant-loop-part : goal.invariant-loop-part
invariant-loop-part l =
    l.so_far ++ results_of_parts l.failed (drop l.part-index l.parts) l.left
    ≡ l.fn.body ++ results_of_parts l.failed l.parts l.outcomes
