use Rattle.std.proofs.Common.{◌≤◌, arith}
use Rattle.serve_options.proofs.Fewest.{least_then, least_else, fewest_then, fewest_else, nearest_is, all_names}
use Rattle.serve_options.proofs.near.nearest.Goals.{then-edits-fewest, else-edits-fewest}
use Rattle.serve_options.proofs.near.nearest.Goals as goal

pub loop-name-preserved : goal.loop-name-preserved
loop-name-preserved c =
    let before = c.loop-name.invariant in
    let edits = c.in_ok-edits.ensures in
    elim c.if-edits-fewest.branch [
      | then-edits-fewest w ↦ record {
        least =
            least_then _ _ _ _ _ _ c.loop-name-test.true edits w.fewest-is w.if-edits-fewest.true before.least;
        found =
            fewest_then _ c.loop-name.found _ _ _ _ _ _ c.loop-name-test.true edits w.found-is w.fewest-is
            w.if-edits-fewest.true before.least before.found;
      }
      | else-edits-fewest w ↦ record {
        least =
            least_else _ _ _ _ _ _ c.loop-name-test.true edits w.fewest-is w.if-edits-fewest.false before.least;
        found = fewest_else _ _ _ _ _ w.found-is w.fewest-is before.found;
      }
    ]

-- All names were compared.
pub returns : goal.returns
returns c =
    let all : 32 ≤ c.loop-name.name-index = omega arith in
    nearest_is _ _ _ c.loop-name.invariant.found (all_names _ _ _ all c.loop-name.invariant.least)
