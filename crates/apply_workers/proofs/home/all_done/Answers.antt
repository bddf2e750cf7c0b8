use Rattle.std.proofs.Common.{rules, ◌≡◌, ap, arith, length}
use Rattle.apply_board.specs.declared.group.Group.TheVariants.{Home}
use Rattle.apply_workers.specs.declared.group_work.Finished.TheVariants.{Done}
use Rattle.apply_workers.proofs.CameHome.{one_more_home}
use Rattle.apply_workers.proofs.home.all_done.Goals as goal

pub loop-group-preserved : goal.loop-group-preserved
loop-group-preserved c =
    let at = c.loop-group in
    let steps = c.in-Some.ensures.steps in
    let short = ap length steps.0 in
    let gone = steps.1 in
    let was = at.invariant.len in
    let count = at.invariant.count in
    let l = c.in_ok-push-in-Home-Done.ensures.len in
    let m = c.in_ok-push-in-Home-Done-2.ensures.len in
    let is : c.in-Some.group ≡ Home (Done c.in-Home-Done.left c.in-Home-Done.answered) = search rules in
    record {
      homes = one_more_home _ _ _ _ c.in-Home-Done.left c.in-Home-Done.answered _ _ _ _ steps.0 is
          c.in_ok-push-in-Home-Done.ensures.items c.in_ok-push-in-Home-Done-2.ensures.items count at.invariant.homes;
      count = search rules;
      len = omega arith;
    }
