use Rattle.std.proofs.Common.{rules, ◌≡◌, ap, arith, length}
use Rattle.apply_board.specs.declared.group.Group.TheVariants.{Home}
use Rattle.read_workers.specs.declared.work.Looked.TheVariants.{Answered}
use Rattle.read_workers.proofs.Answering.{one_more_work, all_are_answered}
use Rattle.read_workers.proofs.readers.all_answers.Goals as goal

pub loop-group-preserved : goal.loop-group-preserved
loop-group-preserved c =
    let at = c.loop-group in
    let steps = c.in-Some.ensures.steps in
    let short = ap length steps.0 in
    let gone = steps.1 in
    let was = at.invariant.len in
    let is : c.in-Some.group ≡ Home (Answered c.in-Home-Answered.answers) = search rules in
    record {
      answers = one_more_work _ _ c.in-Home-Answered.answers _ _ _ c.args.groups.items steps.0 is
          c.in_ok-append-in-Home-Answered.ensures.items at.invariant.answers;
      answered = all_are_answered c.in-Home-Answered.answers _ _ _ c.args.groups.items steps.0 is at.invariant.answered;
      len = omega arith;
    }
