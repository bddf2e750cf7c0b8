use Rattle.std.proofs.Common.{◌≤◌, vec_len}
use Rattle.intake.specs.Links.{links_of, SameWait, TakesNoMessage, KeepersAreAmong}
use Rattle.intake.proofs.Kept.{IsDoneFrom}
use Rattle.intake.proofs.links.Links.put_all_kept.Given as goal

abbrev pub invariant-loop-left : goal.invariant-loop-left
invariant-loop-left l = record {
  rests : TakesNoMessage (links_of l.initial.self-inside.map) (links_of l.self-inside.map);
  waits : SameWait (links_of l.initial.self-inside.map) (links_of l.self-inside.map);
  within : l.left ≤ vec_len l.self-inside.keeping;
  among : KeepersAreAmong l.self-inside.keeping.items (links_of l.self-inside.map);
  done : IsDoneFrom l.left l.self-inside.keeping.items (links_of l.self-inside.map);
}

abbrev pub decreases-loop-left : goal.decreases-loop-left
decreases-loop-left l = l.left
