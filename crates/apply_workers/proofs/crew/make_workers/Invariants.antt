use Rattle.std.proofs.Common.{◌≡◌, ◌<◌, ◌≤◌, ◌+◌, ◌-◌, length, vec_len}
use Rattle.std.specs.Vec.{vec_capacity}
use Rattle.apply_board.specs.Seats.{IsIdle, IsOpener}
use Rattle.apply_workers.proofs.Crews.{EachFits}
use Rattle.apply_workers.proofs.crew.make_workers.Given as goal

abbrev pub invariant-loop-opener : goal.invariant-loop-opener
invariant-loop-opener g l = record {
  own : l.opener.board ≡ l.board;
  first : IsOpener l.opener;
  unjoined : l.opener.view.unjoined ≡ length l.crew.items + 1;
  idle : IsIdle l.opener;
  works : l.opener.view.works ≡ l.fn.opener.view.works;
  others : EachFits l.board l.crew.items;
  room : vec_len l.crew < l.workers;
  capacity : l.workers ≤ vec_capacity l.crew;
}

abbrev pub decreases-loop-opener : goal.decreases-loop-opener
decreases-loop-opener g l = l.workers - vec_len l.crew
