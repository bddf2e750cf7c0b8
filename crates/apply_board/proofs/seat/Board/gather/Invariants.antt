use Rattle.std.proofs.Common.{◌≡◌, ◌<◌, true, reverse}
use Rattle.apply_board.specs.Seats.{IsIdle}
use Rattle.apply_board.specs.Inner.Fields.{with_sittings}
use Rattle.apply_board.proofs.Each.{Each}
use Rattle.apply_board.proofs.seat.Board.gather.Given as goal

abbrev pub invariant-loop-other : goal.invariant-loop-other
invariant-loop-other g l = record {
  own : l.place.table_id ≡ l.fn.place.table_id;
  id : l.place.id ≡ l.fn.place.id;
  hand : l.place.me.1 ≡ l.fn.place.me.1;
  made : 0 < l.place.me.0.made;
  seated : l.place.me.0.seated ≡ true;
  others : Each (λ s. (s.board ≡ l.self) × IsIdle s) (reverse l.others.items);
  same : with_sittings l.place.me.0 (reverse l.others.items) ≡ with_sittings l.fn.place.me.0 l.fn.others.items;
}

abbrev pub decreases-loop-other : goal.decreases-loop-other
decreases-loop-other g l = goal.left-loop-other g l
