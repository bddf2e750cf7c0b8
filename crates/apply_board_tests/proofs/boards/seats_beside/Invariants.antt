use Rattle.std.proofs.Common.{◌≡◌}
use Rattle.apply_board.specs.Seats.{IsOpener}
use Rattle.apply_board_tests.proofs.boards.seats_beside.Given as goal

abbrev pub invariant-loop-made : goal.invariant-loop-made
invariant-loop-made l = (l.opener.board ≡ l.board) × IsOpener l.opener
