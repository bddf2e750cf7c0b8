-- The model of a seat.
use Rattle.atomic_table.specs.Seated.{TableId}
use Rattle.apply_board.specs.declared.view.View.{View}

-- The identity of a board, which no other board has.
abbrev pub BoardId : Type 0
BoardId = TableId

-- The board of the seat, and its view.
pub record Sitting (W F : Type 0) : Type 0 where
  pub board : BoardId
  pub view : View W F
