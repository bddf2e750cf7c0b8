use Rattle.std.proofs.Common.{inl}
use Rattle.port_hints.proofs.Kept.{marked_after}
use Rattle.port_hints.proofs.marks.Marks.take.Goals.{then-take_any+else-is_err, else-take_any}
use Rattle.port_hints.proofs.marks.Marks.take.Goals as goal

pub loop-index-init : goal.loop-index-init
loop-index-init c = record { kept = λ n h. h; added = λ n h. inl h }

pub returns-then-is_err : goal.returns-then-is_err
returns-then-is_err c = marked_after _ _ _ _ c.loop-index.invariant c.take_group.ensures

pub loop-index-preserved : goal.loop-index-preserved
loop-index-preserved c = elim c.if-take_any.branch [
  | then-take_any+else-is_err w ↦ rw w.numbers-is (marked_after _ _ _ _ c.loop-index.invariant w.take_group.ensures)
  | else-take_any w ↦ rw w.numbers-is c.loop-index.invariant
]
