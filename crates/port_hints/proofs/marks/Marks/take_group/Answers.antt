use Rattle.std.proofs.Common.{inl, sym, ap, ◌∙◌}
use Rattle.std.specs.Option.{option_copied}
use Rattle.port_hints.proofs.Kept.{marked_in_push}
use Rattle.port_hints.proofs.marks.Marks.take_group.Goals.{then-take+in-Some+else-is_err, then-take+in_default, else-take}
use Rattle.port_hints.proofs.marks.Marks.take_group.Goals as goal

pub loop-place-init : goal.loop-place-init
loop-place-init c = record { kept = λ n h. h; added = λ n h. inl h }

pub returns-then-is_err : goal.returns-then-is_err
returns-then-is_err c = marked_in_push _ c.push.result _ _ _ _ c.push.ensures.items (c.saturating_add.result, rw (← c.self.view_is) (sym c.get.ensures ∙ ap option_copied c.in-Some.is)) c.loop-place.invariant

pub loop-place-preserved : goal.loop-place-preserved
loop-place-preserved c = elim c.if-take.branch [
  | then-take+in-Some+else-is_err w ↦
      rw w.numbers-is
      (marked_in_push _ w.push.result _ _ _ _ w.push.ensures.items (w.saturating_add.result, rw (← c.self.view_is) (sym w.get.ensures ∙ ap option_copied w.in-Some.is)) c.loop-place.invariant)
  | then-take+in_default w ↦ rw w.numbers-is c.loop-place.invariant
  | else-take w ↦ rw w.numbers-is c.loop-place.invariant
]
