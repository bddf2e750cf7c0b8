use Rattle.std.proofs.Common.{ap, sym, ◌∙◌, arith, subst, ◌+◌, false}
use Rattle.apply_board.specs.Inner.Fields.{IsSitting}
use Rattle.apply_board.proofs.Hands.{sits_new, sits_seating}
use Rattle.apply_board.proofs.Seating.{splits, make_moment}
use Rattle.apply_board.proofs.seat.Board.seat.Goals as goal

pub split_seat-place-requires : goal.split_seat-place-requires
split_seat-place-requires g c = let v = c.opener.view_is in let w = c.self.invariant.words_is in
    let made = ap (λ s. s.view.made) v in let is = c.opener.invariant.made_is in
    let some = c.requires.opener in let few = c.if-opener-ge-MOST_SEATS.false in (
      ap (λ s. s.board) v ∙ (c.requires.own ∙ sym c.self.view_is),
      omega arith,
      splits _ _ _ _ (omega arith)
          (omega arith) c.opener.invariant.seated,
    )

pub invariant_of-result : goal.invariant_of-result
invariant_of-result g c = let made = ap (λ s. s.view.made) c.opener.view_is in let is = c.opener.invariant.made_is in
    let some = c.requires.opener in let few = c.if-opener-ge-MOST_SEATS.false in let gives = g.W.Yields.gives in
    let slots = c.split_seat-place.result.table_id.slots in
    let moments = make_moment gives c.opener.inside.place.me.0 (omega arith) (omega arith) c.opener.invariant.seated
    c.opener.invariant.history in
    subst (λ m. IsSitting gives slots m.0 m.1 false 0) (sym c.split_seat-place.ensures.4) (sits_new gives slots
    c.opener.inside.place.me.0 moments.1)

pub invariant_of-opener : goal.invariant_of-opener
invariant_of-opener g c = let made = ap (λ s. s.view.made) c.opener.view_is in let is = c.opener.invariant.made_is in
    let some = c.requires.opener in let few = c.if-opener-ge-MOST_SEATS.false in let gives = g.W.Yields.gives in
    let e = c.split_seat-place.ensures in let inside = c.opener.inside in
    let moments = make_moment gives inside.place.me.0 (omega arith) (omega arith) c.opener.invariant.seated
    c.opener.invariant.history in
    subst (λ z. IsSitting gives z.slots c.split_seat-place.new.seat.me.0 c.split_seat-place.new.seat.me.1 inside.spent
    (inside.made + 1)) (sym e.0)
    (subst (λ m. IsSitting gives inside.place.table_id.slots m.0 m.1 inside.spent (inside.made + 1)) (sym e.2)
    (sits_seating gives inside.place.table_id.slots inside.place.me.0 inside.place.me.1 inside.spent inside.made
    c.opener.invariant moments.0))

pub returns-clause-history : goal.returns-clause-history
returns-clause-history g c = (invariant_of-result g c).history

pub returns-clause-opener_history : goal.returns-clause-opener_history
returns-clause-opener_history g c = (invariant_of-opener g c).history
