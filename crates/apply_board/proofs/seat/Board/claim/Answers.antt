use Rattle.std.proofs.Common.{ap, sym, ◌∙◌, ◌∷◌, arith, Some}
use Rattle.atomic_table.specs.Table.{rest}
use Rattle.apply_board.specs.declared.group.Group.TheVariants.{Unclaimed}
use Rattle.apply_board.specs.Views.{result_numbers}
use Rattle.apply_board.proofs.Claiming.{claims}
use Rattle.apply_board.proofs.seat.Board.claim.Goals as goal

pub returns-then-seat-clause-none : goal.returns-then-seat-clause-none
returns-then-seat-clause-none g c = let e = ap (λ s. s.view.spent) (sym c.seat.view_is)
    ∙ (c.seat.invariant.spent_is ∙ c.if-seat.true) in λ i. record c.args.seat.now.view { spent = e i }

pub fetch_add-found-requires : goal.fetch_add-found-requires
fetch_add-found-requires g c = let v = c.seat.view_is in let w = c.self.invariant.words_is in (
  ap (λ s. s.board) v ∙ (c.requires.own ∙ sym c.self.view_is),
  omega arith,
  claims _ _ _ _ _ c.seat.invariant.seated (c.seat.invariant.spent_is ∙ c.if-seat.false) (ap (λ s. s.view.claimed) v
      ∙ (c.requires.idle ∙ ap (λ s. result_numbers s.view.given) (sym v))),
)

pub exchange-requires : goal.exchange-requires
exchange-requires g c = let t = c.fetch_add-found.ensures in let below = c.if-found-slot_count.false in
    let n = c.slot_count.ensures in
    let own = ap (λ s. s.board) c.seat.view_is ∙ (c.requires.own ∙ sym c.self.view_is) in
    let slots = ap (λ z. z.slots) own in
    let h = t.2.takes (omega arith) in let e = ap (λ m. m.1) h.new_is in (
      t.0 ∙ own,
      (
        Some (Unclaimed h.work),
        e ∙ sym
            (ap (λ l. (c.fetch_add-found.result, Some (Unclaimed h.work)) ∷ rest l) e),
      ),
    )
