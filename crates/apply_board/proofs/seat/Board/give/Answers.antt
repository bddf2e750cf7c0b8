use Rattle.std.proofs.Common.{ap, sym, ◌∙◌, ◌++◌, ◌∷◌, [], arith, Some, subst}
use lib.ListN.{get_elem?}
use Rattle.atomic_table.specs.Table.{rest}
use Rattle.apply_board.specs.declared.group.Group.TheVariants.{Home}
use Rattle.apply_board.specs.Views.{result_numbers, with_result}
use Rattle.apply_board.specs.Board.{Moment}
use Rattle.apply_board.specs.Inner.Fields.{IsSitting}
use Rattle.apply_board.proofs.Giving.{gives_back}
use Rattle.apply_board.proofs.Hands.{one_hand, held_within, gives_all, sits_given}
use Rattle.apply_board.proofs.seat.Board.give.Goals as goal

pub store-requires : goal.store-requires
store-requires g c = let x = c.exchange.ensures in let v = c.seat.view_is in let k = c.args.claim.number in
    let f = c.args.finished in
    let own = ap (λ s. s.board) v ∙ (c.requires.own ∙ sym c.self.view_is) in let slots = ap (λ z. z.slots) own in
    let holds = ap (λ s. s.view.claimed) v
    ∙ (c.requires.holds ∙ ap (λ s. result_numbers s.view.given ++ k ∷ []) (sym v)) in
    let below = held_within c.seat.inside.place.table_id.slots c.seat.inside.place.me.0 k c.seat.invariant.within
    holds in let w = c.self.invariant.words_is in (
      x.0 ∙ own,
      omega arith,
      gives_back _ _ _ _ k f _ (ap (λ m. m.1) x.3 ∙ ap (λ l. (k, Some (Home f)) ∷ rest l) (c.seat.invariant.hand_is
          ∙ one_hand c.seat.inside.place.me.0 k holds)) (ap (λ m. m.0.seated) x.3 ∙ c.seat.invariant.seated)
          (ap (λ m. m.0.claimed) x.3 ∙ (holds ∙ ap (λ m. result_numbers m.0.given ++ k ∷ []) (sym x.3)))
          (λ w a. c.requires.fits w (ap (λ s. get_elem? s.view.works k) (sym v)
          ∙ (ap (λ m. get_elem? m.0.works k) (sym x.3) ∙ a))),
    )

pub invariant_of-seat : goal.invariant_of-seat
invariant_of-seat g c = let x = c.exchange.ensures in let v = c.seat.view_is in let k = c.args.claim.number in
    let f = c.args.finished in
    let holds = ap (λ s. s.view.claimed) v
    ∙ (c.requires.holds ∙ ap (λ s. result_numbers s.view.given ++ k ∷ []) (sym v)) in
    let n = c.store.ensures.2.gone k f (ap (λ m. m.1) x.3 ∙ ap (λ l. (k, Some (Home f)) ∷ rest l)
    (c.seat.invariant.hand_is ∙ one_hand c.seat.inside.place.me.0 k holds)) ∙ ap (λ m. (with_result m.0 k f, [])) x.3 in
    let slots = ap (λ z. z.slots) (c.store.ensures.0 ∙ x.0) in
    let y = g.W.Yields.gives in
    subst (λ z. IsSitting y z c.store.new.seat.me.0 c.store.new.seat.me.1 c.seat.inside.spent c.seat.inside.made)
    (sym slots)
    (subst (λ m. IsSitting y c.seat.inside.place.table_id.slots m.0 m.1 c.seat.inside.spent c.seat.inside.made) (sym n)
    (sits_given _ _ _ _ _ _ k f c.seat.invariant holds (subst (λ m. Moment y m.0) n c.store.ensures.2.history)))

pub returns-clause-given : goal.returns-clause-given
returns-clause-given g c = let x = c.exchange.ensures in let v = c.seat.view_is in let k = c.args.claim.number in
    let f = c.args.finished in
    let holds = ap (λ s. s.view.claimed) v
    ∙ (c.requires.holds ∙ ap (λ s. result_numbers s.view.given ++ k ∷ []) (sym v)) in
    let n = c.store.ensures.2.gone k f (ap (λ m. m.1) x.3 ∙ ap (λ l. (k, Some (Home f)) ∷ rest l)
    (c.seat.invariant.hand_is ∙ one_hand c.seat.inside.place.me.0 k holds)) in
    ap (λ m. m.0) n ∙ (ap (λ m. with_result m.0 k f) x.3 ∙ ap (λ s. with_result s.view k f) v)

pub returns-clause-idle : goal.returns-clause-idle
returns-clause-idle g c = let x = c.exchange.ensures in let v = c.seat.view_is in let k = c.args.claim.number in
    let f = c.args.finished in
    let holds = ap (λ s. s.view.claimed) v
    ∙ (c.requires.holds ∙ ap (λ s. result_numbers s.view.given ++ k ∷ []) (sym v)) in
    let n = c.store.ensures.2.gone k f (ap (λ m. m.1) x.3 ∙ ap (λ l. (k, Some (Home f)) ∷ rest l)
    (c.seat.invariant.hand_is ∙ one_hand c.seat.inside.place.me.0 k holds)) ∙ ap (λ m. (with_result m.0 k f, [])) x.3 in
    ap (λ m. m.0.claimed) n ∙ (gives_all c.seat.inside.place.me.0 k f holds
    ∙ ap (λ m. result_numbers m.0.given) (sym n))
