use Rattle.std.proofs.Common.{ap, sym, ◌∙◌, arith, subst, ◌<◌, ◌++◌, ◌||◌}
use Rattle.std.specs.Mem.Slots.{slots_items}
use Rattle.apply_board.specs.Seats.{all_given, any_spent, works_of}
use Rattle.apply_board.specs.Views.{result_numbers}
use Rattle.apply_board.specs.Closing.{IsSettled}
use Rattle.apply_board.proofs.Ends.{closes, are_full, settles, first_and_others, Lies}
use Rattle.apply_board.proofs.seat.Board.close.Goals as goal

pub gather-requires-clause-own : goal.gather-requires-clause-own
gather-requires-clause-own g c = let crew = first_and_others _ _ c.remove.result c.remove.new.self.items c.requires
    c.remove.ensures.value c.remove.ensures.items in ap (λ s. s.board) c.place.view_is ∙ crew.1.own

pub gather-requires-clause-opener : goal.gather-requires-clause-opener
gather-requires-clause-opener g c = let crew = first_and_others _ _ c.remove.result c.remove.new.self.items
    c.requires c.remove.ensures.value c.remove.ensures.items in
    (subst (λ s. 0 < s.view.made) (sym c.place.view_is) crew.1.made, c.place.invariant.seated)

pub gather-requires-clause-others : goal.gather-requires-clause-others
gather-requires-clause-others g c = (first_and_others _ _ c.remove.result c.remove.new.self.items c.requires
    c.remove.ensures.value c.remove.ensures.items).1.rest

pub close_with-requires : goal.close_with-requires
close_with-requires g c = let crew = first_and_others _ _ c.remove.result c.remove.new.self.items c.requires
    c.remove.ensures.value c.remove.ensures.items in
    c.gather.ensures.own.0 ∙ (ap (λ s. s.board) c.place.view_is ∙ (crew.1.own ∙ sym c.self.view_is))

pub drain_slots-requires-clause-full : goal.drain_slots-requires-clause-full
drain_slots-requires-clause-full g c = let crew =
    first_and_others _ _ c.remove.result c.remove.new.self.items c.requires
    c.remove.ensures.value c.remove.ensures.items in let v = c.close_with.ensures.values in
    let place = c.place.inside.place.me.0 in let is = c.place.view_is in let made = ap (λ s. s.view.made) is in
    let opener = crew.1.made in
    let s = closes _ _ (slots_items c.close_with.result.words) (slots_items c.close_with.result.slots)
    c.gather.new.place.id place c.gather.new.place.me.0 c.remove.new.self.items v.2
    (ap (λ m. m.0) c.gather.ensures.view)
    (omega arith) c.place.invariant.seated c.place.invariant.alone (ap (λ s. s.view.claimed) is
    ∙ (crew.1.idle ∙ ap (λ s. result_numbers s.view.given) (sym is))) (ap (λ s. s.view.unjoined) is ∙ crew.1.unjoined)
    in
    are_full _ _ _ _ _ s

pub returns : goal.returns
returns g c = let crew = first_and_others _ _ c.remove.result c.remove.new.self.items c.requires
    c.remove.ensures.value c.remove.ensures.items in let v = c.close_with.ensures.values in
    let place = c.place.inside.place.me.0 in let is = c.place.view_is in let made = ap (λ s. s.view.made) is in
    let opener = crew.1.made in
    let s = closes _ _ (slots_items c.close_with.result.words) (slots_items c.close_with.result.slots)
    c.gather.new.place.id place c.gather.new.place.me.0 c.remove.new.self.items v.2
    (ap (λ m. m.0) c.gather.ensures.view)
    (omega arith) c.place.invariant.seated c.place.invariant.alone (ap (λ s. s.view.claimed) is
    ∙ (crew.1.idle ∙ ap (λ s. result_numbers s.view.given) (sym is))) (ap (λ s. s.view.unjoined) is ∙ crew.1.unjoined)
    in
    let t = subst (λ s. Lies g.W.Yields.gives s.view.works (s.view.given ++ all_given c.remove.new.self.items)
    (s.view.spent || any_spent c.remove.new.self.items) (slots_items c.close_with.result.slots)) is s in
    subst (λ l. IsSettled g.W.Yields.gives (works_of l) (all_given l) (any_spent l) c.drain_slots.result.items)
    (sym crew.0) (settles _ _ _ _ (slots_items c.close_with.result.slots) c.drain_slots.result.items t
    c.drain_slots.ensures)
