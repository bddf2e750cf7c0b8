use Rattle.std.proofs.Common.{rules, ap, sym, ◌∙◌, ◌≡◌, ℕ, ◌+◌, List, length, get_or, map, replicate, Some, arith, subst, false}
use Rattle.apply_board.specs.declared.group.Group.TheVariants.{Unclaimed}
use Rattle.atomic_table.specs.Table.{opening}
use Rattle.apply_board.specs.Views.{opener_view}
use Rattle.apply_board.specs.Board.{BoardHistory, Moment}
use Rattle.apply_board.specs.Inner.Fields.{IsSitting}
use Rattle.apply_board.proofs.Ends.{zeros, opens, opening_moment}
use Rattle.apply_board.proofs.Hands.{sits_opening}
use Rattle.apply_board.proofs.seat.Board.open.Goals as goal

pub new-requires : goal.new-requires
new-requires g c = let is = c.of-opened.ensures in let n = c.len-count.result in
    let e : c.as_slice.result.now ≡ replicate (n + 1) 0 = c.as_slice.ensures.value
    ∙ c.in_ok-words.ensures.items_if_clones_equal (λ y h. search rules) in
    let l1 = c.as_slice.ensures.len in let l2 = c.in_ok-words.ensures.len in let l3 = c.len-count.ensures in
    let l4 = ap (λ v. length v.items) is in let wok = c.args.works.ok in let small = c.args.works.small in
    opens _ _ c.as_slice.result.now c.in_ok-slots.slots.items (omega arith)
    (λ i. subst (λ (l : List ℕ). get_or l i 0 ≡ 0) (sym e) (zeros (n + 1) i))
    (c.in_ok-slots.ensures ∙ ap (λ v. map (λ w. Some (Unclaimed w)) v.items) (sym is)) (omega arith)

pub invariant_of-result-in-Ok : goal.invariant_of-result-in-Ok
invariant_of-result-in-Ok g c = let gives = g.W.Yields.gives in let opened = c.of-opened.result.value.items in
    let slots = c.in-Ok.place.table_id.slots in let is = c.of-opened.ensures in let n = c.len-count.result in
    let e : c.as_slice.result.now ≡ replicate (n + 1) 0 = c.as_slice.ensures.value
    ∙ c.in_ok-words.ensures.items_if_clones_equal (λ y h. search rules) in
    let l1 = c.as_slice.ensures.len in let l2 = c.in_ok-words.ensures.len in let l3 = c.len-count.ensures in
    let l4 = ap (λ v. length v.items) is in let wok = c.args.works.ok in let small = c.args.works.small in
    let history : BoardHistory gives opened
    (opening c.as_slice.result.now c.in_ok-slots.slots.items (opener_view opened)) =
    opens _ _ c.as_slice.result.now c.in_ok-slots.slots.items (omega arith)
    (λ i. subst (λ (l : List ℕ). get_or l i 0 ≡ 0) (sym e) (zeros (n + 1) i))
    (c.in_ok-slots.ensures ∙ ap (λ v. map (λ w. Some (Unclaimed w)) v.items) (sym is)) (omega arith) in
    subst (λ m. IsSitting gives slots m.0 m.1 false 1) (sym c.in-Ok.ensures.ok.4) (sits_opening gives slots opened
    (opening_moment gives opened c.as_slice.result.now c.in_ok-slots.slots.items history))

pub returns-in-Ok-clause-history : goal.returns-in-Ok-clause-history
returns-in-Ok-clause-history g c = let gives = g.W.Yields.gives in let opened = c.of-opened.result.value.items in
    let is = c.of-opened.ensures in let n = c.len-count.result in
    let e : c.as_slice.result.now ≡ replicate (n + 1) 0 = c.as_slice.ensures.value
    ∙ c.in_ok-words.ensures.items_if_clones_equal (λ y h. search rules) in
    let l1 = c.as_slice.ensures.len in let l2 = c.in_ok-words.ensures.len in let l3 = c.len-count.ensures in
    let l4 = ap (λ v. length v.items) is in let wok = c.args.works.ok in let small = c.args.works.small in
    let history : BoardHistory gives opened
    (opening c.as_slice.result.now c.in_ok-slots.slots.items (opener_view opened)) =
    opens _ _ c.as_slice.result.now c.in_ok-slots.slots.items (omega arith)
    (λ i. subst (λ (l : List ℕ). get_or l i 0 ≡ 0) (sym e) (zeros (n + 1) i))
    (c.in_ok-slots.ensures ∙ ap (λ v. map (λ w. Some (Unclaimed w)) v.items) (sym is)) (omega arith) in
    subst (λ m. Moment gives m.0) (sym c.in-Ok.ensures.ok.4)
    (opening_moment gives opened c.as_slice.result.now c.in_ok-slots.slots.items history)
