use Rattle.std.proofs.Common.{rules, ◌≡◌, ◌<◌, ◌+◌, ◌∷◌, [], length, length-append, sym, ap, ap₂, ◌∙◌, subst}
use Rattle.std.specs.Vec.Iter.{into_iter_items, into_iter_len}
use Rattle.apply_workers.specs.Hands.{group_states_from}
use Rattle.apply_workers.proofs.Loops.{nothing_left}
use Rattle.apply_workers.proofs.Shown.{within_batch, one_left, AllFinished, FinishedTo, finish_goes_on, finish_ends, cells_left, all_answers}
use Rattle.apply_workers.proofs.groups.finish_each.Goals as goal

pub finish-requires-clause-within : goal.finish-requires-clause-within
finish-requires-clause-within c =
    let at = c.loop-hand in
    let groups = c.groups-groups.result.now in
    let l : length at.cells.items < length groups =
    one_left (length at.cells.items) groups (into_iter_items at.hand-iterator) c.in-Some.hand _
    at.invariant.finished.held c.in-Some.ensures.steps.0 in
    let same : length at.cells.items ≡ c.len.result = search rules in
    within_batch c.args.batch.now c.txns-txns.result.now groups c.len.result c.index-groups-len.result
    c.txns-txns.ensures.txns c.groups-groups.ensures c.index-groups-len.is
    (subst (λ n. n < length groups) same l)

pub loop-hand-preserved : goal.loop-hand-preserved
loop-hand-preserved c =
    let at = c.loop-hand in
    let txns = c.txns-txns.result.now in
    let groups = c.groups-groups.result.now in
    let place : length at.cells.items ≡ c.len.result = search rules in
    let begun =
    subst (λ n. FinishedTo txns groups c.args.hands.items n (into_iter_items at.hand-iterator) at.cells.items
    at.outcomes.items) place at.invariant.finished in
    let one_more : c.len.result + 1 ≡ length c.push.new.self.items =
    ap (λ n. n + 1) (sym place) ∙ sym (length-append at.cells.items (c.in_ok-left.left ∷ []))
    ∙ ap (λ cs. length cs) (sym c.in_ok-push.ensures.items) in
    record {
      finished = subst (λ n. FinishedTo txns groups c.args.hands.items n (into_iter_items c.next.new.self)
          c.push.new.self.items c.push-in-loop-hand.new.self.items) one_more
          (finish_goes_on txns groups c.args.hands.items (into_iter_items at.hand-iterator)
          (into_iter_items c.next.new.self) c.len.result c.index-groups-len.result c.in-Some.hand at.cells.items
          c.push.new.self.items at.outcomes.items c.push-in-loop-hand.new.self.items c.in_ok-left.left
          c.from_vec.result begun c.in-Some.ensures.steps.0 c.index-groups-len.is c.in_ok-left.ensures.cells
          (c.from_vec.ensures ∙ c.in_ok-left.ensures.outcomes) c.in_ok-push.ensures.items
          c.in_ok-push-2.ensures.items);
      len = search rules;
    }

all_finished : (c : goal.After-drop-hand-iterator-2)
    → AllFinished c.txns-txns.result.now c.groups-groups.result.now c.args.hands.items c.loop-hand.cells.items
    c.loop-hand.outcomes.items
all_finished c =
    let at = c.loop-hand in
    let none : into_iter_len at.hand-iterator ≡ 0 = search rules in
    let empty = nothing_left (into_iter_items at.hand-iterator) (sym at.invariant.len ∙ none) in
    finish_ends c.txns-txns.result.now c.groups-groups.result.now c.args.hands.items (into_iter_items at.hand-iterator)
    (length at.cells.items) at.cells.items at.outcomes.items at.invariant.finished empty

pub returns-clause-cells : goal.returns-clause-cells
returns-clause-cells c =
    (all_finished c).cells_are
    ∙ ap₂ (λ ts cs. cells_left (group_states_from ts 0 cs c.args.hands.items)) c.txns-txns.ensures.txns
    c.groups-groups.ensures

pub returns-clause-outcomes : goal.returns-clause-outcomes
returns-clause-outcomes c =
    (all_finished c).answers_are
    ∙ ap₂ (λ ts cs. all_answers (group_states_from ts 0 cs c.args.hands.items)) c.txns-txns.ensures.txns
    c.groups-groups.ensures
