use Rattle.std.proofs.Common.{rules, ◌≡◌, ◌-◌, ◌+◌, ◌<◌, ◌∷◌, [], ◌++◌, ℕ, List, All, sym, ap, ◌∙◌, take, drop, length, get_or}
use Rattle.std.proofs.lemmas.List.Elements.{All-drop, All-take}
use Rattle.data_tree.specs.Cells.{effect_in_cells, after_in_cells, outcomes_in_cells}
use Rattle.data_tree.specs.Meaning.{answer_of}
use Rattle.apply_workers.specs.Places.{at_places}
use Rattle.apply_workers.proofs.Loops.{goes_on, moved_on, next_place}
use Rattle.apply_workers.proofs.hand.GroupInProgress.finish.Goals as goal

pub loop-place-preserved : goal.loop-place-preserved
loop-place-preserved c =
    let at = c.loop-place in
    let i = at.place-index in
    let txns = c.args.txns.now in
    let members = c.members.result.now in
    let left : List ℕ = take (length members - c.len.result) (drop c.len.result members) in
    let t = c.index-txns-place.result in
    let all : All (λ p. p < length txns) members = search rules in
    let within : All (λ p. p < length txns) left =
    All-take (λ p. p < length txns) (length members - c.len.result) (drop c.len.result members)
    (All-drop (λ p. p < length txns) c.len.result members all) in
    let is : t ≡ get_or txns (get_or left i 0) t = search rules in
    let step = next_place txns left i t c.loop-place-test.true within is in
    let old = at_places txns (drop i left) in
    let rest = at_places txns (drop (i + 1) left) in
    let outs = at.outcomes.items in
    let new = c.push.new.self.items in
    let done = c.in_ok-apply.ensures in
    let items = c.in_ok-push.ensures.items ∙ ap (λ o. outs ++ o ∷ []) done.answer in
    record {
      cells = goes_on old rest t _ (after_in_cells at.cells) (after_in_cells c.apply.new.self) step
          (ap (λ s. after_in_cells s rest) (sym done.cells)) at.invariant.cells;
      answers = goes_on old rest t _ (λ ts. outs ++ outcomes_in_cells at.cells ts)
          (λ ts. new ++ outcomes_in_cells c.apply.new.self ts) step
          (moved_on outs new (outcomes_in_cells (effect_in_cells at.cells t).state rest)
          (answer_of (effect_in_cells at.cells t)) items
          ∙ ap (λ s. new ++ outcomes_in_cells s rest) (sym done.cells)) at.invariant.answers;
    }
