use Rattle.std.proofs.Common.{rules, refl, ◌≡◌, ◌+◌, ◌∷◌, [], ◌++◌, arith, sym, ap, ◌∙◌, drop, get_or, Result, Ok, Err, OnErr}
use Rattle.data_tree.specs.Cells.{effect_in_cells, after_in_cells, outcomes_in_cells}
use Rattle.data_tree.specs.Meaning.{answer_of}
use Rattle.apply_workers.specs.Places.{at_places}
use Rattle.apply_workers.proofs.Loops.{goes_on, moved_on, next_place}
use Rattle.apply_workers.proofs.Stopping.{stopped_at_once, one_more, stopped_there}
use Rattle.apply_workers.proofs.group_job.apply_in_cells.Goals as goal

-- A call that doesn't return Ok is refused.
refused : {A E P : Type 0} (r : Result A E) → ((a : A) → r ≡ Ok a → ⊥) → OnErr r P → P
refused (Ok a) not left = absurd (not a refl)
refused (Err e) not left = left

pub returns-in_default : goal.returns-in_default
returns-in_default c = stopped_at_once c.args.cells (at_places c.args.txns.now c.args.members.now)

pub returns-in_default-apply : goal.returns-in_default-apply
returns-in_default-apply c =
    let at = c.loop-place in
    let i = at.place-index in
    let t = c.index-txns-place.result in
    let is : t ≡ get_or c.args.txns.now (get_or c.args.members.now i 0) t = search rules in
    let step = next_place c.args.txns.now c.args.members.now i t c.loop-place-test.true c.requires is in
    let old = at_places c.args.txns.now (drop i c.args.members.now) in
    let rest = at_places c.args.txns.now (drop (i + 1) c.args.members.now) in
    let k = at.invariant.count in
    let d = c.len-done.ensures in
    let so_many : c.len-done.result ≡ i = omega arith in
    let left = refused c.apply.result c.in_default-apply.not-Ok c.apply.ensures.err in
    stopped_there c.args.cells (at_places c.args.txns.now c.args.members.now) at.cells c.apply.new.self old rest t i
    c.len-done.result at.invariant.done step left so_many

pub loop-place-init : goal.loop-place-init
loop-place-init c = search rules

pub loop-place-preserved : goal.loop-place-preserved
loop-place-preserved c =
    let at = c.loop-place in
    let i = at.place-index in
    let t = c.index-txns-place.result in
    let is : t ≡ get_or c.args.txns.now (get_or c.args.members.now i 0) t = search rules in
    let step = next_place c.args.txns.now c.args.members.now i t c.loop-place-test.true c.requires is in
    let old = at_places c.args.txns.now (drop i c.args.members.now) in
    let rest = at_places c.args.txns.now (drop (i + 1) c.args.members.now) in
    let pushed = c.push_reserved.ensures in
    let len = pushed.len in
    let cap = pushed.capacity in
    let count = at.invariant.count in
    let room = at.invariant.room in
    let outs = at.outcomes.items in
    let new = c.push_reserved.new.self.items in
    let done = c.in-Ok-apply.ensures in
    let items = pushed.items ∙ ap (λ o. outs ++ o ∷ []) done.answer in
    record {
      cells = goes_on old rest t _ (after_in_cells at.cells) (after_in_cells c.apply.new.self) step
          (ap (λ s. after_in_cells s rest) (sym done.cells)) at.invariant.cells;
      answers = goes_on old rest t _ (λ ts. outs ++ outcomes_in_cells at.cells ts)
          (λ ts. new ++ outcomes_in_cells c.apply.new.self ts) step
          (moved_on outs new (outcomes_in_cells (effect_in_cells at.cells t).state rest)
          (answer_of (effect_in_cells at.cells t)) items
          ∙ ap (λ s. new ++ outcomes_in_cells s rest) (sym done.cells)) at.invariant.answers;
      count = omega arith;
      done = one_more c.args.cells (at_places c.args.txns.now c.args.members.now) at.cells c.apply.new.self old rest t i
          at.invariant.done step done.cells;
      room = omega arith;
    }
