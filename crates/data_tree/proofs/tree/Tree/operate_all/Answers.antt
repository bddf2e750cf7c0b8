use Rattle.std.proofs.Common.{rules, ◌≡◌, ◌<◌, ◌≤◌, length, [], ◌∷◌, ◌++◌, arith, to_z, of_z, w32, ap, ◌∙◌}
use mir.Val.{SFits}
use Rattle.std.proofs.lemmas.Int.{to_z-of_z}
use Rattle.data_tree.specs.Meaning.{first_error}
use Rattle.ephemerals.proofs.Errors.{on_err}
use Rattle.data_tree.proofs.Multis.{part_result, outcome, midway_step, midway_done, front_step}
use Rattle.data_tree.proofs.tree.Tree.operate_all.Goals as goal

pub returns-in_err-err-clause-err : goal.returns-in_err-err-clause-err
returns-in_err-err-clause-err c =
    on_err c.from_residual.result (c.loop-part.part-index, c.in_err-err.ensures ∙ c.loop-part.invariant.front)

pub returns-in_err-push-clause-err : goal.returns-in_err-push-clause-err
returns-in_err-push-clause-err c =
    let lt : c.loop-part.part-index < length c.args.parts.now = omega arith in
    on_err c.from_residual-in_err-push.result
    (front_step c.args.header.now c.args.parts.now c.loop-part.part-index c.args.self.now c.loop-part.self
    c.operate.new.self c.part-item.result lt c.part-item.is c.loop-part.invariant.front c.in_ok-err.ensures.state)

pub loop-part-preserved : goal.loop-part-preserved
loop-part-preserved c =
    let lt : c.loop-part.part-index < length c.args.parts.now = omega arith in
    let fits : SFits w32 c.in_ok-err.err = search rules in
    midway_step c.args.header.now c.args.parts.now c.loop-part.part-index c.args.self.now c.loop-part.self
    c.operate.new.self c.loop-part.results.items c.push.new.self.items c.in_ok-err.err c.stat_after-stat.result
    c.loop-part.triggers.items c.operate.new.triggers.items c.part-item.result lt c.part-item.is c.loop-part.invariant
    c.in_ok-err.ensures.state c.in_ok-err.ensures.err c.stat_after-stat.ensures
    (c.in_ok-push.ensures.items
    ∙ ap (λ e. c.loop-part.results.items ++ part_result e c.stat_after-stat.result ∷ []) (to_z-of_z w32 c.in_ok-err.err fits))
    c.in_ok-err.ensures.fired

pub returns-clause-answer : goal.returns-clause-answer
returns-clause-answer c =
    let past : length c.args.parts.now ≤ c.loop-part.part-index = omega arith in
    let fits : SFits w32 c.first_error.result = search rules in
    let error : to_z w32 (of_z w32 c.first_error.result) ≡ first_error c.loop-part.results.items =
    to_z-of_z w32 c.first_error.result fits
    ∙ c.first_error.ensures
    ∙ ap first_error c.as_slice.ensures.value in
    (λ i. outcome (error i) (c.from_vec.ensures i) (c.from_vec-2.ensures i))
    ∙ midway_done c.args.header.now c.args.parts.now c.loop-part.part-index c.args.self.now c.loop-part.self
    c.loop-part.results.items c.loop-part.triggers.items past c.loop-part.invariant
