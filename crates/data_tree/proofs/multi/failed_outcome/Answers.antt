use Rattle.std.proofs.Common.{rules, arith, ◌≡◌, ◌≤◌, ◌++◌, length, drop, to_z, of_z, w32, pos, ap, ◌∙◌}
use mir.Val.{SFits}
use Rattle.std.proofs.lemmas.Int.{to_z-of_z}
use Rattle.std.proofs.Math.ListN.{drop_of_length-le}
use Rattle.data_tree.specs.Meaning.{first_error, results_of_failed}
use Rattle.data_tree.proofs.Lists.{nothing_more}
use Rattle.data_tree.proofs.Multis.{outcome, results_behind, results_from_start}
use Rattle.data_tree.proofs.multi.failed_outcome.Goals as goal

pub loop-part-init : goal.loop-part-init
loop-part-init c =
    ap (λ rs. rs ++ results_behind (pos 0) c.args.parts.now) c.new-results.ensures.items
    ∙ results_from_start c.args.parts.now

pub returns : goal.returns
returns c =
    let past : length c.args.parts.now ≤ c.loop-part.part-index = omega arith in
    let results : c.loop-part.results.items ≡ results_of_failed c.args.parts.now =
    nothing_more c.loop-part.results.items
    (results_behind (to_z w32 c.loop-part.otherwise-bits) (drop c.loop-part.part-index c.args.parts.now))
    (ap (results_behind (to_z w32 c.loop-part.otherwise-bits)) (drop_of_length-le c.args.parts.now past))
    ∙ c.loop-part.invariant in
    let fits : SFits w32 c.first_error.result = search rules in
    let err : to_z w32 (of_z w32 c.first_error.result) ≡ first_error (results_of_failed c.args.parts.now) =
    to_z-of_z w32 c.first_error.result fits
    ∙ c.first_error.ensures
    ∙ ap first_error (c.as_slice.ensures.value ∙ results) in
    λ i. outcome (err i) ((c.from_vec.ensures ∙ results) i) ((c.from_vec-2.ensures ∙ c.new.ensures.items) i)
