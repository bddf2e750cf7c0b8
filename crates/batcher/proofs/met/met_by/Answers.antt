use Rattle.std.proofs.Common.{◌∙◌, ◌++◌, ap, [], ◌∷◌}
use Rattle.batcher.specs.Inner.Owners.{get_by_path, paths_of}
use Rattle.batcher.specs.Inner.Joining.{met_with, unowned_paths}
use Rattle.batcher.proofs.Steps.{next_is}
use Rattle.batcher.proofs.Numbered.{numbered_then}
use Rattle.batcher.proofs.Unowned.{met_next, unowned_next}
use Rattle.batcher.proofs.met.met_by.Goals as goal

pub loop-path-preserved : goal.loop-path-preserved
loop-path-preserved c =
    let old = c.args.owners.now in
    let owner = get_by_path old in
    let paths = c.args.paths.now in
    let i = c.loop-path.path-index in
    let p = c.path-item.result in
    let next = next_is paths i p c.loop-path-test.true c.path-item.is in
    let kept = c.loop-path.invariant.kept in
    record {
      kept = numbered_then old c.loop-path.owners c.meet.new.owners kept c.in_ok-met.ensures.kept;
      met = met_next owner paths i p next c.loop-path.met c.in_ok-met.met _
          (c.in_ok-met.ensures.met ∙ ap (λ q. met_with c.loop-path.met (get_by_path c.loop-path.owners q)) c.as_str.ensures
          ∙ ap (met_with c.loop-path.met) (kept.owners p))
          c.loop-path.invariant.met;
      unowned = unowned_next owner paths i p next (paths_of c.loop-path.unowned.items) (paths_of c.meet.new.unowned.items) _
          (c.in_ok-met.ensures.unowned
          ∙ ap (λ q. paths_of c.loop-path.unowned.items ++ unowned_paths (get_by_path c.loop-path.owners) (q ∷ []))
          c.as_str.ensures
          ∙ (λ j. paths_of c.loop-path.unowned.items ++ unowned_paths (λ q. kept.owners q j) (p ∷ [])))
          c.loop-path.invariant.unowned;
      numbered = c.in_ok-met.ensures.numbered;
    }
