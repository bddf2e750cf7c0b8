use Rattle.std.proofs.Common.{is_some, ap, ◌∙◌}
use Rattle.based_tree.proofs.Changes.{on_ok_both, each_step}
use Rattle.based_tree.proofs.saved.SavedCells.save_for_each.Goals as goal

pub returns-clause-step : goal.returns-clause-step
returns-clause-step c =
    λ keep. on_ok_both c.ready_footprints.result
    (λ more ready. each_step c.args.txns.now c.ready_footprints.new.self c.args.tree.now keep ready
    (ap is_some more.sessions ∙ c.in_ok-save_sessions.ensures.saved))
    c.ready_footprints.ensures.more c.ready_footprints.ensures.here
