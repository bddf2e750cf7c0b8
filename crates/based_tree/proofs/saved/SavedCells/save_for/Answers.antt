use Rattle.std.proofs.Common.{is_some, sym, ap, subst, ◌∙◌}
use Rattle.std.proofs.lemmas.Result.{on_ok_weaker}
use Rattle.txn_codec.specs.Row.{is_ending}
use Rattle.based_tree.specs.Inner.{AreSaved, ended_footprint}
use Rattle.based_tree.proofs.Changes.{on_ok_both, footprint_step, sessions_step, end_step}
use Rattle.based_tree.proofs.saved.SavedCells.save_for.Goals as goal

pub returns-in-Nothing-clause-step : goal.returns-in-Nothing-clause-step
returns-in-Nothing-clause-step c =
    let is = sym c.session_change.ensures ∙ c.in-Nothing.is in
    on_ok_weaker c.ready_footprint.result
    (λ here. footprint_step c.args.txn.now c.ready_footprint.new.self c.args.tree.now (ap is_ending is) is here)
    c.ready_footprint.ensures.here

pub returns-in_ok-save_sessions-in-Begins-clause-step : goal.returns-in_ok-save_sessions-in-Begins-clause-step
returns-in_ok-save_sessions-in-Begins-clause-step c =
    on_ok_both c.ready_footprint-in-Begins.result
    (λ more here. sessions_step c.args.txn.now c.ready_footprint-in-Begins.new.self c.args.tree.now
    (ap is_ending (sym c.session_change.ensures ∙ c.in-Begins.is))
    (ap is_some more.sessions ∙ c.in_ok-save_sessions-in-Begins.ensures.saved) here)
    c.ready_footprint-in-Begins.ensures.more c.ready_footprint-in-Begins.ensures.here

pub returns-in_ok-save_sessions-in-Ends-clause-step : goal.returns-in_ok-save_sessions-in-Ends-clause-step
returns-in_ok-save_sessions-in-Ends-clause-step c =
    on_ok_both c.save_ended.result
    (λ more here. end_step c.args.txn.now c.save_ended.new.self c.args.tree.now
    (sym c.session_change.ensures ∙ c.in-Ends.is)
    (ap is_some more.sessions ∙ c.in_ok-save_sessions-in-Ends.ensures.saved)
    (subst (λ ps. AreSaved (ended_footprint c.args.txn.now.header.client_id ps c.args.tree.now) c.save_ended.new.self)
    c.listed_in.ensures here))
    c.save_ended.ensures.more c.save_ended.ensures.here
