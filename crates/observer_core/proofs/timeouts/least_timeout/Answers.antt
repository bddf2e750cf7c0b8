use Rattle.std.proofs.Common.{◌≡◌, ℤ, List, None, sym, ap, subst, ◌∙◌, rules}
use Rattle.std.specs.List.{list_any}
use Rattle.std.specs.Ordering.{eq_by_cmp, int_cmp}
use Rattle.data_tree.specs.Sessions.{SessionTimeouts}
use Rattle.world.specs.World.{World}
use Rattle.observer_core.specs.Timeouts.{IsLeastTimeout}
use Rattle.observer_core.proofs.Least.{least_of, least_timeout_is}
use Rattle.observer_core.proofs.timeouts.least_timeout.Goals as goal

pub returns : goal.returns
returns c =
    let w : World = c.args.world.now in
    let sessions : List ℤ = c.into_iter-session-iterator.result in
    let timeouts : SessionTimeouts = c.sessions-timeouts.result.now in
    let same : timeouts ≡ w.replica.tree.sessions = search rules in
    let least : c.loop-session.least ≡ least_of timeouts None sessions =
    ap (least_of timeouts c.loop-session.least) (sym c.in-None.ensures.steps.0) ∙ c.loop-session.invariant in
    subst (IsLeastTimeout w) (sym (least ∙ ap (λ t. least_of t None sessions) same))
    (least_timeout_is w sessions (λ session.
    ap (list_any (eq_by_cmp int_cmp session)) c.into_iter-session-iterator.ensures.into_iter_gives
    ∙ c.connected-session-items.ensures.members session
    ∙ search rules))
