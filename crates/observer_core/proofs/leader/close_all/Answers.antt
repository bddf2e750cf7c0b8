use Rattle.std.proofs.Common.{ap, sym, ◌∙◌}
use Rattle.world.specs.Steps.{no_output}
use Rattle.world.proofs.Steps.{ends}
use Rattle.observer_core.proofs.Delivering.{none_open}
use Rattle.observer_core.proofs.leader.close_all.Goals as goal

pub returns : goal.returns
returns c =
    ends _ _ _ _ _ (none_open c.loop-number.clients c.in_default.ensures.none.0
    ∙ ap no_output (sym c.in_default.ensures.none.1)) c.loop-number.invariant
