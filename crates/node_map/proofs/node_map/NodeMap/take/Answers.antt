use Rattle.std.proofs.Common.{sym, ap, ◌∙◌}
use Rattle.node_map.specs.Inner.Moving.{without_nodes, with_moved_nodes}
use Rattle.node_map.proofs.MovedNodes.{all_moved, none_left}
use Rattle.node_map.proofs.node_map.NodeMap.take.Goals as goal

pub returns-clause-taken : goal.returns-clause-taken
returns-clause-taken c =
    ap (λ ps. with_moved_nodes ps c.loop-path.self c.loop-path.taken) (sym c.in-None.ensures.steps.0)
    ∙ c.loop-path.invariant.3
    ∙ all_moved c.args.paths.now c.args.self.now c.in_ok-taken.taken c.in_ok-taken.ensures

pub returns-clause-left : goal.returns-clause-left
returns-clause-left c =
    ap (λ ps. without_nodes ps c.loop-path.self) (sym c.in-None.ensures.steps.0)
    ∙ c.loop-path.invariant.2
    ∙ none_left c.args.self.now c.args.paths.now
