use Rattle.std.proofs.Common.{None, sym, ap, ◌∙◌}
use Rattle.std.specs.Option.{option_copied}
use Rattle.node_map.specs.Updates.{with_node_at}
use Rattle.node_map.proofs.node_map.NodeMap.copy_node.Goals as goal

pub returns-in-None-clause-ok : goal.returns-in-None-clause-ok
returns-in-None-clause-ok c =
    c.remove.ensures.removed
    ∙ ap (λ o. with_node_at c.args.path.now o c.args.self.now) (sym (sym c.get.ensures ∙ ap option_copied c.in-None.is))
