use Rattle.std.proofs.Common.{ap, sym, ◌∙◌}
use Rattle.std.specs.FinMap as finmap
use Rattle.pairs.proofs.Hashed.{get-hashed}
use Rattle.node_map.proofs.node_map.NodeMap.get.Goals as goal

pub returns : goal.returns
returns c =
    c.get.ensures.value
    ∙ sym (get-hashed c.self.inside.map.entries c.args.path.now)
    ∙ ap (λ m. finmap.get m c.args.path.now) c.self.view_is
