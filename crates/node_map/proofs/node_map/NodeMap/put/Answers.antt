use Rattle.std.proofs.Common.{ap, ◌∙◌}
use Rattle.std.specs.FinMap as finmap
use Rattle.pairs.proofs.Hashed.{map_of-insert}
use Rattle.node_map.proofs.node_map.NodeMap.put.Goals as goal

pub returns-clause-ok : goal.returns-clause-ok
returns-clause-ok c =
    map_of-insert c.args.key c.self.inside.map c.insert.new.self c.args.node c.in_ok-insert.ensures.updates
    ∙ ap (λ m. finmap.insert m c.args.key c.args.node) c.self.view_is
