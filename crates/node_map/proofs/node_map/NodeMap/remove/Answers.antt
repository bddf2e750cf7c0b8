use Rattle.std.proofs.Common.{ap, sym, ◌∙◌}
use Rattle.std.specs.FinMap as finmap
use Rattle.pairs.proofs.Hashed.{get-hashed, map_of-remove}
use Rattle.node_map.proofs.node_map.NodeMap.remove.Goals as goal

pub returns-clause-value : goal.returns-clause-value
returns-clause-value c =
    c.swap_remove.ensures.value
    ∙ sym (get-hashed c.self.inside.map.entries c.args.path.now)
    ∙ ap (λ m. finmap.get m c.args.path.now) c.self.view_is

pub returns-clause-removed : goal.returns-clause-removed
returns-clause-removed c =
    map_of-remove c.args.path.now c.self.inside.map c.swap_remove.new.self c.swap_remove.ensures.updates
    ∙ ap (λ m. finmap.remove m c.args.path.now) c.self.view_is
