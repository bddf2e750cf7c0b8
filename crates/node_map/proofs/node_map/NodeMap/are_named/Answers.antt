use Rattle.std.proofs.Common.{◌∙◌}
use Rattle.pairs.proofs.Hashed.{distinct}
use Rattle.node_map.proofs.Naming.{named_entries}
use Rattle.node_map.proofs.node_map.NodeMap.are_named.Goals as goal

pub loop-path-init : goal.loop-path-init
loop-path-init c = (
  tt,
  tt,
  named_entries c.self.inside.map.entries (distinct _ c.iter-path-items.ensures.unique)
      c.into_iter-path-iterator.result
      (c.into_iter-path-iterator.ensures.into_iter_gives ∙ c.iter-path-items.ensures.rest) c.args.self.now
      c.self.view_is,
)
