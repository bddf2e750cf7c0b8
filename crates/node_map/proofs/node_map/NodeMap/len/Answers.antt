use Rattle.std.proofs.Common.{ap, sym, ◌∙◌}
use Rattle.std.specs.FinMap as finmap
use Rattle.pairs.proofs.Hashed.{distinct}
use Rattle.node_map.proofs.HashedNodes.{len_is}
use Rattle.node_map.proofs.node_map.NodeMap.len.Goals as goal

pub returns : goal.returns
returns c =
    c.len.ensures.len
    ∙ sym (len_is c.self.inside.map.entries (distinct _ c.len.ensures.unique))
    ∙ ap finmap.len c.self.view_is
