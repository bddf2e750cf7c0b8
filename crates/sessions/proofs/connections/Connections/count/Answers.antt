use Rattle.std.proofs.Common.{ap, sym, ◌∙◌}
use Rattle.std.specs.Cmp.{nat_cmp_total}
use Rattle.std.specs.FinMap as finmap
use Rattle.sessions.proofs.Counting.{len-seen}
use Rattle.sessions.proofs.connections.Connections.count.Goals as goal

pub returns : goal.returns
returns c =
    c.len.ensures.len
    ∙ sym (len-seen nat_cmp_total c.self.inside.map.entries c.len.ensures.ordered)
    ∙ ap finmap.len c.self.view_is
