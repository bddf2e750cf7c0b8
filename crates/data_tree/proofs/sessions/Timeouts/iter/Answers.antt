use Rattle.std.proofs.Common.{ap, sym, ◌∙◌}
use Rattle.std.specs.Cmp.{int_cmp_total}
use Rattle.std.specs.FinMap as finmap
use Rattle.values.proofs.Keyed.{entries-in_order}
use Rattle.data_tree.proofs.sessions.Timeouts.iter.Goals as goal

pub returns-clause-entries : goal.returns-clause-entries
returns-clause-entries c =
    c.iter.ensures.rest
    ∙ sym (entries-in_order int_cmp_total c.self.inside.map.entries c.iter.ensures.ordered)
    ∙ ap (λ m. finmap.entries m) c.self.view_is
