use Rattle.std.proofs.Common.{ap, sym, ◌∙◌}
use Rattle.std.specs.FinSet as set
use Rattle.ephemerals.specs.Orders.{OwnerPairs}
use Rattle.ephemerals.proofs.OwnersView.{owners-len}
use Rattle.ephemerals.proofs.owners.Ephemerals.count.Goals as goal

pub returns : goal.returns
returns c = c.len.ensures ∙ sym (owners-len c.self.inside.pairs) ∙ ap (λ (s : OwnerPairs). set.len s) c.self.view_is
