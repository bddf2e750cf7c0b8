use Rattle.std.proofs.Common.{ap, ◌∙◌}
use Rattle.ephemerals.specs.Inner.OwnersView.{owners_in}
use Rattle.ephemerals.proofs.OwnersView.{owners-empty}
use Rattle.ephemerals.proofs.owners.Ephemerals.keyed.Goals as goal

pub returns : goal.returns
returns c = ap owners_in c.keyed.ensures ∙ owners-empty
