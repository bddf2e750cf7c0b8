use Rattle.std.proofs.Common.{ap, ◌∙◌}
use Rattle.ephemerals.specs.Orders.{OwnerPairs}
use Rattle.ephemerals.specs.Inner.OwnersView.{owners_in}
use Rattle.ephemerals.specs.Inner.Steps.{without_path}
use Rattle.ephemerals.proofs.OwnersView.{owners-without_text}
use Rattle.ephemerals.proofs.owners.Ephemerals.drop_on.Goals as goal

pub returns : goal.returns
returns c =
    ap owners_in c.drop_text.ensures
    ∙ owners-without_text c.args.path.now c.self.inside.pairs
    ∙ ap (λ (s : OwnerPairs). without_path c.args.path.now s) c.self.view_is
