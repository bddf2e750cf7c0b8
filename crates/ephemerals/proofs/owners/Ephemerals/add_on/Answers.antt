use Rattle.std.proofs.Common.{ap, ◌∙◌}
use Rattle.std.proofs.lemmas.Result.{on_ok_weaker}
use Rattle.std.specs.FinSet as set
use Rattle.pairs.specs.Pairs.{pairs_of_text}
use Rattle.ephemerals.specs.Inner.OwnersView.{owners_in}
use Rattle.ephemerals.specs.Inner.Steps.{pairs_on}
use Rattle.ephemerals.proofs.OwnersView.{owners-union, owners-at}
use Rattle.ephemerals.proofs.owners.Ephemerals.add_on.Goals as goal

pub returns : goal.returns
returns c =
    on_ok_weaker c.add_of_text.result
    (λ is. ap owners_in is
    ∙ owners-union c.self.inside.pairs (pairs_of_text c.args.path.now c.others.inside.pairs)
    ∙ (λ i. set.union (c.self.view_is i)
    ((owners-at c.args.path.now c.others.inside.pairs ∙ ap (λ s. pairs_on c.args.path.now s) c.others.view_is) i)))
    c.add_of_text.ensures.ok
