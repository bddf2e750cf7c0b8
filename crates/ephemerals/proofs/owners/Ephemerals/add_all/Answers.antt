use Rattle.std.proofs.Common.{ap, sym, ◌∙◌}
use Rattle.std.proofs.lemmas.Result.{on_ok_weaker, on_err_weaker}
use Rattle.std.specs.FinSet as set
use Rattle.ephemerals.specs.Orders.{OwnerPairs}
use Rattle.ephemerals.specs.Inner.OwnersView.{owners_in}
use Rattle.ephemerals.proofs.OwnersView.{owners-union, owners-subset}
use Rattle.ephemerals.proofs.owners.Ephemerals.add_all.Goals as goal

pub returns-clause-ok : goal.returns-clause-ok
returns-clause-ok c =
    on_ok_weaker c.add_all.result
    (λ is. ap owners_in is
    ∙ owners-union c.self.inside.pairs c.others.inside.pairs
    ∙ (λ i. set.union (c.self.view_is i) (c.others.view_is i)))
    c.add_all.ensures.ok

pub returns-clause-err_keeps : goal.returns-clause-err_keeps
returns-clause-err_keeps c =
    on_err_weaker c.add_all.result
    (λ within. ap (λ (s : OwnerPairs). set.is_subset s (owners_in c.add_all.new.self)) (sym c.self.view_is)
    ∙ owners-subset c.self.inside.pairs c.add_all.new.self within)
    c.add_all.ensures.err_keeps

pub returns-clause-err_adds : goal.returns-clause-err_adds
returns-clause-err_adds c =
    on_err_weaker c.add_all.result
    (λ within. ap (λ (s : OwnerPairs). set.is_subset (owners_in c.add_all.new.self) s)
    (sym (owners-union c.self.inside.pairs c.others.inside.pairs
    ∙ (λ i. set.union (c.self.view_is i) (c.others.view_is i))))
    ∙ owners-subset c.add_all.new.self (set.union c.self.inside.pairs c.others.inside.pairs) within)
    c.add_all.ensures.err_adds
