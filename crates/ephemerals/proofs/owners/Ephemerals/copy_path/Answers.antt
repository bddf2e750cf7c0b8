use Rattle.std.proofs.Common.{sym, ap, subst, ◌∙◌}
use Rattle.std.proofs.lemmas.Result.{on_ok_weaker}
use Rattle.std.specs.FinSet as set
use Rattle.ephemerals.specs.Orders.{OwnerPairs}
use Rattle.ephemerals.specs.Pairs.{CopiesPath}
use Rattle.ephemerals.specs.Inner.Steps.{pairs_on}
use Rattle.ephemerals.proofs.Steps.{path_copied}
use Rattle.ephemerals.proofs.owners.Ephemerals.copy_path.Goals as goal

pub returns : goal.returns
returns c =
    let path = c.args.path.now in
    on_ok_weaker c.add_on.result
    (λ is. subst (λ (s : OwnerPairs). CopiesPath path c.args.others.now c.args.self.now s)
    (sym (is ∙ ap (λ (s : OwnerPairs). set.union s (pairs_on path c.args.others.now)) c.drop_on.ensures))
    (path_copied path c.args.others.now c.args.self.now))
    c.add_on.ensures
