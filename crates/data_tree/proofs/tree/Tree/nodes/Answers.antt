use Rattle.std.proofs.Common.{subst}
use Rattle.std.specs.FinMap as finmap
use Rattle.std.specs.List.Sorted.{IsPermutation}
use Rattle.data_tree.specs.State.{State}
use Rattle.data_tree.proofs.tree.Tree.nodes.Goals as goal

pub returns-clause-entries : goal.returns-clause-entries
returns-clause-entries c =
    subst (λ (s : State). IsPermutation (finmap.entries s.nodes) c.iter.result) c.self.view_is c.iter.ensures.entries
