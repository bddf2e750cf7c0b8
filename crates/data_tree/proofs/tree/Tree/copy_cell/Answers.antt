use Rattle.std.proofs.Common.{subst}
use Rattle.std.proofs.lemmas.Result.{on_ok_weaker}
use Rattle.data_tree.specs.State.{State}
use Rattle.data_tree.specs.Cells.{CopiesCell}
use Rattle.data_tree.proofs.MovedCells.{cell_copied}
use Rattle.data_tree.specs.contracts.tree.Tree as tree
use Rattle.data_tree.proofs.tree.Tree.copy_cell.Goals as goal

pub returns : goal.returns
returns c =
    let path = c.args.path.now in
    let from = tree.the_view c.from.inside in
    let old = tree.the_view c.self.inside in
    let new = tree.the_view record {
      nodes = c.copy_node.new.self;
      ephemerals = c.copy_path.new.self;
      timeouts = c.self.inside.timeouts;
    } in
    on_ok_weaker c.copy_path.result
    (λ copied.
    subst (λ (s : State). CopiesCell path c.args.from.now s new) c.self.view_is
    (subst (λ (s : State). CopiesCell path s old new) c.from.view_is
    (cell_copied path from old c.copy_node.new.self c.copy_path.new.self c.in_ok-copy_node.ensures.ok copied)))
    c.copy_path.ensures
