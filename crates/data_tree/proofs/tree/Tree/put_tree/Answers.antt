use Rattle.std.proofs.Common.{subst}
use Rattle.std.proofs.lemmas.Result.{on_err_weaker}
use Rattle.data_tree.specs.State.{State}
use Rattle.data_tree.specs.Cells.{HasPartOfCells}
use Rattle.data_tree.proofs.MovedCells.{part_put}
use Rattle.data_tree.specs.contracts.tree.Tree as tree
use Rattle.data_tree.proofs.tree.Tree.put_tree.Goals as goal

pub returns-clause-err : goal.returns-clause-err
returns-clause-err c =
    on_err_weaker c.append.result
    (λ between.
    subst (λ (old : State). HasPartOfCells c.args.cells old (tree.the_view record {
      nodes = c.append.new.self;
      ephemerals = c.add_all.new.self;
      timeouts = c.self.inside.timeouts;
    })) c.self.view_is
    (subst (λ (cells : State). HasPartOfCells cells (tree.the_view c.self.inside) (tree.the_view record {
      nodes = c.append.new.self;
      ephemerals = c.add_all.new.self;
      timeouts = c.self.inside.timeouts;
    })) c.cells.view_is
    (part_put (tree.the_view c.cells.inside) (tree.the_view c.self.inside) c.append.new.self c.add_all.new.self
    c.in_ok-add_all.ensures.ok between))) c.append.ensures.err
