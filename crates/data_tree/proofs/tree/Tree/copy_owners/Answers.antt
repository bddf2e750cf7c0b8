use Rattle.std.proofs.Common.{◌≡◌, cond, None, sym, ap, subst, ◌∙◌}
use Rattle.std.proofs.lemmas.Result.{on_ok_weaker}
use Rattle.std.specs.Ordering.{is_eq}
use Rattle.std.specs.Cmp.{tied_itself}
use Rattle.std.specs.FinMap as finmap
use Rattle.ephemerals.proofs.Totals.{path_total}
use Rattle.node_map.specs.Updates.{with_node_at}
use Rattle.data_tree.specs.State.{State}
use Rattle.data_tree.specs.Cells.{CopiesCell, without_node}
use Rattle.data_tree.proofs.MovedCells.{cell_copied}
use Rattle.data_tree.specs.contracts.tree.Tree as tree
use Rattle.data_tree.proofs.tree.Tree.copy_owners.Goals as goal

pub returns : goal.returns
returns c =
    let path = c.args.path.now in
    let from = tree.the_view c.from.inside in
    let old = tree.the_view c.self.inside in
    let new = tree.the_view record {
      nodes = c.remove.new.self;
      ephemerals = c.copy_path.new.self;
      timeouts = c.self.inside.timeouts;
    } in
    let gone : finmap.get (finmap.remove from.nodes path) path ≡ None =
    finmap.get-remove path_total from.nodes path path
    ∙ ap (λ r. cond (is_eq r) None (finmap.get from.nodes path)) (tied_itself path_total path) in
    on_ok_weaker c.copy_path.result
    (λ copied.
    subst (λ (s : State). CopiesCell path (without_node path c.args.from.now) s new) c.self.view_is
    (subst (λ (s : State). CopiesCell path (without_node path s) old new) c.from.view_is
    (cell_copied path (without_node path from) old c.remove.new.self c.copy_path.new.self
    (c.remove.ensures.removed ∙ sym (ap (λ o. with_node_at path o old.nodes) gone)) copied)))
    c.copy_path.ensures
