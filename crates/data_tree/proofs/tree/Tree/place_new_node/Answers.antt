use Rattle.std.proofs.Common.{rules, ◌≡◌, true, sym, ap, ◌∙◌}
use Rattle.std.specs.FinMap as finmap
use Rattle.data_tree.proofs.Placing.{new_node_removed}
use Rattle.data_tree.proofs.tree.Tree.place_new_node.Goals as goal

pub returns-in-Err-clause-err : goal.returns-in-Err-clause-err
returns-in-Err-clause-err c =
    let new : c.in_ok-insert_new.field-0 ≡ true = search rules in
    let nodes : c.remove.new.self ≡ c.self.inside.nodes =
    c.remove.ensures.removed
    ∙ ap (λ m. finmap.remove m c.args.path.now) c.in_ok-insert_new.ensures.state
    ∙ new_node_removed c.self.inside.nodes c.args.path.now c.args.node (sym c.in_ok-insert_new.ensures.new ∙ new) in
    (λ i. record { nodes = nodes i; pairs = c.in-Err.ensures.err i; sessions = c.self.inside.timeouts })
    ∙ c.self.view_is
