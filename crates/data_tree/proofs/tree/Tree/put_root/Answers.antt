use Rattle.std.proofs.Common.{rules, ◌≡◌, ◌∙◌}
use Rattle.std.specs.FinMap as finmap
use Rattle.data_tree.proofs.Placing.{root_placed}
use Rattle.data_tree.proofs.tree.Tree.put_root.Goals as goal

pub returns-clause-state : goal.returns-clause-state
returns-clause-state c =
    let none : finmap.len c.args.self.now.nodes ≡ 0 = search rules in
    c.in_ok-place_node.ensures.ok ∙ root_placed c.args.self.now c.args.node none
