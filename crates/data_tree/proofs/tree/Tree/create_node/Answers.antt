use Rattle.std.proofs.Common.{List, [], refl, ◌≡◌, ap, sym, ◌∙◌}
use Rattle.std.specs.FinMap as finmap
use Rattle.std.proofs.Math.Path.{subst}
use Rattle.jute.specs.declared.codes.TheConstants.{NODE_EXISTS}
use Rattle.txn_codec.specs.declared.txn.Operation.TheVariants as op
use Rattle.data_tree.specs.Inner.Doing.{IsEffectDone}
use Rattle.data_tree.specs.declared.outcome.Trigger.{Trigger}
use Rattle.data_tree.specs.Inner.Mending.{with_mended}
use Rattle.paths_and_acls.specs.Acls.{acl_or_open}
use Rattle.paths_and_acls.specs.Paths.{parent_of, name_of}
use Rattle.data_tree.specs.State.{State}
use Rattle.data_tree.specs.Meaning.{of_operation}
use Rattle.node_map.specs.declared.node.Node.{Node}
use Rattle.node_map.specs.Updates.{update_node}
use Rattle.node_map.specs.Children.{with_added_child, added_child, without_added_child}
use Rattle.data_tree.proofs.Creates.{taken-done, undone_child}
use Rattle.data_tree.proofs.tree.Tree.create_node.Goals as goal

pub returns-in-Taken : goal.returns-in-Taken
returns-in-Taken c =
    let parent : c.args.parent.now ≡ parent_of c.args.create.now.path = c.requires in
    let name : c.name.result.now ≡ name_of c.args.create.now.path = c.name.ensures in
    let before : State =
    record { nodes = c.self.inside.nodes; pairs = c.self.inside.ephemerals; sessions = c.self.inside.timeouts } in
    let none : List Trigger = [] in
    let t : State =
    record { nodes = c.add_child.new.self; pairs = c.self.inside.ephemerals; sessions = c.self.inside.timeouts } in
    let ended : c.mend.new.self
    ≡ with_mended c.args.header.now.rules c.args.create.now.path (acl_or_open c.args.create.now.acl) t =
    c.mend.ensures
    ∙ (λ i. with_mended c.args.header.now.rules (c.as_str.ensures.text i)
    (ap (λ (n : Node). n.acl) c.in_ok-node.ensures i) t) in
    let done =
    subst (λ (s : State). IsEffectDone (of_operation c.args.header.now (op.Create c.args.create.now) s) NODE_EXISTS
    c.mend.new.self none none) c.self.view_is
    (subst (λ (s : State). IsEffectDone (of_operation c.args.header.now (op.Create c.args.create.now) before)
    NODE_EXISTS s none none) (sym ended)
    (taken-done before c.args.header.now c.args.create.now c.add_child.new.self none none
    (sym c.in-Taken.is ∙ c.in_ok-add_child.ensures.outcome
    ∙ (λ i. added_child (finmap.get c.self.inside.nodes (parent i)) (name i)))
    (c.in_ok-add_child.ensures.state
    ∙ (λ i. update_node c.self.inside.nodes (parent i) (with_added_child c.args.header.now c.args.create.now (name i))))
    refl)) in
    record { state = done.state; err = done.err }

pub returns-in-Err : goal.returns-in-Err
returns-in-Err c =
    let name : c.name.result.now ≡ name_of c.args.create.now.path = c.name.ensures in
    let kept = c.self-in-Added.view_is ∙ c.in-Err.ensures.err in
    let nodes : c.undo_add_child.new.self ≡ c.self.inside.nodes =
    c.undo_add_child.ensures
    ∙ (λ i. update_node ((ap (λ (s : State). s.nodes) kept ∙ c.in_ok-add_child.ensures.state) i)
    c.args.parent.now (without_added_child ((c.name-in-Err.ensures ∙ sym name) i) c.in-Added.stat))
    ∙ undone_child c.self.inside.nodes c.args.parent.now c.name.result.now c.args.header.now
    c.args.create.now c.in-Added.stat
    (sym c.in-Added.is ∙ c.in_ok-add_child.ensures.outcome) in
    (λ i. record { nodes = nodes i; pairs = (kept i).pairs; sessions = (kept i).sessions }) ∙ c.self.view_is
