use Rattle.std.proofs.Common.{rules, List, [], ◌≡◌, refl, is_some, w64, ap, sym, ◌∙◌}
use mir.Val.{SFits}
use Rattle.std.specs.FinMap as finmap
use Rattle.std.proofs.Math.Path.{subst}
use Rattle.jute.specs.declared.codes.TheConstants.{NO_NODE}
use Rattle.data_tree.specs.Inner.Doing.{IsEffectDone}
use Rattle.data_tree.specs.Inner.Mending.{with_missing}
use Rattle.std.proofs.lemmas.Int.{to_z-of_z}
use Rattle.ephemerals.specs.Pairs.{without_pair}
use Rattle.paths_and_acls.specs.Paths.{parent_of}
use Rattle.data_tree.specs.State.{State}
use Rattle.data_tree.specs.Meaning.{after_changes, delete_at, delete_of, of_operation}
use Rattle.node_map.specs.Updates.{update_node}
use Rattle.node_map.specs.Children.{without_child}
use Rattle.data_tree.specs.declared.outcome.Trigger.{Trigger}
use Rattle.data_tree.proofs.Deletes.{missing-done, deleted-is}
use Rattle.data_tree.proofs.tree.Tree.delete_node.Goals as goal

pub returns-in_default : goal.returns-in_default
returns-in_default c =
    let before : State =
    record { nodes = c.self.inside.nodes; pairs = c.self.inside.ephemerals; sessions = c.self.inside.timeouts } in
    let none : List Trigger = [] in
    let t : State =
    record { nodes = c.remove.new.self; pairs = c.self.inside.ephemerals; sessions = c.self.inside.timeouts } in
    let ended : c.miss.new.self ≡ with_missing c.args.header.now.rules c.args.header.now c.args.path.now t =
    c.miss.ensures in
    let done =
    subst (λ (s : State). IsEffectDone (of_operation c.args.header.now (delete_of c.args.path.now) s) NO_NODE
    c.miss.new.self none none) c.self.view_is
    (subst (λ (s : State). IsEffectDone (of_operation c.args.header.now (delete_of c.args.path.now) before) NO_NODE s
    none none) (sym ended)
    (missing-done before c.args.header.now c.args.path.now c.remove.new.self none none c.in_default.ensures.value
    c.in_default.ensures.removed refl)) in
    record { state = done.state; err = done.err }

pub returns : goal.returns
returns c =
    let before : State =
    record { nodes = c.self.inside.nodes; pairs = c.self.inside.ephemerals; sessions = c.self.inside.timeouts } in
    let fits : SFits w64 c.in-Some.node.stat.ephemeral_owner = search rules in
    let state =
    deleted-is before c.args.header.now c.args.path.now c.in-Some.node c.remove_child.new.self c.remove-2.new.self
    c.in-Some.ensures.value
    (c.if-not-remove_child.ensures.found
    ∙ (λ i. is_some (finmap.get (c.in-Some.ensures.removed i) (c.requires i))))
    (c.if-not-remove_child.ensures.state
    ∙ (λ i. update_node (c.in-Some.ensures.removed i) (c.requires i)
    (without_child (c.name_of.ensures i) c.args.header.now)))
    (c.remove-2.ensures
    ∙ (λ i. without_pair c.self.inside.ephemerals (to_z-of_z w64 c.in-Some.node.stat.ephemeral_owner fits i)
    c.args.path.now))
    ∙ ap (λ (s : State). after_changes s
    (delete_at c.args.header.now c.args.path.now (finmap.get s.nodes c.args.path.now)
    (finmap.get (finmap.remove s.nodes c.args.path.now) (parent_of c.args.path.now))).changes) c.self.view_is in
    record { state = state; err = search rules }
