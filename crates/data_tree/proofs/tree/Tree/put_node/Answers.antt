use Rattle.std.proofs.Common.{rules, ◌≡◌, true, false, not, sym, ap, ◌∙◌}
use Rattle.std.specs.FinMap as finmap
use Rattle.paths_and_acls.specs.Paths.{is_root, parent_of, name_of}
use Rattle.node_map.specs.Agreement.{has_node}
use Rattle.node_map.specs.Updates.{update_node, with_name}
use Rattle.node_map.specs.Children.{added_child, without_name}
use Rattle.node_map.specs.declared.added_child.AddedChild.TheVariants.{Taken, Added}
use Rattle.node_map.proofs.NodeUpdates.{undone_name, kept_name}
use Rattle.data_tree.specs.State.{State}
use Rattle.data_tree.specs.Making.{with_node_in_place, has_place}
use Rattle.data_tree.specs.Inner.Placing.{with_new_node_placed}
use Rattle.data_tree.proofs.Placing.{listing, taken_place, taken_placed, added_place, added_placed, refused, old_node_kept, each_ok, where_ok, where_err}
use Rattle.data_tree.proofs.tree.Tree.put_node.Goals as goal

pub returns-in-Taken-clause-placed : goal.returns-in-Taken-clause-placed
returns-in-Taken-clause-placed c =
    let s : State =
    record { nodes = c.self.inside.nodes; pairs = c.self.inside.ephemerals; sessions = c.self.inside.timeouts } in
    let other : is_root c.args.path.now ≡ false = search rules in
    let parent : c.parent.result.now ≡ parent_of c.args.path.now = c.parent.ensures in
    let name : c.name.result.now ≡ name_of c.args.path.now = c.name.ensures in
    let nodes : c.add_name.new.self ≡ (listing s c.args.path.now).nodes =
    c.in_ok-add_name.ensures.state
    ∙ (λ i. update_node c.self.inside.nodes (parent i) (with_name (name i))) in
    let taken : Taken ≡ added_child (finmap.get s.nodes (parent_of c.args.path.now)) (name_of c.args.path.now) =
    sym c.in-Taken.is ∙ c.in_ok-add_name.ensures.outcome
    ∙ (λ i. added_child (finmap.get c.self.inside.nodes (parent i)) (name i)) in
    each_ok c.place_new_node.result
    (λ placed e. e ∙ (λ i. not (has_node (nodes i) (c.as_str-in-Taken.ensures.text i)))
    ∙ taken_place s c.args.path.now c.args.node other taken
    ∙ ap (λ (t : State). has_place t.nodes c.args.path.now) c.self.view_is)
    c.place_new_node.ensures.new

pub returns-in-Taken-clause-state : goal.returns-in-Taken-clause-state
returns-in-Taken-clause-state c =
    let s : State =
    record { nodes = c.self.inside.nodes; pairs = c.self.inside.ephemerals; sessions = c.self.inside.timeouts } in
    let other : is_root c.args.path.now ≡ false = search rules in
    let parent : c.parent.result.now ≡ parent_of c.args.path.now = c.parent.ensures in
    let name : c.name.result.now ≡ name_of c.args.path.now = c.name.ensures in
    let nodes : c.add_name.new.self ≡ (listing s c.args.path.now).nodes =
    c.in_ok-add_name.ensures.state
    ∙ (λ i. update_node c.self.inside.nodes (parent i) (with_name (name i))) in
    let taken : Taken ≡ added_child (finmap.get s.nodes (parent_of c.args.path.now)) (name_of c.args.path.now) =
    sym c.in-Taken.is ∙ c.in_ok-add_name.ensures.outcome
    ∙ (λ i. added_child (finmap.get c.self.inside.nodes (parent i)) (name i)) in
    where_ok c.place_new_node.result
    (λ e. e
    ∙ (λ i. with_new_node_placed
    (record { nodes = nodes i; pairs = c.self.inside.ephemerals; sessions = c.self.inside.timeouts })
    (c.as_str-in-Taken.ensures.text i) c.args.node)
    ∙ taken_placed s c.args.path.now c.args.node other taken
    ∙ ap (λ (t : State). with_node_in_place t c.args.path.now c.args.node) c.self.view_is)
    c.place_new_node.ensures.state

pub returns-in-Taken-clause-err : goal.returns-in-Taken-clause-err
returns-in-Taken-clause-err c =
    let parent : c.parent.result.now ≡ parent_of c.args.path.now = c.parent.ensures in
    let name : c.name.result.now ≡ name_of c.args.path.now = c.name.ensures in
    let nodes : c.add_name.new.self ≡ c.self.inside.nodes =
    c.in_ok-add_name.ensures.state
    ∙ kept_name c.self.inside.nodes c.parent.result.now c.name.result.now
    (sym c.in-Taken.is ∙ c.in_ok-add_name.ensures.outcome) in
    where_err c.place_new_node.result
    (λ e. e
    ∙ (λ i. record { nodes = nodes i; pairs = c.self.inside.ephemerals; sessions = c.self.inside.timeouts })
    ∙ c.self.view_is)
    c.place_new_node.ensures.err

pub returns-in-Ok-true-clause-placed : goal.returns-in-Ok-true-clause-placed
returns-in-Ok-true-clause-placed c =
    let s : State =
    record { nodes = c.self.inside.nodes; pairs = c.self.inside.ephemerals; sessions = c.self.inside.timeouts } in
    let other : is_root c.args.path.now ≡ false = search rules in
    let parent : c.parent.result.now ≡ parent_of c.args.path.now = c.parent.ensures in
    let name : c.name.result.now ≡ name_of c.args.path.now = c.name.ensures in
    let nodes : c.add_name.new.self ≡ (listing s c.args.path.now).nodes =
    c.in_ok-add_name.ensures.state
    ∙ (λ i. update_node c.self.inside.nodes (parent i) (with_name (name i))) in
    let added : Added c.in-Added.field-0
    ≡ added_child (finmap.get s.nodes (parent_of c.args.path.now)) (name_of c.args.path.now) =
    sym c.in-Added.is ∙ c.in_ok-add_name.ensures.outcome
    ∙ (λ i. added_child (finmap.get c.self.inside.nodes (parent i)) (name i)) in
    let new : c.in-Ok-true.field-0 ≡ true = search rules in
    sym new ∙ c.in-Ok-true.ensures.new
    ∙ (λ i. not (has_node (nodes i) (c.as_str-in-Added.ensures.text i)))
    ∙ added_place s c.args.path.now c.args.node other c.in-Added.field-0 added
    ∙ ap (λ (t : State). has_place t.nodes c.args.path.now) c.self.view_is

pub returns-in-Ok-true-clause-state : goal.returns-in-Ok-true-clause-state
returns-in-Ok-true-clause-state c =
    let s : State =
    record { nodes = c.self.inside.nodes; pairs = c.self.inside.ephemerals; sessions = c.self.inside.timeouts } in
    let other : is_root c.args.path.now ≡ false = search rules in
    let parent : c.parent.result.now ≡ parent_of c.args.path.now = c.parent.ensures in
    let name : c.name.result.now ≡ name_of c.args.path.now = c.name.ensures in
    let nodes : c.add_name.new.self ≡ (listing s c.args.path.now).nodes =
    c.in_ok-add_name.ensures.state
    ∙ (λ i. update_node c.self.inside.nodes (parent i) (with_name (name i))) in
    let added : Added c.in-Added.field-0
    ≡ added_child (finmap.get s.nodes (parent_of c.args.path.now)) (name_of c.args.path.now) =
    sym c.in-Added.is ∙ c.in_ok-add_name.ensures.outcome
    ∙ (λ i. added_child (finmap.get c.self.inside.nodes (parent i)) (name i)) in
    let new : c.in-Ok-true.field-0 ≡ true = search rules in
    let here : not (has_node (listing s c.args.path.now).nodes c.args.path.now) ≡ true =
    sym (sym new ∙ c.in-Ok-true.ensures.new
    ∙ (λ i. not (has_node (nodes i) (c.as_str-in-Added.ensures.text i)))) in
    c.in-Ok-true.ensures.state
    ∙ (λ i. with_new_node_placed
    (record { nodes = nodes i; pairs = c.self.inside.ephemerals; sessions = c.self.inside.timeouts })
    (c.as_str-in-Added.ensures.text i) c.args.node)
    ∙ added_placed s c.args.path.now c.args.node other here
    (sym here ∙ added_place s c.args.path.now c.args.node other c.in-Added.field-0 added)
    ∙ ap (λ (t : State). with_node_in_place t c.args.path.now c.args.node) c.self.view_is

pub returns-in-Ok-false-clause-placed : goal.returns-in-Ok-false-clause-placed
returns-in-Ok-false-clause-placed c =
    let s : State =
    record { nodes = c.self.inside.nodes; pairs = c.self.inside.ephemerals; sessions = c.self.inside.timeouts } in
    let other : is_root c.args.path.now ≡ false = search rules in
    let parent : c.parent.result.now ≡ parent_of c.args.path.now = c.parent.ensures in
    let name : c.name.result.now ≡ name_of c.args.path.now = c.name.ensures in
    let nodes : c.add_name.new.self ≡ (listing s c.args.path.now).nodes =
    c.in_ok-add_name.ensures.state
    ∙ (λ i. update_node c.self.inside.nodes (parent i) (with_name (name i))) in
    let added : Added c.in-Added.field-0
    ≡ added_child (finmap.get s.nodes (parent_of c.args.path.now)) (name_of c.args.path.now) =
    sym c.in-Added.is ∙ c.in_ok-add_name.ensures.outcome
    ∙ (λ i. added_child (finmap.get c.self.inside.nodes (parent i)) (name i)) in
    let old : c.in-Ok-false.field-0 ≡ false = search rules in
    sym old ∙ c.in-Ok-false.ensures.new
    ∙ (λ i. not (has_node (nodes i) (c.as_str-in-Added.ensures.text i)))
    ∙ added_place s c.args.path.now c.args.node other c.in-Added.field-0 added
    ∙ ap (λ (t : State). has_place t.nodes c.args.path.now) c.self.view_is

pub returns-in-Ok-false-clause-state : goal.returns-in-Ok-false-clause-state
returns-in-Ok-false-clause-state c =
    let s : State =
    record { nodes = c.self.inside.nodes; pairs = c.self.inside.ephemerals; sessions = c.self.inside.timeouts } in
    let listed : State =
    record { nodes = c.add_name.new.self; pairs = c.self.inside.ephemerals; sessions = c.self.inside.timeouts } in
    let other : is_root c.args.path.now ≡ false = search rules in
    let parent : c.parent.result.now ≡ parent_of c.args.path.now = c.parent.ensures in
    let name : c.name.result.now ≡ name_of c.args.path.now = c.name.ensures in
    let nodes : c.add_name.new.self ≡ (listing s c.args.path.now).nodes =
    c.in_ok-add_name.ensures.state
    ∙ (λ i. update_node c.self.inside.nodes (parent i) (with_name (name i))) in
    let added : Added c.in-Added.field-0
    ≡ added_child (finmap.get s.nodes (parent_of c.args.path.now)) (name_of c.args.path.now) =
    sym c.in-Added.is ∙ c.in_ok-add_name.ensures.outcome
    ∙ (λ i. added_child (finmap.get c.self.inside.nodes (parent i)) (name i)) in
    let old : c.in-Ok-false.field-0 ≡ false = search rules in
    let here : false ≡ not (has_node c.add_name.new.self c.as_str-in-Added.result.now) =
    sym old ∙ c.in-Ok-false.ensures.new in
    let kept =
    c.self-in-Added.view_is ∙ c.in-Ok-false.ensures.state
    ∙ old_node_kept listed c.as_str-in-Added.result.now c.args.node here in
    let taken_out : c.remove_name.new.self ≡ c.self.inside.nodes =
    c.remove_name.ensures
    ∙ (λ i. update_node ((ap (λ (t : State). t.nodes) kept ∙ c.in_ok-add_name.ensures.state) i)
    ((c.parent-in-Ok-false.ensures ∙ sym c.parent.ensures) i)
    (without_name ((c.name-in-Ok-false.ensures ∙ sym name) i)))
    ∙ undone_name c.self.inside.nodes c.parent.result.now c.name.result.now c.in-Added.field-0
    (sym c.in-Added.is ∙ c.in_ok-add_name.ensures.outcome) in
    (λ i. record { nodes = taken_out i; pairs = (kept i).pairs; sessions = (kept i).sessions })
    ∙ refused s c.args.path.now c.args.node other
    (here ∙ (λ i. not (has_node (nodes i) (c.as_str-in-Added.ensures.text i)))
    ∙ added_place s c.args.path.now c.args.node other c.in-Added.field-0 added)
    ∙ ap (λ (t : State). with_node_in_place t c.args.path.now c.args.node) c.self.view_is

pub returns-in-Err-clause-err : goal.returns-in-Err-clause-err
returns-in-Err-clause-err c =
    let name : c.name.result.now ≡ name_of c.args.path.now = c.name.ensures in
    let kept = c.self-in-Added.view_is ∙ c.in-Err.ensures.err in
    let taken_out : c.remove_name-in-Err.new.self ≡ c.self.inside.nodes =
    c.remove_name-in-Err.ensures
    ∙ (λ i. update_node ((ap (λ (t : State). t.nodes) kept ∙ c.in_ok-add_name.ensures.state) i)
    ((c.parent-in-Err.ensures ∙ sym c.parent.ensures) i)
    (without_name ((c.name-in-Err.ensures ∙ sym name) i)))
    ∙ undone_name c.self.inside.nodes c.parent.result.now c.name.result.now c.in-Added.field-0
    (sym c.in-Added.is ∙ c.in_ok-add_name.ensures.outcome) in
    (λ i. record { nodes = taken_out i; pairs = (kept i).pairs; sessions = (kept i).sessions }) ∙ c.self.view_is
