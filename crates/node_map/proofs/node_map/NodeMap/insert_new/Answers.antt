use Rattle.std.proofs.Common.{◌≡◌, not, is_some, ap, sym, ◌∙◌}
use Rattle.std.specs.FinMap as finmap
use Rattle.node_map.specs.Updates.{update_node}
use Rattle.pairs.proofs.Hashed.{get-hashed, map_of-insert}
use Rattle.node_map.proofs.NodeUpdates.{new_node_put, old_node_put_back}
use Rattle.node_map.proofs.node_map.NodeMap.insert_new.Goals as goal

pub returns-in-None-clause-new : goal.returns-in-None-clause-new
returns-in-None-clause-new c =
    let found : finmap.get c.args.self.now c.args.path.now ≡ c.in_ok-insert.field-0 =
    (λ i. finmap.get (sym c.self.view_is i) (sym c.in_ok-key.ensures i))
    ∙ get-hashed c.self.inside.map.entries c.in_ok-key.key
    ∙ sym c.in_ok-insert.ensures.old in
    ap (λ o. not (is_some o)) (sym (found ∙ c.in-None.is))

pub returns-in-None-clause-state : goal.returns-in-None-clause-state
returns-in-None-clause-state c =
    let found : finmap.get c.args.self.now c.args.path.now ≡ c.in_ok-insert.field-0 =
    (λ i. finmap.get (sym c.self.view_is i) (sym c.in_ok-key.ensures i))
    ∙ get-hashed c.self.inside.map.entries c.in_ok-key.key
    ∙ sym c.in_ok-insert.ensures.old in
    map_of-insert c.in_ok-key.key c.self.inside.map c.insert.new.self c.args.node
    c.in_ok-insert.ensures.updates
    ∙ (λ i. finmap.insert (c.self.view_is i) (c.in_ok-key.ensures i) c.args.node)
    ∙ new_node_put c.args.self.now c.args.path.now c.args.node (found ∙ c.in-None.is)

pub returns-in-Some-clause-new : goal.returns-in-Some-clause-new
returns-in-Some-clause-new c =
    let found : finmap.get c.args.self.now c.args.path.now ≡ c.in_ok-insert.field-0 =
    (λ i. finmap.get (sym c.self.view_is i) (sym c.in_ok-key.ensures i))
    ∙ get-hashed c.self.inside.map.entries c.in_ok-key.key
    ∙ sym c.in_ok-insert.ensures.old in
    ap (λ o. not (is_some o)) (sym (found ∙ c.in-Some.is))

pub returns-in-Some-clause-state : goal.returns-in-Some-clause-state
returns-in-Some-clause-state c =
    let found : finmap.get c.args.self.now c.args.path.now ≡ c.in_ok-insert.field-0 =
    (λ i. finmap.get (sym c.self.view_is i) (sym c.in_ok-key.ensures i))
    ∙ get-hashed c.self.inside.map.entries c.in_ok-key.key
    ∙ sym c.in_ok-insert.ensures.old in
    let put =
    map_of-insert c.in_ok-key.key c.self.inside.map c.insert.new.self c.args.node
    c.in_ok-insert.ensures.updates
    ∙ (λ i. finmap.insert (c.self.view_is i) (c.in_ok-key.ensures i) c.args.node) in
    c.replace.ensures
    ∙ (λ i. update_node (put i) c.args.path.now (λ _. c.in-Some.old))
    ∙ old_node_put_back c.args.self.now c.args.path.now c.args.node c.in-Some.old (found ∙ c.in-Some.is)
