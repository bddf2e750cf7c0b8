use Rattle.std.proofs.Common.{◌≡◌, true, ap, sym, ◌∙◌, int_lt, if◌then◌else◌}
use Rattle.std.specs.FinSet as set
use Rattle.std.proofs.lemmas.Map.Lookups.{exact_bytes}
use Rattle.node_map.specs.declared.node.Node.{Node}
use Rattle.jute.specs.declared.stat.StatPersisted.{StatPersisted}
use Rattle.ephemerals.proofs.Totals.{path_total}
use Rattle.std.proofs.lemmas.Bool.{not-false}
use Rattle.values.proofs.SetSteps.{insert-present}
use Rattle.node_map.proofs.NodeUpdates.{added_child_taken}
use Rattle.node_map.proofs.node.Node.add_child.Goals as goal

pub returns-clause-state : goal.returns-clause-state
returns-clause-state c =
    let before : Node = c.args.self.now in
    let taken : set.contains before.children c.args.name.now ≡ true =
    not-false (set.contains before.children c.args.name.now)
    (sym c.in_ok-added.ensures.added ∙ c.if-added.false) in
    let same : c.insert.new.self ≡ before.children =
    c.in_ok-added.ensures.ok
    ∙ sym (insert-present path_total exact_bytes before.children c.args.name.now taken) in
    (λ i. record before {
      stat =
          (c.higher_stat-self.ensures
          ∙ ap (λ (a : StatPersisted). if int_lt before.stat.cversion a.cversion then a else before.stat)
          c.stat_after_create-after.ensures) i;
      children = same i;
    })
    ∙ sym (added_child_taken c.args.header.now c.args.create.now c.args.name.now before taken)
