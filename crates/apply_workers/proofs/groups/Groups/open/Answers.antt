use Rattle.std.proofs.Common.{map, sym, ap, ◌∙◌, subst}
use Rattle.data_tree.specs.Cells.{cells_at}
use Rattle.batcher.specs.Class.{TxnGroup}
use Rattle.batcher.specs.Cut.{groups_of}
use Rattle.apply_workers.specs.Taking.{cells_of_each}
use Rattle.apply_workers.specs.Hands.{unclaimed_group, AreWithinGroups}
use Rattle.apply_workers.proofs.Shown.{opened_shown, held_untouched}
use Rattle.apply_workers.proofs.groups.Groups.open.Goals as goal

pub invariant_of-result : goal.invariant_of-result
invariant_of-result c =
    let s = c.args.tree.now in
    let are = c.in_ok-hands.ensures
    ∙ ap (map unclaimed_group) (c.in_ok-cells.ensures.cells
    ∙ ap (λ cs. cells_of_each cs s) c.groups-2.ensures
    ∙ (c.groups_are_taken.ensures s c.args.batch).each) in
    subst (λ hs. AreWithinGroups (groups_of c.args.batch) hs) (sym are)
    (held_untouched (λ (d : TxnGroup). cells_at d.paths s) (groups_of c.args.batch))

pub returns-clause-groups : goal.returns-clause-groups
returns-clause-groups c =
    let s = c.args.tree.now in
    opened_shown c.groups.ensures.each s c.args.batch c.in_ok-hands.hands.items
    (c.in_ok-hands.ensures
    ∙ ap (map unclaimed_group) (c.in_ok-cells.ensures.cells
    ∙ ap (λ cs. cells_of_each cs s) c.groups-2.ensures
    ∙ (c.groups_are_taken.ensures s c.args.batch).each))
