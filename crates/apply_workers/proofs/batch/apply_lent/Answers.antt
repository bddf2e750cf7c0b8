use Rattle.std.proofs.Common.{rules, ◌≡◌, true, false, sym, ap, ap₂, subst, ◌∙◌, length}
use Rattle.std.proofs.lemmas.Result.{on_ok_weaker}
use Rattle.data_tree.specs.Meaning.{outcomes_of_txns}
use Rattle.batcher.specs.Cut.{groups_of, is_batch, is_barrier_alone}
use Rattle.apply_workers.specs.Homing.{with_timeouts_set, with_all_cells, IsSplitByGroup}
use Rattle.apply_workers.specs.Taking.{cells_of_each, without_group_cells}
use Rattle.apply_workers.proofs.CameHome.{if_ok, came_home, cells_length}
use Rattle.apply_workers.proofs.batch.apply_lent.Goals as goal

pub works-requires : goal.works-requires
works-requires g c =
    ap length (c.in_ok-cells.ensures.cells ∙ ap (λ cs. cells_of_each cs c.args.tree.now) c.groups-2.ensures.groups)
    ∙ cells_length (groups_of c.args.batch.now) c.args.tree.now

pub returns-clause-tree : goal.returns-clause-tree
returns-clause-tree g c =
    let s = c.args.tree.now in
    let batch : is_batch c.args.batch.now ≡ true = search rules in
    let alone : is_barrier_alone c.args.batch.now ≡ false = search rules in
    let law = c.groups_come_home.ensures s c.args.batch.now batch alone in
    let back = came_home c.in_ok-works.works.items c.in_ok-groups.groups.items _ _ c.in_ok-done.done.cells.items
    c.in_ok-done.done.outcomes.items c.in_ok-groups.ensures.count c.in_ok-groups.ensures.home
    c.in_ok-done.ensures.homes c.in_ok-done.ensures.count
    (c.in_ok-works.ensures.cells ∙ c.in_ok-cells.ensures.cells ∙ ap (λ cs. cells_of_each cs s) c.groups-2.ensures.groups)
    c.in_ok-works.ensures.txns in
    let left = c.in_ok-cells.ensures.rest ∙ ap (λ cs. without_group_cells cs s) c.groups-2.ensures.groups in
    on_ok_weaker c.home.result
    (λ h. h ∙ ap₂ (λ cs u. with_timeouts_set c.args.batch.now (with_all_cells cs u)) back.left left ∙ law.state)
    c.home.ensures.tree

pub returns-clause-outcomes : goal.returns-clause-outcomes
returns-clause-outcomes g c =
    let s = c.args.tree.now in
    let batch : is_batch c.args.batch.now ≡ true = search rules in
    let alone : is_barrier_alone c.args.batch.now ≡ false = search rules in
    let law = c.groups_come_home.ensures s c.args.batch.now batch alone in
    let back = came_home c.in_ok-works.works.items c.in_ok-groups.groups.items _ _ c.in_ok-done.done.cells.items
    c.in_ok-done.done.outcomes.items c.in_ok-groups.ensures.count c.in_ok-groups.ensures.home
    c.in_ok-done.ensures.homes c.in_ok-done.ensures.count
    (c.in_ok-works.ensures.cells ∙ c.in_ok-cells.ensures.cells ∙ ap (λ cs. cells_of_each cs s) c.groups-2.ensures.groups)
    c.in_ok-works.ensures.txns in
    if_ok c.home.result (λ v h. h (outcomes_of_txns s c.args.batch.now)
    (subst (λ shares. IsSplitByGroup c.args.batch.now (outcomes_of_txns s c.args.batch.now) shares) (sym back.answered)
    law.shares))
    c.home.ensures.outcomes
