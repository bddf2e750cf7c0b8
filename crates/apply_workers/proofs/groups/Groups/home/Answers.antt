use Rattle.std.proofs.Common.{rules, ◌≡◌, true, false, IfOk, OnOk, sym, ap₂, ◌∙◌, subst, subst₂}
use Rattle.std.proofs.lemmas.Result.{on_ok_weaker}
use Rattle.batcher.specs.Cut.{groups_of, is_batch, is_barrier_alone}
use Rattle.apply_workers.specs.Homing.{with_timeouts_set, with_all_cells, IsSplitByGroup}
use Rattle.apply_workers.specs.Schedule.{batch_result}
use Rattle.apply_workers.specs.Hands.{group_states_from}
use Rattle.apply_workers.specs.Underway.{BatchProgress}
use Rattle.apply_workers.proofs.CameHome.{if_ok}
use Rattle.apply_workers.proofs.Sharing.{are_brought}
use Rattle.apply_workers.proofs.groups.Groups.home.Goals as goal

pub returns-clause-tree : goal.returns-clause-tree
returns-clause-tree c =
    let s = c.args.tree.now in
    let txns = c.self.inside.batch in
    let batch : is_batch txns ≡ true = search rules in
    let alone : is_barrier_alone txns ≡ false = search rules in
    let back = are_brought c.groups.ensures.each s txns batch alone c.self.inside.hands.items c.self.invariant in
    subst (λ (u : BatchProgress). OnOk c.home.result
    (c.home.new.tree ≡ (batch_result s u.batch u.progress.groups).state))
    c.self.view_is
    (on_ok_weaker c.home.result
    (λ h. h
    ∙ ap₂ (λ ts cs. with_timeouts_set ts (with_all_cells cs s)) c.lend.ensures c.in_ok-done.ensures.cells
    ∙ back.state)
    c.home.ensures.tree)

pub returns-clause-outcomes : goal.returns-clause-outcomes
returns-clause-outcomes c =
    let s = c.args.tree.now in
    let txns = c.self.inside.batch in
    let batch : is_batch txns ≡ true = search rules in
    let alone : is_barrier_alone txns ≡ false = search rules in
    let hands = c.self.inside.hands.items in
    let whole = (batch_result s txns (group_states_from txns 0 (groups_of txns) hands)).outcomes in
    let back = are_brought c.groups.ensures.each s txns batch alone hands c.self.invariant in
    subst (λ (u : BatchProgress). IfOk c.home.result
    (λ v. v.items ≡ (batch_result s u.batch u.progress.groups).outcomes))
    c.self.view_is
    (if_ok c.home.result (λ v h. h whole
    (subst₂ (λ ts shares. IsSplitByGroup ts whole shares) (sym c.lend.ensures) (sym c.in_ok-done.ensures.outcomes)
    back.shares))
    c.home.ensures.outcomes)
