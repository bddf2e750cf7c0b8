use Rattle.std.proofs.Common.{rules, ◌<◌, cond, length, sym, ap}
use Rattle.apply_workers.specs.declared.holder.Holder.TheVariants.{Home}
use Rattle.apply_workers.specs.Hands.{group_state_of}
use Rattle.apply_workers.proofs.Shown.{not_finished}
use Rattle.apply_workers.proofs.hand.GroupInProgress.give.Goals as goal

pub returns-then-len-members-clause-taken : goal.returns-then-len-members-clause-taken
returns-then-len-members-clause-taken c k =
    let l : length c.args.self.now.outcomes < length c.args.group.now.members = search rules in
    sym (not_finished c.args.txns.now k c.args.worker c.args.group.now c.args.self.now l c.requires)

pub returns-then-len-members-clause-group : goal.returns-then-len-members-clause-group
returns-then-len-members-clause-group c k =
    let l : length c.args.self.now.outcomes < length c.args.group.now.members = search rules in
    let before = group_state_of c.args.txns.now k c.args.group.now c.args.self.now in
    ap (λ b. cond b (record before { holder = Home }) before)
    (sym (not_finished c.args.txns.now k c.args.worker c.args.group.now c.args.self.now l c.requires))
