use Rattle.std.proofs.Common.{rules, ◌≡◌, ◌<◌, ℕ, true, length, get_or, subst}
use Rattle.apply_workers.specs.Schedule.{is_held_by, has_work, done_by}
use Rattle.apply_workers.specs.Hands.{GroupProgress, group_state_of}
use Rattle.apply_workers.proofs.Shown.{took_next}
use Rattle.apply_workers.proofs.hand.GroupInProgress.do_next.Goals as goal

-- The transaction that was applied is the next one of group k.
took : (c : goal.In_ok-push) (k : ℕ)
    → (true ≡ has_work c.args.worker (group_state_of c.args.txns.now k c.args.group.now c.args.self.now))
    × (group_state_of c.args.txns.now k c.args.group.now
    (record { holder = c.self.inside.holder; cells = c.apply.new.self; outcomes = c.push.new.self.items })
    ≡ done_by c.args.worker (group_state_of c.args.txns.now k c.args.group.now c.args.self.now))
took c k =
    let at = c.self.inside in
    let group = c.args.group.now in
    let t = c.index-txns-members.result in
    let mine : is_held_by c.args.worker at.holder ≡ true = search rules in
    let l : length at.outcomes.items < length group.members = search rules in
    let is : t ≡ get_or c.args.txns.now (get_or group.members (length at.outcomes.items) 0) t = search rules in
    let done = c.in_ok-outcome.ensures in
    subst (λ (h : GroupProgress).
    (true ≡ has_work c.args.worker (group_state_of c.args.txns.now k group h))
    × (group_state_of c.args.txns.now k group
    (record { holder = at.holder; cells = c.apply.new.self; outcomes = c.push.new.self.items })
    ≡ done_by c.args.worker (group_state_of c.args.txns.now k group h)))
    c.self.view_is
    (took_next c.args.txns.now k c.args.worker group at.holder at.cells c.apply.new.self at.outcomes.items
    c.push.new.self.items t c.in_ok-outcome.outcome mine l c.requires is done.cells done.answer
    c.in_ok-push.ensures.items)

pub returns-clause-taken : goal.returns-clause-taken
returns-clause-taken c k = (took c k).0

pub returns-clause-group : goal.returns-clause-group
returns-clause-group c k = (took c k).1
