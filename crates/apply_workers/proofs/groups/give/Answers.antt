use Rattle.std.proofs.Common.{rules, ◌≡◌, ◌≤◌, ◌||◌, ◌+◌, arith, length, map, sym, ap, ap₂, ◌∙◌, subst, subst₂, slice_set}
use Rattle.std.specs.List.{list_any}
use Rattle.apply_workers.specs.Schedule.{is_finished_by, given_by}
use Rattle.apply_workers.specs.Hands.{group_states_from, AreWithinGroups}
use Rattle.apply_workers.proofs.Shown.{held_length, within_batch, DoneTo, AllDone, done_begins, done_goes_on, done_ends}
use Rattle.apply_workers.proofs.groups.give.Goals.{then-taken, else-taken}
use Rattle.apply_workers.proofs.groups.give.Goals as goal

pub loop-place-init : goal.loop-place-init
loop-place-init c =
    done_begins c.txns-txns.result.now c.groups-groups.result.now (is_finished_by c.args.worker)
    (given_by c.args.worker)
    c.args.hands.now (subst (λ cs. AreWithinGroups cs c.args.hands.now) (sym c.groups-groups.ensures) c.requires)

pub bounds-groups-place : goal.bounds-groups-place
bounds-groups-place c =
    let count = held_length c.groups-groups.result.now c.loop-place.hands c.loop-place.invariant.held in
    let same = c.loop-place.auto.hands in
    let l = c.loop-place-test.true in
    omega arith

pub give-given-requires : goal.give-given-requires
give-given-requires c =
    within_batch c.args.batch.now c.txns-txns.result.now c.groups-groups.result.now c.loop-place.place
    c.index-groups-place.result c.txns-txns.ensures.txns c.groups-groups.ensures c.index-groups-place.is
    (let count = held_length c.groups-groups.result.now c.loop-place.hands c.loop-place.invariant.held in
    let same = c.loop-place.auto.hands in
    let l = c.loop-place-test.true in
    omega arith)

pub loop-place-preserved : goal.loop-place-preserved
loop-place-preserved c =
    let at = c.loop-place in
    let same = at.auto.hands in
    let l = c.loop-place-test.true in
    let txns = c.txns-txns.result.now in
    let groups = c.groups-groups.result.now in
    let new = slice_set at.hands at.place c.give-given.new.self in
    let both : c.if-taken.taken ≡ (at.taken || c.give-given.result) = elim c.if-taken.branch [
      | then-taken w ↦ w.taken-is ∙ w.if-taken.true ∙ ap (λ b. b || c.give-given.result) (sym w.if-taken.true)
      | else-taken w ↦ w.taken-is ∙ ap (λ b. b || c.give-given.result) (sym w.if-taken.false)
    ] in
    subst
    (λ b. DoneTo txns groups (is_finished_by c.args.worker) (given_by c.args.worker) c.args.hands.now (at.place + 1) new
    b)
    (sym both)
    (done_goes_on txns groups (is_finished_by c.args.worker) (given_by c.args.worker) c.args.hands.now at.hands at.place
    at.taken
    c.give-given.result c.index-groups-place.result c.index-hands-place.result c.give-given.new.self at.invariant
    (omega arith) c.index-groups-place.is c.give-given.ensures.taken c.give-given.ensures.group
    (λ fits. subst (λ os. length os ≤ length c.index-groups-place.result.members)
    (sym c.give-given.ensures.count) fits))

all_done : (c : goal.After-loop-place)
    → AllDone c.txns-txns.result.now c.groups-groups.result.now (is_finished_by c.args.worker) (given_by c.args.worker)
    c.args.hands.now c.loop-place.hands c.loop-place.taken
all_done c =
    let past : length c.loop-place.hands ≤ c.loop-place.place = search rules in
    done_ends c.txns-txns.result.now c.groups-groups.result.now (is_finished_by c.args.worker) (given_by c.args.worker)
    c.args.hands.now c.loop-place.hands c.loop-place.place c.loop-place.taken c.loop-place.invariant past

pub returns-clause-held : goal.returns-clause-held
returns-clause-held c = subst (λ cs. AreWithinGroups cs c.loop-place.hands) c.groups-groups.ensures (all_done c).held

pub returns-clause-taken : goal.returns-clause-taken
returns-clause-taken c =
    (all_done c).taken_is
    ∙ ap₂ (λ ts cs. list_any (is_finished_by c.args.worker) (group_states_from ts 0 cs c.args.hands.now))
    c.txns-txns.ensures.txns
    c.groups-groups.ensures

pub returns-clause-groups : goal.returns-clause-groups
returns-clause-groups c =
    subst₂ (λ ts cs. group_states_from ts 0 cs c.loop-place.hands
    ≡ map (given_by c.args.worker) (group_states_from ts 0 cs c.args.hands.now)) c.txns-txns.ensures.txns
    c.groups-groups.ensures
    (all_done c).groups
