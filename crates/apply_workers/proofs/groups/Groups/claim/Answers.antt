use Rattle.std.proofs.Common.{rules, ◌≡◌, ◌<◌, ◌≤◌, ◌+◌, true, false, List, length, get_or, slice_set, ap, subst}
use Rattle.txn_codec.specs.declared.txn.Txn.{Txn}
use Rattle.std.specs.List.{list_any}
use Rattle.batcher.specs.Cut.{groups_of}
use Rattle.apply_workers.specs.declared.step.Step.TheVariants.{Claim}
use Rattle.apply_workers.specs.Schedule.{Progress, is_held_by, can_be_taken}
use Rattle.apply_workers.specs.Schedule.{try_step as stepped}
use Rattle.apply_workers.specs.Hands.{GroupProgress}
use Rattle.apply_workers.specs.Underway.{BatchProgress}
use Rattle.apply_workers.proofs.Shown.{progress_at, passed_over, none_left_to_claim, has_one, claim_is_taken, claimed_held}
use Rattle.apply_workers.proofs.groups.Groups.claim.Goals as goal

abbrev on_its_way : List Txn → Progress → BatchProgress
on_its_way txns p = record { batch = txns; progress = p }

pub returns-then-self-len-clause-taken : goal.returns-then-self-len-clause-taken
returns-then-self-len-clause-taken c =
    let at = c.self.inside in
    let past : length at.hands.items ≤ at.next = search rules in
    subst (λ (u : BatchProgress). false ≡ can_be_taken u.progress (Claim c.args.worker)) c.self.view_is
    (passed_over (progress_at at.batch at.next (groups_of at.batch) at.hands.items) c.args.worker
    (none_left_to_claim at.batch at.next c.args.worker (groups_of at.batch) at.hands.items c.self.invariant past)).0

pub returns-then-self-len-clause-groups : goal.returns-then-self-len-clause-groups
returns-then-self-len-clause-groups c =
    let at = c.self.inside in
    let past : length at.hands.items ≤ at.next = search rules in
    subst (λ (u : BatchProgress). u ≡ record { batch = u.batch; progress = stepped u.progress (Claim c.args.worker) })
    c.self.view_is
    (ap (λ (p : Progress). record { batch = at.batch; progress = p })
    (passed_over (progress_at at.batch at.next (groups_of at.batch) at.hands.items) c.args.worker
    (none_left_to_claim at.batch at.next c.args.worker (groups_of at.batch) at.hands.items c.self.invariant past)).1)

pub returns-then-has_group-clause-taken : goal.returns-then-has_group-clause-taken
returns-then-has_group-clause-taken c =
    let at = c.self.inside in
    let has : list_any (λ (h : GroupProgress). is_held_by c.args.worker h.holder) at.hands.items ≡ true =
    search rules in
    subst (λ (u : BatchProgress). false ≡ can_be_taken u.progress (Claim c.args.worker)) c.self.view_is
    (passed_over (progress_at at.batch at.next (groups_of at.batch) at.hands.items) c.args.worker
    (has_one at.batch at.next c.args.worker (groups_of at.batch) at.hands.items c.self.invariant has)).0

pub returns-then-has_group-clause-groups : goal.returns-then-has_group-clause-groups
returns-then-has_group-clause-groups c =
    let at = c.self.inside in
    let has : list_any (λ (h : GroupProgress). is_held_by c.args.worker h.holder) at.hands.items ≡ true =
    search rules in
    subst (λ (u : BatchProgress). u ≡ record { batch = u.batch; progress = stepped u.progress (Claim c.args.worker) })
    c.self.view_is
    (ap (λ (p : Progress). record { batch = at.batch; progress = p })
    (passed_over (progress_at at.batch at.next (groups_of at.batch) at.hands.items) c.args.worker
    (has_one at.batch at.next c.args.worker (groups_of at.batch) at.hands.items c.self.invariant has)).1)

pub invariant_of-self : goal.invariant_of-self
invariant_of-self c =
    let at = c.self.inside in
    let l : at.next < length at.hands.items = search rules in
    let old = c.index_mut.result.now in
    let was : old ≡ get_or at.hands.items at.next old = search rules in
    claimed_held (groups_of at.batch) at.hands.items at.next c.args.worker old c.claim.new.self c.self.invariant l was
    c.claim.ensures

pub returns-clause-taken : goal.returns-clause-taken
returns-clause-taken c =
    let at = c.self.inside in
    let l : at.next < length at.hands.items = search rules in
    let free : list_any (λ (h : GroupProgress). is_held_by c.args.worker h.holder) at.hands.items ≡ false =
    search rules in
    let old = c.index_mut.result.now in
    let was : old ≡ get_or at.hands.items at.next old = search rules in
    subst (λ (u : BatchProgress). true ≡ can_be_taken u.progress (Claim c.args.worker)) c.self.view_is
    (claim_is_taken at.batch at.next c.args.worker (groups_of at.batch) at.hands.items old c.claim.new.self
    c.self.invariant free l was c.claim.ensures).0

pub returns-clause-groups : goal.returns-clause-groups
returns-clause-groups c =
    let at = c.self.inside in
    let l : at.next < length at.hands.items = search rules in
    let free : list_any (λ (h : GroupProgress). is_held_by c.args.worker h.holder) at.hands.items ≡ false =
    search rules in
    let old = c.index_mut.result.now in
    let was : old ≡ get_or at.hands.items at.next old = search rules in
    let new : Progress = progress_at at.batch (at.next + 1) (groups_of at.batch)
    (slice_set at.hands.items at.next c.claim.new.self) in
    subst (λ (u : BatchProgress). on_its_way at.batch new
    ≡ record { batch = u.batch; progress = stepped u.progress (Claim c.args.worker) }) c.self.view_is
    (ap (λ (p : Progress). record { batch = at.batch; progress = p })
    (claim_is_taken at.batch at.next c.args.worker (groups_of at.batch) at.hands.items old c.claim.new.self
    c.self.invariant free l was c.claim.ensures).1)
