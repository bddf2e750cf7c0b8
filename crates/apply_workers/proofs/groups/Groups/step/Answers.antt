use Rattle.std.proofs.Common.{rules, ◌≡◌, List, OnOk, map, length, sym, ◌∙◌, ap, subst₂}
use Rattle.std.proofs.lemmas.Result.{on_ok_weaker}
use Rattle.std.proofs.lemmas.List.{with_items_is}
use Rattle.std.specs.Vec.{with_items}
use Rattle.batcher.specs.Cut.{groups_of}
use Rattle.apply_workers.specs.declared.step.Step.{Step}
use Rattle.apply_workers.specs.Schedule.{GroupState, done_by, given_by}
use Rattle.apply_workers.specs.Schedule.{try_step as stepped}
use Rattle.apply_workers.specs.Hands.{GroupProgress, group_states_from}
use Rattle.apply_workers.specs.Underway.{BatchProgress}
use Rattle.apply_workers.proofs.Shown.{progress_at, done_step, given_step}
use Rattle.apply_workers.proofs.groups.Groups.step.Goals as goal

pub returns-in-Do-clause-groups : goal.returns-in-Do-clause-groups
returns-in-Do-clause-groups c =
    let at = c.self.inside in
    let classes = groups_of at.batch in
    let left = (with_items at.hands c.do_next.new.hands).items in
    let count : length c.do_next.new.hands ≡ at.hands.len = search rules in
    let is : left ≡ c.do_next.new.hands = with_items_is at.hands c.do_next.new.hands count in
    let was : c.as_mut_slice.result.now ≡ at.hands.items = search rules in
    let of : List GroupState → BatchProgress = λ gs. record {
      batch = at.batch;
      progress = record { next = at.next; groups = gs };
    } in
    subst₂ (λ (u : BatchProgress) (s : Step).
    OnOk c.do_next.result (of (group_states_from at.batch 0 classes left)
    ≡ record { batch = u.batch; progress = stepped u.progress s })) c.self.view_is (sym c.in-Do.is)
    (on_ok_weaker c.do_next.result
    (λ h. ap (λ (hs : List GroupProgress). of (group_states_from at.batch 0 classes hs)) is
    ∙ ap of h
    ∙ ap (λ (hs : List GroupProgress). of (map (done_by c.in-Do.worker) (group_states_from at.batch 0 classes hs))) was
    ∙ (λ i. record {
      batch = at.batch;
      progress = done_step (progress_at at.batch at.next classes at.hands.items) c.in-Do.worker i;
    }))
    c.do_next.ensures.groups)

pub returns-in-Give-clause-groups : goal.returns-in-Give-clause-groups
returns-in-Give-clause-groups c =
    let at = c.self-in-Give.inside in
    let classes = groups_of at.batch in
    let left = (with_items at.hands c.give.new.hands).items in
    let count : length c.give.new.hands ≡ at.hands.len = search rules in
    let is : left ≡ c.give.new.hands = with_items_is at.hands c.give.new.hands count in
    let was : c.as_mut_slice-in-Give.result.now ≡ at.hands.items = search rules in
    let of : List GroupState → BatchProgress = λ gs. record {
      batch = at.batch;
      progress = record { next = at.next; groups = gs };
    } in
    subst₂ (λ (u : BatchProgress) (s : Step). of (group_states_from at.batch 0 classes left)
    ≡ record { batch = u.batch; progress = stepped u.progress s }) c.self-in-Give.view_is (sym c.in-Give.is)
    (ap (λ (hs : List GroupProgress). of (group_states_from at.batch 0 classes hs)) is
    ∙ ap of c.give.ensures.groups
    ∙ ap (λ (hs : List GroupProgress). of (map (given_by c.in-Give.worker) (group_states_from at.batch 0 classes hs)))
    was
    ∙ (λ i. record {
      batch = at.batch;
      progress = given_step (progress_at at.batch at.next classes at.hands.items) c.in-Give.worker i;
    }))
