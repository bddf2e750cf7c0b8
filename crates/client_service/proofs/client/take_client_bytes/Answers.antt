use Rattle.std.proofs.Common.{◌≡◌, [], ◌++◌, sym, ap, subst, ◌∙◌}
use Rattle.world.specs.World.{World}
use Rattle.world.specs.Steps.{StepResult}
use Rattle.client_service.specs.Serve.{word_at}
use Rattle.client_service.specs.Runs.{MeetsOwing, answer_all_asked}
use Rattle.client_service.specs.Inner.{world_with_rest, stage_with_rest}
use Rattle.world.proofs.Steps.{begins, same_left}
use Rattle.client_service.proofs.Running.{bytes_after, none_waiting, word_taken, frames_taken}
use Rattle.client_service.proofs.Emptied.{heard_if_taken, none_if_taken}
use Rattle.client_service.proofs.client.take_client_bytes.Goals as goal

pub returns-in_default : goal.returns-in_default
returns-in_default g c =
    let n = c.args.number in
    let s = c.args.stage.now in
    let asked = c.args.asked.now.items in
    let whole = bytes_after c.args.serving n asked s.after c.args.bytes.now in
    rw (c.in_default.ensures.new, c.new-none.ensures) (same_left s.outputs whole s.outputs whole
    (answer_all_asked asked (world_with_rest n [] s.after))
    (none_waiting c.args.serving n asked s.after c.args.bytes.now c.in_default.ensures.old) (begins s.outputs whole))

pub returns-in-Some-word_at : goal.returns-in-Some-word_at
returns-in-Some-word_at g c =
    let n = c.args.number in
    let w = c.args.stage.now.after in
    let left : c.replace_rest.new.stage ≡ stage_with_rest n [] c.args.stage.now =
    rw c.new-none.ensures at c.in-Some.ensures.new in
    let came : c.as_slice.result.now ≡ c.in-Some.waiting ++ c.args.bytes.now =
    c.as_slice.ensures ∙ c.in_ok-add.ensures.ok in
    subst (λ (h : StepResult World). MeetsOwing c.settle_and_tell.result c.args.stage.now.outputs h
    c.settle_and_tell.new.stage.outputs c.settle_and_tell.new.asked.items c.settle_and_tell.new.stage.after)
    (sym (word_taken c.args.serving n c.args.asked.now.items w c.args.bytes.now c.others_stay.ensures c.in-Some.waiting
    c.in-Some.ensures.old c.in-Some-word_at.word
    (c.in-Some-word_at.ensures
    ∙ ap (λ (h : StepResult World). word_at n h.after c.as_slice.result.now) (c.stage.view_is ∙ left)
    ∙ ap (word_at n (world_with_rest n [] w)) came)))
    (rw left at c.settle_and_tell.ensures)

pub returns-in-None : goal.returns-in-None
returns-in-None g c =
    let n = c.args.number in
    let w = c.args.stage.now.after in
    let left : c.replace_rest.new.stage ≡ stage_with_rest n [] c.args.stage.now =
    rw c.new-none.ensures at c.in-Some.ensures.new in
    let came : c.as_slice.result.now ≡ c.in-Some.waiting ++ c.args.bytes.now =
    c.as_slice.ensures ∙ c.in_ok-add.ensures.ok in
    subst (λ (h : StepResult World). MeetsOwing c.serve_all.result c.args.stage.now.outputs h
    c.serve_all.new.stage.outputs c.serve_all.new.asked.items c.serve_all.new.stage.after)
    (sym (frames_taken c.args.serving n c.args.asked.now.items w c.args.bytes.now c.others_stay.ensures c.in-Some.waiting
    c.in-Some.ensures.old
    (c.in-None.ensures
    ∙ ap (λ (h : StepResult World). word_at n h.after c.as_slice.result.now) (c.stage.view_is ∙ left)
    ∙ ap (word_at n (world_with_rest n [] w)) came)))
    (rw (left, c.in_ok-add.ensures.ok) at c.serve_all.ensures)

pub serve_all-requires-clause-heard : goal.serve_all-requires-clause-heard
serve_all-requires-clause-heard g c =
    rw (c.in-Some.ensures.new, c.new-none.ensures)
    (heard_if_taken c.args.number c.args.stage.now.after c.in-Some.waiting c.in-Some.ensures.old)

pub serve_all-requires-clause-taken : goal.serve_all-requires-clause-taken
serve_all-requires-clause-taken g c =
    rw (c.in-Some.ensures.new, c.new-none.ensures) (none_if_taken c.args.number c.args.stage.now.after)
