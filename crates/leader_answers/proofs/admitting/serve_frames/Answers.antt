use Rattle.std.proofs.Common.{rules, ◌≡◌, ℕ, suc, ℤ, true, false, List, ◌∷◌, drop, length, ◌+◌, ◌≤◌, Ok, w64, to_z, of_z, sym, ap, subst, ◌∙◌, arith}
use Rattle.std.proofs.lemmas.Result.{err_from_is_err_and}
use Rattle.std.proofs.lemmas.Int.{to_z-of_z}
use Rattle.std.proofs.Math.Seq.{drop-cons}
use Rattle.values.specs.Gains.{Gains}
use Rattle.world.specs.World.{World}
use Rattle.world.specs.Clients.{is_heard}
use Rattle.world.specs.Results.{MeetsStep}
use Rattle.world.proofs.Steps.{begins, steps, ends, stops_in_step}
use Rattle.leader_answers.specs.Answering.{serve_next}
use Rattle.leader_answers.proofs.Admission.{served, one_frame, no_frame, no_frame_left}
use Rattle.leader_answers.proofs.admitting.serve_frames.Goals as goal

pub loop-frame-init : goal.loop-frame-init
loop-frame-init c =
    let session = to_z w64 (of_z w64 c.args.session) in
    begins c.args.stage.now.outputs (served c.args.number session c.args.stage.now.after c.args.frames.now)

pub returns-then-not-is_heard : goal.returns-then-not-is_heard
returns-then-not-is_heard c =
    let l = c.loop-frame in
    let n = c.args.number in
    let session = to_z w64 (of_z w64 c.args.session) in
    let same : session ≡ c.args.session = to_z-of_z w64 c.args.session c.ranges.session in
    let old = c.args.stage.now.outputs in
    let heard : is_heard n l.stage.after.clients ≡ false = search rules in
    subst (λ (s : ℤ). MeetsStep (Ok tt) old (served n s c.args.stage.now.after c.args.frames.now) l.stage.outputs l.stage.after) same
    (ends old (served n session c.args.stage.now.after c.args.frames.now) l.stage.outputs
    (served n session l.stage.after (drop l.frame-index c.args.frames.now)) l.stage.after
    (no_frame n session l.stage.after (drop l.frame-index c.args.frames.now) heard) l.invariant)

pub returns-in_err-serve_next : goal.returns-in_err-serve_next
returns-in_err-serve_next c =
    let p = err_from_is_err_and c.from_residual.result c.from_residual.ensures.1 in
    let l = c.loop-frame in
    let n = c.args.number in
    let session = to_z w64 (of_z w64 c.args.session) in
    let same : session ≡ c.args.session = to_z-of_z w64 c.args.session c.ranges.session in
    let old = c.args.stage.now.outputs in
    let new = c.serve_next.new.stage.outputs in
    let frames = c.args.frames.now in
    let frame = c.as_slice.result.now in
    let heard : is_heard n l.stage.after.clients ≡ true = search rules in
    let is = drop-cons frames l.frame-index c.frame-item.result c.loop-frame-test.true
    ∙ ap (λ (f : List ℕ). f ∷ drop (suc l.frame-index) frames) (sym c.frame-item.is ∙ sym c.as_slice.ensures) in
    rw p.1 (subst (λ (s : ℤ). Gains old (served n s c.args.stage.now.after frames).outputs new) same
    (stops_in_step old (served n session c.args.stage.now.after frames) l.stage.outputs new
    (served n session l.stage.after (drop l.frame-index frames)) (serve_next n session l.stage.after frame)
    (λ (v : World). served n session v (drop (l.frame-index + 1) frames))
    (one_frame n session l.stage.after frames l.frame-index frame heard is) c.in_err-serve_next.ensures l.invariant))

pub loop-frame-preserved : goal.loop-frame-preserved
loop-frame-preserved c =
    let l = c.loop-frame in
    let n = c.args.number in
    let session = to_z w64 (of_z w64 c.args.session) in
    let frames = c.args.frames.now in
    let frame = c.as_slice.result.now in
    let heard : is_heard n l.stage.after.clients ≡ true = search rules in
    let is = drop-cons frames l.frame-index c.frame-item.result c.loop-frame-test.true
    ∙ ap (λ (f : List ℕ). f ∷ drop (suc l.frame-index) frames) (sym c.frame-item.is ∙ sym c.as_slice.ensures) in
    steps c.args.stage.now.outputs (served n session c.args.stage.now.after frames) l.stage.outputs
    c.serve_next.new.stage.outputs (served n session l.stage.after (drop l.frame-index frames))
    (serve_next n session l.stage.after frame) (λ (v : World). served n session v (drop (l.frame-index + 1) frames))
    c.serve_next.new.stage.after (one_frame n session l.stage.after frames l.frame-index frame heard is)
    c.in_ok-serve_next.ensures l.invariant

pub returns : goal.returns
returns c =
    let l = c.loop-frame in
    let n = c.args.number in
    let session = to_z w64 (of_z w64 c.args.session) in
    let same : session ≡ c.args.session = to_z-of_z w64 c.args.session c.ranges.session in
    let old = c.args.stage.now.outputs in
    let frames = c.args.frames.now in
    let above : length frames ≤ l.frame-index = omega (arith, c.loop-frame-test.false) in
    subst (λ (s : ℤ). MeetsStep (Ok tt) old (served n s c.args.stage.now.after frames) l.stage.outputs l.stage.after) same
    (ends old (served n session c.args.stage.now.after frames) l.stage.outputs
    (served n session l.stage.after (drop l.frame-index frames)) l.stage.after
    (no_frame_left n session l.stage.after frames l.frame-index above) l.invariant)
