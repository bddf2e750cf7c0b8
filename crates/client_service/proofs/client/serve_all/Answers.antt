use Rattle.std.proofs.Common.{◌≡◌, ℕ, List, drop, ap, sym, ◌∙◌, Err}
use Rattle.std.proofs.lemmas.Result.{err_from_is_err_and}
use Rattle.jute.specs.Stream.{items_in, place_at, with_first, no_items}
use Rattle.world.specs.World.{World}
use Rattle.world.specs.Steps.{and_then}
use Rattle.client_service.specs.Serve.{serve_all, frames_of_client}
use Rattle.client_service.specs.Runs.{answer_all_asked, serve_if_heard}
use Rattle.client_service.specs.Inner.{close_if_heard}
use Rattle.world.proofs.Steps.{same_left, stops_in_step}
use Rattle.client_service.proofs.Running.{one_frame, none_complete, none_taken, bad_after, ends_owing, frame_taken}
use Rattle.client_service.proofs.Emptied.{nothing_left}
use Rattle.client_service.proofs.client.serve_all.Goals as goal

pub returns-in_err-take_frame-in-Ok-Some : goal.returns-in_err-take_frame-in-Ok-Some
returns-in_err-take_frame-in-Ok-Some g c =
    let p = err_from_is_err_and c.from_residual.result c.from_residual.ensures.1 in
    let l = c.frame in
    let first = rw c.in-Ok-Some.field-0-is at c.in-Ok-Some.ensures in
    let f = c.in-Ok-Some.frame.now in
    let h = answer_all_asked l.asked.items l.stage.after in
    let rest = items_in frames_of_client (place_at tt (drop c.in-Ok-Some.used c.as_slice.result.now)) in
    let found = items_in frames_of_client (place_at tt l.waiting) in
    let is : found ≡ with_first f rest = ap (λ (b : List ℕ). items_in frames_of_client (place_at tt b))
    (sym c.as_slice.ensures) ∙ first.0 in
    rw p.1 (stops_in_step _ _ _ _ _ (and_then h (serve_if_heard c.args.serving c.args.number f))
    (λ (w : World). serve_all c.args.serving c.args.number w rest)
    (one_frame c.args.serving c.args.number l.asked.items l.stage.after found f rest is)
    c.in_err-take_frame-in-Ok-Some.ensures.made l.invariant.so_far)

pub take_frame-requires-clause-fits : goal.take_frame-requires-clause-fits
take_frame-requires-clause-fits g c = (rw c.in-Ok-Some.field-0-is at c.in-Ok-Some.ensures).3

pub frame-preserved : goal.frame-preserved
frame-preserved g c = record {
  so_far =
      let first = rw c.in-Ok-Some.field-0-is at c.in-Ok-Some.ensures in
      frame_taken c.args.serving c.args.number c.frame.stage c.take_frame.new.stage c.frame.asked.items
      c.take_frame.new.asked.items c.frame.waiting c.as_slice.result.now c.drop_front.new.self c.in-Ok-Some.frame.now
      c.in-Ok-Some.used c.as_slice.ensures first.0 c.drop_front.ensures c.in_ok-take_frame-in-Ok-Some.ensures.made
      c.frame.invariant.so_far;
  heard = sym c.is_heard.ensures ∙ c.if-not-is_heard.false;
  taken = c.in_ok-take_frame-in-Ok-Some.ensures.taken;
}

pub returns-then-is_empty : goal.returns-then-is_empty
returns-then-is_empty g c =
    let first = rw c.in-Ok-Some.field-0-is at c.in-Ok-Some.ensures in
    same_left _ _ _ _ _
    (nothing_left c.args.number c.args.serving c.take_frame.new.asked.items c.take_frame.new.stage.after
    c.drop_front.new.self (c.is_empty.ensures.0 c.if-is_empty.true) c.in_ok-take_frame-in-Ok-Some.ensures.taken)
    (frame_taken c.args.serving c.args.number c.frame.stage c.take_frame.new.stage c.frame.asked.items
    c.take_frame.new.asked.items c.frame.waiting c.as_slice.result.now c.drop_front.new.self c.in-Ok-Some.frame.now
    c.in-Ok-Some.used c.as_slice.ensures first.0 c.drop_front.ensures c.in_ok-take_frame-in-Ok-Some.ensures.made
    c.frame.invariant.so_far)

pub returns-then-not-is_heard : goal.returns-then-not-is_heard
returns-then-not-is_heard g c =
    let first = rw c.in-Ok-Some.field-0-is at c.in-Ok-Some.ensures in
    same_left _ _ _ _ _
    (none_taken c.args.serving c.args.number c.take_frame.new.asked.items c.take_frame.new.stage.after
    (items_in frames_of_client (place_at tt c.drop_front.new.self)) (sym c.is_heard.ensures ∙ c.if-not-is_heard.true))
    (frame_taken c.args.serving c.args.number c.frame.stage c.take_frame.new.stage c.frame.asked.items
    c.take_frame.new.asked.items c.frame.waiting c.as_slice.result.now c.drop_front.new.self c.in-Ok-Some.frame.now
    c.in-Ok-Some.used c.as_slice.ensures first.0 c.drop_front.ensures c.in_ok-take_frame-in-Ok-Some.ensures.made
    c.frame.invariant.so_far)

pub returns-in-Ok-None : goal.returns-in-Ok-None
returns-in-Ok-None g c =
    let l = c.frame in
    let found = items_in frames_of_client (place_at tt l.waiting) in
    let is : found ≡ no_items (place_at tt l.waiting) =
    rw c.as_slice.ensures at (rw c.in-Ok-None.field-0-is at c.in-Ok-None.ensures) in
    rw c.replace_rest.ensures.new (same_left _ _ _ _ _
    (none_complete c.args.serving c.args.number l.asked.items l.stage.after found l.waiting is) l.invariant.so_far)

pub returns-in-Err : goal.returns-in-Err
returns-in-Err g c =
    let l = c.frame in
    let found = items_in frames_of_client (place_at tt l.waiting) in
    let is : found ≡ no_items (record { phase = tt; unread = Err c.in-Err.field-0 }) =
    ap (λ (b : List ℕ). items_in frames_of_client (place_at tt b)) (sym c.as_slice.ensures) ∙ c.in-Err.ensures in
    ends_owing c.settle_and_close.result _ _ _ _ _
    (and_then (answer_all_asked l.asked.items l.stage.after) (close_if_heard c.args.number))
    c.settle_and_close.new.asked.items c.settle_and_close.new.stage.after
    (bad_after c.args.serving c.args.number l.asked.items l.stage.after found c.in-Err.field-0 is)
    c.settle_and_close.ensures l.invariant.so_far
