use mir.Val.{SFits}
use Rattle.std.proofs.Common.{rules, ◌≡◌, ℤ, List, [], ◌∷◌, ◌++◌, Some, None, sym, ap, ◌∙◌, append-nil, w32, w64}
use Rattle.std.proofs.lemmas.Int.{to_z-of_z}
use Rattle.forwarding.specs.Pending.{live_rows, sorted_touched}
use Rattle.forwarding.proofs.SessionSets.{items-sorted}
use Rattle.forwarding.proofs.Touching.{lives, ended}
use Rattle.forwarding.proofs.touched.Touched.live_rows.Goals as goal

pub loop-session-preserved-in-Continue-1 : goal.loop-session-preserved-in-Continue-1
loop-session-preserved-in-Continue-1 g c =
    let timeout_of = g.T.SessionTimeouts.timeout c.args.timeouts.now in
    let fits_session : SFits w64 c.in-Some.session.now = search rules in
    let fits_timeout : SFits w32 c.in-Some-timeout_of.timeout = search rules in
    let at : timeout_of c.in-Some.session.now ≡ Some c.in-Some-timeout_of.timeout =
    ap timeout_of (sym (to_z-of_z w64 c.in-Some.session.now fits_session)) ∙ sym c.in-Some-timeout_of.ensures in
    ap (λ (rows : List (ℤ × ℤ)). rows ++ live_rows timeout_of c.next.new.self)
    (c.in_ok-push.ensures.items
    ∙ (λ i. c.loop-session.rows.items ++ (
      to_z-of_z w64 c.in-Some.session.now fits_session i,
      to_z-of_z w32 c.in-Some-timeout_of.timeout fits_timeout i,
    ) ∷ []))
    ∙ lives timeout_of c.loop-session.rows.items c.in-Some.session.now c.in-Some-timeout_of.timeout c.next.new.self at
    ∙ ap (λ ks. c.loop-session.rows.items ++ live_rows timeout_of ks) (sym c.in-Some.ensures.steps)
    ∙ c.loop-session.invariant

pub loop-session-preserved : goal.loop-session-preserved
loop-session-preserved g c =
    let timeout_of = g.T.SessionTimeouts.timeout c.args.timeouts.now in
    let fits_session : SFits w64 c.in-Some.session.now = search rules in
    let at : timeout_of c.in-Some.session.now ≡ None =
    ap timeout_of (sym (to_z-of_z w64 c.in-Some.session.now fits_session)) ∙ sym c.in_default.ensures in
    ended timeout_of c.loop-session.rows.items c.in-Some.session.now c.next.new.self at
    ∙ ap (λ ks. c.loop-session.rows.items ++ live_rows timeout_of ks) (sym c.in-Some.ensures.steps)
    ∙ c.loop-session.invariant

pub returns : goal.returns
returns g c =
    let timeout_of = g.T.SessionTimeouts.timeout c.args.timeouts.now in
    sym (append-nil c.loop-session.rows.items)
    ∙ ap (λ ks. c.loop-session.rows.items ++ live_rows timeout_of ks) (sym c.in-None.ensures.steps.0)
    ∙ c.loop-session.invariant
    ∙ ap (live_rows timeout_of)
    (c.into_iter-session-iterator.ensures.into_iter_gives ∙ c.iter-session-items.ensures.rest
    ∙ sym (items-sorted c.self.inside.sessions.keys c.iter-session-items.ensures.ordered)
    ∙ ap (λ s. sorted_touched s) c.self.view_is)
