use Rattle.std.proofs.Common.{◌≡◌, true, false, ap, sym, subst, ◌∙◌, w64, rules, length}
use Rattle.std.proofs.lemmas.Int.{to_z-of_z}
use Rattle.four_letter.specs.Dumped.{owning_sessions, has_ephemerals}
use Rattle.four_letter.proofs.Owning.{IsCounted, owns_if_any, counted-owner, counted-other}
use Rattle.four_letter.proofs.dump.owner_count.Goals as goal
use mir.Val.{SFits}

pub overflow_sub-count : goal.overflow_sub-count
overflow_sub-count c =
    let pairs = c.args.ephemerals.now in
    let session = c.in-Some.session.now in
    let fits : SFits w64 session = search rules in
    let all = length (owning_sessions c.args.timeouts.now pairs) in
    let count = c.loop-session.count in
    let owns : has_ephemerals pairs session ≡ false =
    ap (has_ephemerals pairs) (sym (to_z-of_z w64 session fits))
    ∙ owns_if_any pairs _ c.owns_any.result c.owns_any.ensures
    ∙ c.if-not-owns_any.true in
    let is = subst (λ es. IsCounted pairs all es count) c.in-Some.ensures.steps c.loop-session.invariant.2 in
    (counted-other pairs all (session, c.in-Some.field-0-1.now) c.next.new.self count owns is).0

pub loop-session-preserved-then-not-owns_any : goal.loop-session-preserved-then-not-owns_any
loop-session-preserved-then-not-owns_any c =
    let pairs = c.args.ephemerals.now in
    let session = c.in-Some.session.now in
    let fits : SFits w64 session = search rules in
    let all = length (owning_sessions c.args.timeouts.now pairs) in
    let count = c.loop-session.count in
    let owns : has_ephemerals pairs session ≡ false =
    ap (has_ephemerals pairs) (sym (to_z-of_z w64 session fits))
    ∙ owns_if_any pairs _ c.owns_any.result c.owns_any.ensures
    ∙ c.if-not-owns_any.true in
    let is = subst (λ es. IsCounted pairs all es count) c.in-Some.ensures.steps c.loop-session.invariant.2 in
    (tt, tt, (counted-other pairs all (session, c.in-Some.field-0-1.now) c.next.new.self count owns is).1)

pub loop-session-preserved : goal.loop-session-preserved
loop-session-preserved c =
    let pairs = c.args.ephemerals.now in
    let session = c.in-Some.session.now in
    let fits : SFits w64 session = search rules in
    let all = length (owning_sessions c.args.timeouts.now pairs) in
    let count = c.loop-session.count in
    let owns : has_ephemerals pairs session ≡ true =
    ap (has_ephemerals pairs) (sym (to_z-of_z w64 session fits))
    ∙ owns_if_any pairs _ c.owns_any.result c.owns_any.ensures
    ∙ c.if-not-owns_any.false in
    let is = subst (λ es. IsCounted pairs all es count) c.in-Some.ensures.steps c.loop-session.invariant.2 in
    (tt, tt, counted-owner pairs all (session, c.in-Some.field-0-1.now) c.next.new.self count owns is)
