use Rattle.std.proofs.Common.{sym, ap, subst, ◌∙◌}
use Rattle.forwarding.specs.Pending.{without_connect}
use Rattle.forwarding.specs.Agreement.{PendingAgrees}
use Rattle.forwarding.proofs.Agreeing.{agreement_is_kept}
use Rattle.forwarding.proofs.Dropping.{drops_nothing, drops_requests, drops_syncs}
use Rattle.forwarding.proofs.table.Pending.take_requests.Goals as goal

pub invariant_of-self : goal.invariant_of-self
invariant_of-self c =
    rw c.take.ensures.removed (subst (λ s. PendingAgrees s)
    (drops_nothing _ c.args.number c.self.invariant (sym c.take.ensures.was ∙ c.in_default.is))
    (agreement_is_kept.drops _ c.args.number c.self.invariant))

pub returns-in_default-clause-rest : goal.returns-in_default-clause-rest
returns-in_default-clause-rest c =
    rw (c.take.ensures.removed, ← c.self.view_is)
    (sym (drops_nothing _ c.args.number c.self.invariant (sym c.take.ensures.was ∙ c.in_default.is)))

pub invariant_of-self-then-not-has_unsettled : goal.invariant_of-self-then-not-has_unsettled
invariant_of-self-then-not-has_unsettled c =
    rw (c.take.ensures.removed, c.remove_connect.ensures ∙ ap (without_connect c.self.inside.connects) c.connect.ensures)
    (subst (λ s. PendingAgrees s)
    (drops_requests _ c.args.number c.in-Some.queue c.self.invariant (sym c.take.ensures.was ∙ c.in-Some.is)
    (sym c.has_unsettled.ensures ∙ c.if-not-has_unsettled.true))
    (agreement_is_kept.drops _ c.args.number c.self.invariant))

pub returns-then-not-has_unsettled-clause-rest : goal.returns-then-not-has_unsettled-clause-rest
returns-then-not-has_unsettled-clause-rest c =
    rw (
      c.take.ensures.removed,
      c.remove_connect.ensures ∙ ap (without_connect c.self.inside.connects) c.connect.ensures,
      ← c.self.view_is,
    )
    (sym (drops_requests _ c.args.number c.in-Some.queue c.self.invariant (sym c.take.ensures.was ∙ c.in-Some.is)
    (sym c.has_unsettled.ensures ∙ c.if-not-has_unsettled.true)))

pub invariant_of-self-2 : goal.invariant_of-self-2
invariant_of-self-2 c =
    rw (
      c.take.ensures.removed,
      c.remove_connect.ensures ∙ ap (without_connect c.self.inside.connects) c.connect.ensures,
      c.disown.ensures,
    )
    (subst (λ s. PendingAgrees s)
    (drops_syncs _ c.args.number c.in-Some.queue (sym c.take.ensures.was ∙ c.in-Some.is))
    (agreement_is_kept.drops _ c.args.number c.self.invariant))
