use Rattle.std.proofs.Common.{Some, sym, ap, subst, ◌∙◌}
use Rattle.forwarding.specs.State.{pending_table_of}
use Rattle.forwarding.specs.Pending.{settle_first}
use Rattle.forwarding.specs.Agreement.{PendingAgrees}
use Rattle.forwarding.proofs.Agreeing.{agreement_is_kept}
use Rattle.forwarding.proofs.Dropping.{first_of}
use Rattle.forwarding.proofs.table.Pending.settle_sync.Goals as goal

pub invariant_of-self-in-Some-Some : goal.invariant_of-self-in-Some-Some
invariant_of-self-in-Some-Some c =
    rw (c.settle.ensures, c.take_oldest.ensures.rest)
    (subst (λ syncs. PendingAgrees (settle_first
    (pending_table_of c.self.inside.queues c.self.inside.syncs c.self.inside.connects c.self.inside.touched) syncs).after)
    (first_of c.self.inside.syncs (Some c.in-Some-Some.number)
    (sym c.take_oldest.ensures.oldest ∙ c.in-Some-Some.is ∙ ap Some c.in-Some-Some.field-0-is))
    (agreement_is_kept.settles _ c.self.invariant))
