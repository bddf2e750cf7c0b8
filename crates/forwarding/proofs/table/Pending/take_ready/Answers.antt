use Rattle.forwarding.proofs.Agreeing.{agreement_is_kept}
use Rattle.forwarding.proofs.table.Pending.take_ready.Goals as goal

pub invariant_of-self : goal.invariant_of-self
invariant_of-self c =
    rw c.take_ready.ensures.rest (agreement_is_kept.takes _ c.args.number c.self.invariant)
