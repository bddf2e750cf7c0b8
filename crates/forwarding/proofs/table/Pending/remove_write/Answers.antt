use Rattle.forwarding.proofs.Agreeing.{removes}
use Rattle.forwarding.proofs.table.Pending.remove_write.Goals as goal

pub invariant_of-self : goal.invariant_of-self
invariant_of-self c = rw c.remove_write.ensures (removes _ c.args.number c.self.invariant)
