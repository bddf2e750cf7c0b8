use Rattle.forwarding.proofs.Agreeing.{agreement_is_kept}
use Rattle.forwarding.proofs.table.Pending.new.Goals as goal

pub invariant_of-result : goal.invariant_of-result
invariant_of-result c =
    rw (c.new.ensures, c.new-2.ensures, c.new-3.ensures, c.new-4.ensures) agreement_is_kept.starts
