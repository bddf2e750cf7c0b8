use Rattle.std.proofs.Common.{◌≡◌, false, ap, ◌∙◌}
use Rattle.forwarding.specs.State.{pending_table_of}
use Rattle.forwarding.specs.Pending.{is_full}
use Rattle.forwarding.proofs.Agreeing.{agreement_is_kept}
use Rattle.forwarding.proofs.Results.{either}
use Rattle.forwarding.proofs.table.Pending.hold.Goals as goal

pub invariant_of-self : goal.invariant_of-self
invariant_of-self c =
    let room : is_full (pending_table_of c.self.inside.queues c.self.inside.syncs c.self.inside.connects
    c.self.inside.touched) c.args.number ≡ false =
    ap (λ s. is_full s c.args.number) c.self.view_is ∙ c.requires in
    either c.push.result c.push.ensures.ok c.push.ensures.err
    (λ pushed. rw pushed (agreement_is_kept.holds _ c.args.number c.args.frame c.self.invariant room))
    (λ same. rw same c.self.invariant)
