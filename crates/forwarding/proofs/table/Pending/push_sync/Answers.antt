use Rattle.std.proofs.Common.{◌≡◌, false, ap, ◌∙◌}
use Rattle.forwarding.specs.State.{pending_table_of}
use Rattle.forwarding.specs.Pending.{is_full}
use Rattle.forwarding.proofs.Agreeing.{agreement_is_kept}
use Rattle.forwarding.proofs.table.Pending.push_sync.Goals as goal

pub invariant_of-self-in-Ok : goal.invariant_of-self-in-Ok
invariant_of-self-in-Ok c =
    let room : is_full (pending_table_of c.self.inside.queues c.self.inside.syncs c.self.inside.connects
    c.self.inside.touched) c.args.number ≡ false =
    ap (λ s. is_full s c.args.number) c.self.view_is ∙ c.requires in
    rw (c.in-Ok.ensures.ok, c.in_ok-push.ensures.ok)
    (agreement_is_kept.pushes_sync _ c.args.number _ c.args.path c.self.invariant room)
