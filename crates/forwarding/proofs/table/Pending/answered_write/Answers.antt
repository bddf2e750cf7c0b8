use Rattle.std.proofs.Common.{ap, ◌∙◌, w32, to_z, of_z}
use Rattle.forwarding.specs.State.{PendingTable}
use Rattle.forwarding.specs.Queue.{found_write}
use Rattle.forwarding.specs.Pending.{queue_of}
use Rattle.forwarding.proofs.Queued.{found_at}
use Rattle.forwarding.proofs.table.Pending.answered_write.Goals as goal

pub returns-clause-place : goal.returns-clause-place
returns-clause-place c =
    let n = c.args.number in
    let xid = to_z w32 (of_z w32 c.args.xid) in
    let txn_kind = to_z w32 (of_z w32 c.args.txn_kind) in
    found_at (queue_of c.args.self.now n) xid txn_kind c.answered_write.result
    (c.answered_write.ensures
    ∙ ap (λ (s : PendingTable). found_write (queue_of s n) xid txn_kind) c.self.view_is)
