use Rattle.std.proofs.Common.{sym, ap, ◌∙◌, w32}
use Rattle.std.specs.Cmp.{nat_cmp_total}
use Rattle.std.proofs.lemmas.Map.Lookups.{exact_unsigned}
use Rattle.std.proofs.lemmas.Int.{to_z-of_z}
use Rattle.std.specs.FinMap as finmap
use Rattle.forwarding.specs.Queue.{found_write}
use Rattle.forwarding.specs.Pending.{queue_in}
use Rattle.values.proofs.Keyed.{get-map_of}
use Rattle.forwarding.proofs.queues.Queues.answered_write.Goals as goal

pub returns-in-None : goal.returns-in-None
returns-in-None c = ap (λ o. found_write (queue_in o) c.args.xid c.args.txn_kind)
    (c.in-None.ensures.value ∙ sym (get-map_of nat_cmp_total exact_unsigned c.self.inside.map c.args.number)
    ∙ ap (λ m. finmap.get m c.args.number) c.self.view_is)

pub returns-in-Some : goal.returns-in-Some
returns-in-Some c =
    c.answered_write.ensures
    ∙ (λ i. found_write c.in-Some.queue.now (to_z-of_z w32 c.args.xid c.ranges.xid i)
    (to_z-of_z w32 c.args.txn_kind c.ranges.txn_kind i))
    ∙ ap (λ o. found_write (queue_in o) c.args.xid c.args.txn_kind)
    (c.in-Some.ensures.value ∙ sym (get-map_of nat_cmp_total exact_unsigned c.self.inside.map c.args.number)
    ∙ ap (λ m. finmap.get m c.args.number) c.self.view_is)
