use Rattle.std.proofs.Common.{not, length, sym, ap, ◌∙◌}
use Rattle.std.specs.Prelude.{nat_lt}
use Rattle.std.specs.Cmp.{nat_cmp_total}
use Rattle.std.proofs.lemmas.Map.Lookups.{exact_unsigned}
use Rattle.std.specs.FinMap as finmap
use Rattle.forwarding.specs.Queue.{pending_limit}
use Rattle.forwarding.specs.Pending.{queue_in}
use Rattle.values.proofs.Keyed.{get-map_of}
use Rattle.forwarding.proofs.queues.Queues.is_full.Goals as goal

pub returns-in-None : goal.returns-in-None
returns-in-None c = ap (λ o. not (nat_lt (length (queue_in o)) pending_limit))
    (c.in-None.ensures.value ∙ sym (get-map_of nat_cmp_total exact_unsigned c.self.inside.map c.args.number)
    ∙ ap (λ m. finmap.get m c.args.number) c.self.view_is)

pub returns-in-Some : goal.returns-in-Some
returns-in-Some c =
    c.is_full.ensures
    ∙ ap (λ o. not (nat_lt (length (queue_in o)) pending_limit))
    (c.in-Some.ensures.value ∙ sym (get-map_of nat_cmp_total exact_unsigned c.self.inside.map c.args.number)
    ∙ ap (λ m. finmap.get m c.args.number) c.self.view_is)
