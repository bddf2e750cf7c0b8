use Rattle.std.proofs.Common.{sym, ap, ◌∙◌}
use Rattle.std.specs.Cmp.{nat_cmp_total}
use Rattle.std.proofs.lemmas.Map.Lookups.{exact_unsigned}
use Rattle.std.specs.FinMap as finmap
use Rattle.values.proofs.Keyed.{get-map_of, map_of-remove}
use Rattle.forwarding.proofs.queues.Queues.take.Goals as goal

pub returns-clause-was : goal.returns-clause-was
returns-clause-was c = c.remove.ensures.value
    ∙ sym (get-map_of nat_cmp_total exact_unsigned c.self.inside.map c.args.number)
    ∙ ap (λ m. finmap.get m c.args.number) c.self.view_is

pub returns-clause-removed : goal.returns-clause-removed
returns-clause-removed c =
    map_of-remove nat_cmp_total exact_unsigned c.args.number c.self.inside.map c.remove.new.self c.remove.ensures.updates
    ∙ ap (λ m. finmap.remove m c.args.number) c.self.view_is
