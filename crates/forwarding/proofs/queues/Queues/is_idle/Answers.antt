use Rattle.std.proofs.Common.{not, sym, ap, ◌∙◌}
use Rattle.std.specs.Option.{is_some}
use Rattle.std.specs.Cmp.{nat_cmp_total}
use Rattle.std.proofs.lemmas.Map.Lookups.{exact_unsigned}
use Rattle.std.specs.FinMap as finmap
use Rattle.values.proofs.Keyed.{get-map_of}
use Rattle.forwarding.proofs.queues.Queues.is_idle.Goals as goal

pub returns : goal.returns
returns c = ap not
    (c.contains_key.ensures
    ∙ ap is_some (sym (get-map_of nat_cmp_total exact_unsigned c.self.inside.map c.args.number)
    ∙ ap (λ m. finmap.get m c.args.number) c.self.view_is))
