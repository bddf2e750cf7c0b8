use Rattle.std.proofs.Common.{not, sym, ap, ◌∙◌}
use Rattle.std.specs.Cmp.{nat_cmp_total}
use Rattle.std.proofs.lemmas.Map.Lookups.{exact_unsigned}
use Rattle.std.specs.FinSet as set
use Rattle.values.proofs.Keyed.{set_of-insert}
use Rattle.pairs.proofs.number_set.NumberSet.insert.Goals as goal

pub returns-clause-ok : goal.returns-clause-ok
returns-clause-ok c =
    set_of-insert nat_cmp_total exact_unsigned c.args.number c.self.inside.numbers c.insert.new.self c.in_ok-insert.ensures.updates
    ∙ ap (λ s. set.insert s c.args.number) c.self.view_is

pub returns-clause-added : goal.returns-clause-added
returns-clause-added c =
    c.in_ok-insert.ensures.added ∙ ap not (sym (set.contains-from_list nat_cmp_total c.self.inside.numbers.keys c.args.number)
    ∙ ap (λ s. set.contains s c.args.number) c.self.view_is)
