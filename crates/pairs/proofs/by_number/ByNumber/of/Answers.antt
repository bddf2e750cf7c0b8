use Rattle.std.proofs.Common.{Some, None, sym, ap, ◌∙◌}
use Rattle.std.specs.Cmp.{nat_cmp_total}
use Rattle.std.specs.Ordering.{nat_cmp}
use Rattle.std.proofs.lemmas.Map.Lookups.{exact_unsigned, exact_bytes}
use Rattle.std.specs.FinSet as set
use Rattle.pairs.proofs.Totals.{text_total}
use Rattle.pairs.proofs.Grouped.{contains-found}
use Rattle.values.proofs.Keyed.{map_of, get-map_of}
use Rattle.pairs.proofs.by_number.ByNumber.of.Goals as goal

pub returns-clause-texts : goal.returns-clause-texts
returns-clause-texts c p =
    sym (ap (λ s. set.contains s (c.args.number, p)) (sym c.self.view_is)
    ∙ contains-found nat_cmp_total text_total exact_unsigned exact_bytes (map_of nat_cmp c.self.inside.map.entries)
    c.args.number
    (Some c.in-Some.texts.now) (get-map_of nat_cmp_total exact_unsigned c.self.inside.map c.args.number ∙ sym c.in-Some.ensures.value) p)

pub returns-in-None-clause-none : goal.returns-in-None-clause-none
returns-in-None-clause-none c p =
    ap (λ s. set.contains s (c.args.number, p)) (sym c.self.view_is)
    ∙ contains-found nat_cmp_total text_total exact_unsigned exact_bytes (map_of nat_cmp c.self.inside.map.entries)
    c.args.number
    None (get-map_of nat_cmp_total exact_unsigned c.self.inside.map c.args.number ∙ sym c.in-None.ensures.value) p
