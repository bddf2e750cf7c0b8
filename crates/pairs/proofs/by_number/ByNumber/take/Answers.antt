use Rattle.std.proofs.Common.{sym, ap, subst, ◌∙◌}
use Rattle.std.specs.Cmp.{nat_cmp_total}
use Rattle.std.specs.Ordering.{nat_cmp}
use Rattle.std.proofs.lemmas.Map.Lookups.{exact_unsigned, exact_bytes}
use Rattle.std.specs.FinSet as set
use Rattle.pairs.specs.Inner.Stored.{HaveValues, without_key}
use Rattle.pairs.proofs.Totals.{text_total}
use Rattle.pairs.proofs.Grouped.{contains-found, taken}
use Rattle.pairs.proofs.Keys.{have-remove}
use Rattle.pairs.proofs.Found.{texts_found, no_text_found}
use Rattle.values.proofs.Keyed.{map_of, get-map_of, map_of-remove}
use Rattle.pairs.proofs.by_number.ByNumber.take.Goals as goal

pub returns-clause-texts : goal.returns-clause-texts
returns-clause-texts c = texts_found c.remove.result c.args.self.now c.args.number (λ p.
    ap (λ s. set.contains s (c.args.number, p)) (sym c.self.view_is)
    ∙ contains-found nat_cmp_total text_total exact_unsigned exact_bytes (map_of nat_cmp c.self.inside.map.entries)
    c.args.number
    c.remove.result (get-map_of nat_cmp_total exact_unsigned c.self.inside.map c.args.number ∙ sym c.remove.ensures.value) p)

pub returns-clause-none : goal.returns-clause-none
returns-clause-none c = no_text_found c.remove.result c.args.self.now c.args.number (λ p.
    ap (λ s. set.contains s (c.args.number, p)) (sym c.self.view_is)
    ∙ contains-found nat_cmp_total text_total exact_unsigned exact_bytes (map_of nat_cmp c.self.inside.map.entries)
    c.args.number
    c.remove.result (get-map_of nat_cmp_total exact_unsigned c.self.inside.map c.args.number ∙ sym c.remove.ensures.value) p)

pub returns-clause-rest : goal.returns-clause-rest
returns-clause-rest c =
    taken nat_cmp_total text_total exact_unsigned exact_bytes (map_of nat_cmp c.self.inside.map.entries)
    (map_of nat_cmp c.remove.new.self.entries) c.args.number
    (map_of-remove nat_cmp_total exact_unsigned c.args.number c.self.inside.map c.remove.new.self
    c.remove.ensures.updates)
    ∙ ap (λ s. without_key c.args.number s) c.self.view_is

pub invariant_of-self : goal.invariant_of-self
invariant_of-self c =
    subst (λ m. HaveValues m)
    (sym (map_of-remove nat_cmp_total exact_unsigned c.args.number c.self.inside.map c.remove.new.self c.remove.ensures.updates))
    (have-remove nat_cmp_total text_total exact_unsigned exact_bytes (map_of nat_cmp c.self.inside.map.entries) c.args.number
    c.self.invariant)
