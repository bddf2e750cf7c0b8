use Rattle.std.proofs.Common.{is_some, sym, ap, ◌∙◌}
use Rattle.std.specs.Cmp.{nat_cmp_total}
use Rattle.std.specs.Ordering.{nat_cmp}
use Rattle.std.proofs.lemmas.Map.Lookups.{exact_unsigned, exact_bytes}
use Rattle.std.specs.FinSet as set
use Rattle.pairs.specs.Pairs.{keys_in}
use Rattle.pairs.proofs.Totals.{text_total}
use Rattle.pairs.proofs.Keys.{contains-stored}
use Rattle.values.proofs.Keyed.{map_of, get-map_of}
use Rattle.pairs.proofs.by_number.ByNumber.has_number.Goals as goal

pub returns : goal.returns
returns c =
    c.contains_key.ensures
    ∙ ap (λ found. is_some found) (sym (get-map_of nat_cmp_total exact_unsigned c.self.inside.map c.args.number))
    ∙ sym (contains-stored nat_cmp_total text_total exact_unsigned exact_bytes (map_of nat_cmp c.self.inside.map.entries)
    c.self.invariant c.args.number)
    ∙ ap (λ s. set.contains (keys_in nat_cmp s) c.args.number) c.self.view_is
