use Rattle.std.proofs.Common.{is_some, sym, ap, ◌∙◌}
use Rattle.std.specs.Cmp.{nat_cmp_total}
use Rattle.std.proofs.lemmas.Map.Lookups.{exact_unsigned, exact_bytes}
use Rattle.std.specs.FinSet as set
use Rattle.pairs.specs.Pairs.{text_cmp, keys_in}
use Rattle.pairs.proofs.Totals.{text_total}
use Rattle.pairs.proofs.Keys.{contains-stored}
use Rattle.pairs.proofs.Hashed.{map_of, get-hashed}
use Rattle.pairs.proofs.by_text.ByText.has_text.Goals as goal

pub returns : goal.returns
returns c =
    c.contains_key.ensures
    ∙ ap (λ found. is_some found) (sym (get-hashed c.self.inside.map.entries c.args.text.now))
    ∙ sym (contains-stored text_total nat_cmp_total exact_bytes exact_unsigned (map_of c.self.inside.map.entries)
    c.self.invariant c.args.text.now)
    ∙ ap (λ s. set.contains (keys_in text_cmp s) c.args.text.now) c.self.view_is
