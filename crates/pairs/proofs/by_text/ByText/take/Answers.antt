use Rattle.std.proofs.Common.{is_some, sym, ap, subst, ◌∙◌}
use Rattle.std.specs.Cmp.{nat_cmp_total}
use Rattle.std.proofs.lemmas.Map.Lookups.{exact_unsigned, exact_bytes}
use Rattle.std.specs.FinSet as set
use Rattle.pairs.specs.Pairs.{text_cmp, keys_in, without_text}
use Rattle.pairs.specs.Inner.Stored.{HaveValues}
use Rattle.pairs.proofs.Totals.{text_total}
use Rattle.pairs.proofs.Grouped.{taken}
use Rattle.pairs.proofs.Keys.{contains-stored, have-remove}
use Rattle.pairs.proofs.Found.{if_some, if_none}
use Rattle.pairs.proofs.Hashed.{map_of, get-hashed, map_of-remove}
use Rattle.pairs.proofs.by_text.ByText.take.Goals as goal

pub returns-clause-some : goal.returns-clause-some
returns-clause-some c =
    ap (λ found. is_some found)
    (c.swap_remove.ensures.value ∙ sym (get-hashed c.self.inside.map.entries c.args.text.now))
    ∙ sym (contains-stored text_total nat_cmp_total exact_bytes exact_unsigned (map_of c.self.inside.map.entries)
    c.self.invariant c.args.text.now)
    ∙ ap (λ s. set.contains (keys_in text_cmp s) c.args.text.now) c.self.view_is

pub returns-clause-row : goal.returns-clause-row
returns-clause-row c =
    if_some c.self.inside.map.entries c.args.text.now c.args.self.now c.self.view_is c.swap_remove.result
    (get-hashed c.self.inside.map.entries c.args.text.now ∙ sym c.swap_remove.ensures.value)

pub returns-clause-none : goal.returns-clause-none
returns-clause-none c =
    if_none c.self.inside.map.entries c.args.text.now c.args.self.now c.self.view_is c.swap_remove.result
    (get-hashed c.self.inside.map.entries c.args.text.now ∙ sym c.swap_remove.ensures.value)

pub returns-clause-rest : goal.returns-clause-rest
returns-clause-rest c =
    taken text_total nat_cmp_total exact_bytes exact_unsigned (map_of c.self.inside.map.entries)
    (map_of c.swap_remove.new.self.entries) c.args.text.now (map_of-remove c.args.text.now c.self.inside.map
    c.swap_remove.new.self c.swap_remove.ensures.updates)
    ∙ ap (λ s. without_text c.args.text.now s) c.self.view_is

pub invariant_of-self : goal.invariant_of-self
invariant_of-self c =
    subst (λ m. HaveValues m)
    (sym (map_of-remove c.args.text.now c.self.inside.map c.swap_remove.new.self c.swap_remove.ensures.updates))
    (have-remove text_total nat_cmp_total exact_bytes exact_unsigned (map_of c.self.inside.map.entries) c.args.text.now
    c.self.invariant)
