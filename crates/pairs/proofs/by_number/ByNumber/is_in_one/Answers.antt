use Rattle.std.proofs.Common.{◌||◌, sym, ◌∙◌}
use Rattle.std.specs.Cmp.{nat_cmp_total}
use Rattle.std.specs.Ordering.{nat_cmp}
use Rattle.std.proofs.lemmas.Map.Lookups.{exact_unsigned, exact_bytes}
use Rattle.std.specs.FinSet as set
use Rattle.pairs.specs.Pairs.{keys_in}
use Rattle.pairs.proofs.Totals.{text_total}
use Rattle.pairs.proofs.Keys.{contains-in_one}
use Rattle.pairs.proofs.by_number.ByNumber.is_in_one.Goals as goal

pub returns-then-has_number : goal.returns-then-has_number
returns-then-has_number c =
    sym (contains-in_one nat_cmp_total text_total exact_unsigned exact_bytes c.args.first.now c.args.second.now
    c.args.third.now c.args.number
    ∙ (λ i. (sym c.has_number.ensures ∙ c.if-has_number.true) i
    || (set.contains (keys_in nat_cmp c.args.second.now) c.args.number
    || set.contains (keys_in nat_cmp c.args.third.now) c.args.number)))

pub returns-then-has_number-2 : goal.returns-then-has_number-2
returns-then-has_number-2 c =
    sym (contains-in_one nat_cmp_total text_total exact_unsigned exact_bytes c.args.first.now c.args.second.now
    c.args.third.now c.args.number
    ∙ (λ i. (sym c.has_number.ensures ∙ c.if-has_number.false) i
    || ((sym c.has_number-2.ensures ∙ c.if-has_number-2.true) i
    || set.contains (keys_in nat_cmp c.args.third.now) c.args.number)))

pub returns : goal.returns
returns c =
    c.has_number-3.ensures
    ∙ sym (contains-in_one nat_cmp_total text_total exact_unsigned exact_bytes c.args.first.now c.args.second.now
    c.args.third.now c.args.number
    ∙ (λ i. (sym c.has_number.ensures ∙ c.if-has_number.false) i
    || ((sym c.has_number-2.ensures ∙ c.if-has_number-2.false) i
    || set.contains (keys_in nat_cmp c.args.third.now) c.args.number)))
