use Rattle.std.proofs.Common.{◌||◌, sym, ◌∙◌}
use Rattle.std.specs.Cmp.{nat_cmp_total}
use Rattle.std.proofs.lemmas.Map.Lookups.{exact_unsigned, exact_bytes}
use Rattle.std.specs.FinSet as set
use Rattle.pairs.specs.Pairs.{text_cmp, keys_in}
use Rattle.pairs.proofs.Totals.{text_total}
use Rattle.pairs.proofs.Keys.{contains-in_one}
use Rattle.pairs.proofs.by_text.ByText.is_in_one.Goals as goal

pub returns-then-has_text : goal.returns-then-has_text
returns-then-has_text c =
    sym (contains-in_one text_total nat_cmp_total exact_bytes exact_unsigned c.args.first.now c.args.second.now
    c.args.third.now c.args.text.now
    ∙ (λ i. (sym c.has_text.ensures ∙ c.if-has_text.true) i
    || (set.contains (keys_in text_cmp c.args.second.now) c.args.text.now
    || set.contains (keys_in text_cmp c.args.third.now) c.args.text.now)))

pub returns-then-has_text-2 : goal.returns-then-has_text-2
returns-then-has_text-2 c =
    sym (contains-in_one text_total nat_cmp_total exact_bytes exact_unsigned c.args.first.now c.args.second.now
    c.args.third.now c.args.text.now
    ∙ (λ i. (sym c.has_text.ensures ∙ c.if-has_text.false) i
    || ((sym c.has_text-2.ensures ∙ c.if-has_text-2.true) i
    || set.contains (keys_in text_cmp c.args.third.now) c.args.text.now)))

pub returns : goal.returns
returns c =
    c.has_text-3.ensures
    ∙ sym (contains-in_one text_total nat_cmp_total exact_bytes exact_unsigned c.args.first.now c.args.second.now
    c.args.third.now c.args.text.now
    ∙ (λ i. (sym c.has_text.ensures ∙ c.if-has_text.false) i
    || ((sym c.has_text-2.ensures ∙ c.if-has_text-2.false) i
    || set.contains (keys_in text_cmp c.args.third.now) c.args.text.now)))
