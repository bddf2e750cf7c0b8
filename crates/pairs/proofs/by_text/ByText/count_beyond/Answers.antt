use Rattle.std.proofs.Common.{not, sym, ap, ◌∙◌, map, length, arith}
use Rattle.std.specs.List.{filter}
use Rattle.std.specs.Cmp.{nat_cmp_total}
use Rattle.std.proofs.lemmas.Map.Lookups.{exact_unsigned, exact_bytes}
use Rattle.std.specs.FinSet as set
use Rattle.pairs.specs.Pairs.{Bytes, Numbers, text_cmp, keys_beyond}
use Rattle.pairs.specs.Inner.Stored.{keys_in_one}
use Rattle.pairs.proofs.Totals.{text_total}
use Rattle.pairs.proofs.Keys.{len-beyond, left_count, left-first, left-known, left-new, left-none}
use Rattle.pairs.proofs.Hashed.{distinct}
use Rattle.pairs.proofs.by_text.ByText.count_beyond.Goals as goal

pub loop-text-init : goal.loop-text-init
loop-text-init c =
    let known = keys_in_one text_cmp c.args.first.now c.args.second.now c.args.third.now in (
      tt,
      tt,
      c.len-count.ensures.len
          ∙ ap (λ es. length es) (sym (c.into_iter-text-iterator.ensures.into_iter_gives ∙ c.iter-text-items.ensures.rest))
          ∙ left-first known c.into_iter-text-iterator.result,
    )

pub overflow_sub-count : goal.overflow_sub-count
overflow_sub-count c =
    let known = keys_in_one text_cmp c.args.first.now c.args.second.now c.args.third.now in
    let next = ap (λ es. left_count known c.into_iter-text-iterator.result es) c.in-Some.ensures.steps in
    let less = left-known known c.into_iter-text-iterator.result (c.in-Some.text.now, c.in-Some.field-0-1.now) c.next.new.self
    (ap (set.contains known) (sym c.as_str.ensures) ∙ sym c.is_in_one.ensures ∙ c.if-is_in_one.true) in
    omega (arith, c.loop-text.invariant.2, next, less)

pub loop-text-preserved-then-is_in_one : goal.loop-text-preserved-then-is_in_one
loop-text-preserved-then-is_in_one c =
    let known = keys_in_one text_cmp c.args.first.now c.args.second.now c.args.third.now in
    let next = ap (λ es. left_count known c.into_iter-text-iterator.result es) c.in-Some.ensures.steps in
    let less = left-known known c.into_iter-text-iterator.result (c.in-Some.text.now, c.in-Some.field-0-1.now) c.next.new.self
    (ap (set.contains known) (sym c.as_str.ensures) ∙ sym c.is_in_one.ensures ∙ c.if-is_in_one.true) in
    (tt, tt, omega (arith, c.loop-text.invariant.2, next, less))

pub loop-text-preserved : goal.loop-text-preserved
loop-text-preserved c =
    let known = keys_in_one text_cmp c.args.first.now c.args.second.now c.args.third.now in (
      tt,
      tt,
      c.loop-text.invariant.2
          ∙ ap (λ es. left_count known c.into_iter-text-iterator.result es) c.in-Some.ensures.steps
          ∙ left-new known c.into_iter-text-iterator.result (c.in-Some.text.now, c.in-Some.field-0-1.now) c.next.new.self
          (ap (set.contains known) (sym c.as_str.ensures) ∙ sym c.is_in_one.ensures ∙ c.if-is_in_one.false),
    )

pub returns : goal.returns
returns c =
    let known = keys_in_one text_cmp c.args.first.now c.args.second.now c.args.third.now in
    c.loop-text.invariant.2
    ∙ ap (λ es. left_count known c.into_iter-text-iterator.result es) c.in-None.ensures.steps.0
    ∙ left-none known c.into_iter-text-iterator.result
    ∙ ap (λ es. length (filter (λ k. not (set.contains known k)) (map (λ (e : Bytes × Numbers). e.0) es)))
    (c.into_iter-text-iterator.ensures.into_iter_gives ∙ c.iter-text-items.ensures.rest)
    ∙ sym (len-beyond text_total nat_cmp_total exact_bytes exact_unsigned c.self.inside.map.entries c.self.invariant
    c.args.first.now c.args.second.now c.args.third.now (distinct _ c.iter-text-items.ensures.unique))
    ∙ ap (λ s. set.len (keys_beyond text_cmp s c.args.first.now c.args.second.now c.args.third.now)) c.self.view_is
