use Rattle.std.proofs.Common.{ℕ, not, sym, ap, ◌∙◌, map, length, arith}
use Rattle.std.specs.List.{filter}
use Rattle.std.specs.Cmp.{nat_cmp_total}
use Rattle.std.specs.Ordering.{nat_cmp}
use Rattle.std.proofs.lemmas.Map.Lookups.{exact_unsigned, exact_bytes}
use Rattle.std.specs.FinSet as set
use Rattle.pairs.specs.Pairs.{TextKeys, keys_beyond}
use Rattle.pairs.specs.Inner.Stored.{keys_in_one}
use Rattle.pairs.proofs.Totals.{text_total}
use Rattle.pairs.proofs.Keys.{len-beyond, left_count, left-first, left-known, left-new, left-none}
use Rattle.std.proofs.lemmas.Map.Keys.{IsDistinct-from_sorted}
use Rattle.pairs.proofs.by_number.ByNumber.count_beyond.Goals as goal

pub loop-number-init : goal.loop-number-init
loop-number-init c =
    let known = keys_in_one nat_cmp c.args.first.now c.args.second.now c.args.third.now in (
      tt,
      tt,
      c.len-count.ensures.len
          ∙ ap (λ es. length es) (sym (c.into_iter-number-iterator.ensures.into_iter_gives ∙ c.iter-number-items.ensures.rest))
          ∙ left-first known c.into_iter-number-iterator.result,
    )

pub overflow_sub-count : goal.overflow_sub-count
overflow_sub-count c =
    let known = keys_in_one nat_cmp c.args.first.now c.args.second.now c.args.third.now in
    let next = ap (left_count known c.into_iter-number-iterator.result) c.in-Some.ensures.steps in
    let less = left-known known c.into_iter-number-iterator.result (c.in-Some.number.now, c.in-Some.field-0-1.now)
    c.next.new.self
    (sym c.is_in_one.ensures ∙ c.if-is_in_one.true) in
    omega (arith, c.loop-number.invariant.2, next, less)

pub loop-number-preserved-then-is_in_one : goal.loop-number-preserved-then-is_in_one
loop-number-preserved-then-is_in_one c =
    let known = keys_in_one nat_cmp c.args.first.now c.args.second.now c.args.third.now in
    let next = ap (left_count known c.into_iter-number-iterator.result) c.in-Some.ensures.steps in
    let less = left-known known c.into_iter-number-iterator.result (c.in-Some.number.now, c.in-Some.field-0-1.now)
    c.next.new.self
    (sym c.is_in_one.ensures ∙ c.if-is_in_one.true) in
    (tt, tt, omega (arith, c.loop-number.invariant.2, next, less))

pub loop-number-preserved : goal.loop-number-preserved
loop-number-preserved c =
    let known = keys_in_one nat_cmp c.args.first.now c.args.second.now c.args.third.now in (
      tt,
      tt,
      c.loop-number.invariant.2
          ∙ ap (left_count known c.into_iter-number-iterator.result) c.in-Some.ensures.steps
          ∙ left-new known c.into_iter-number-iterator.result (c.in-Some.number.now, c.in-Some.field-0-1.now)
          c.next.new.self
          (sym c.is_in_one.ensures ∙ c.if-is_in_one.false),
    )

pub returns : goal.returns
returns c =
    let known = keys_in_one nat_cmp c.args.first.now c.args.second.now c.args.third.now in
    c.loop-number.invariant.2
    ∙ ap (left_count known c.into_iter-number-iterator.result) c.in-None.ensures.steps.0
    ∙ left-none known c.into_iter-number-iterator.result
    ∙ ap (λ es. length (filter (λ k. not (set.contains known k)) (map (λ (e : ℕ × TextKeys). e.0) es)))
    (c.into_iter-number-iterator.ensures.into_iter_gives ∙ c.iter-number-items.ensures.rest)
    ∙ sym (len-beyond nat_cmp_total text_total exact_unsigned exact_bytes c.self.inside.map.entries c.self.invariant
    c.args.first.now c.args.second.now c.args.third.now (IsDistinct-from_sorted nat_cmp _ c.iter-number-items.ensures.ordered))
    ∙ ap (λ s. set.len (keys_beyond nat_cmp s c.args.first.now c.args.second.now c.args.third.now)) c.self.view_is
