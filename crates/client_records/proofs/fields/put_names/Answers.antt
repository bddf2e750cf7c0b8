use Rattle.std.proofs.Common.{◌<◌, ◌^◌, length, sym, subst, ◌∙◌, arith}
use Rattle.ephemerals.specs.Orders.{sorted_names}
use Rattle.ephemerals.proofs.Ascending.{count_in_order}
use Rattle.jute.proofs.Writing.{fails}
use Rattle.client_records.proofs.Names.{each_may, put_count, put_next, put_part, put_part_of_count}
use Rattle.client_records.proofs.fields.put_names.Goals as goal

pub overflow_cast-len : goal.overflow_cast-len
overflow_cast-len c =
    let few : c.len.result < 2 ^ 31 =
    subst (λ n. n < 2 ^ 31) (count_in_order c.args.texts.now ∙ sym c.len.ensures) c.requires.0 in
    omega (arith, few)

pub returns-in_err-put_int : goal.returns-in_err-put_int
returns-in_err-put_int c =
    fails _ c.from_residual.ensures.0
    (put_part_of_count c.args.out.now.items c.put_int.new.out.items _ (sorted_names c.args.texts.now)
    (count_in_order c.args.texts.now ∙ sym c.len.ensures) c.requires.0 c.in_err-put_int.ensures)

pub loop-text-init : goal.loop-text-init
loop-text-init c =
    let texts = sorted_names c.args.texts.now in
    rw (c.into_iter-text-iterator.ensures.into_iter_gives, c.iter-text-items.ensures.texts) (
      tt,
      tt,
      each_may texts c.requires.1,
      put_count c.args.out.now.items c.put_int.new.out.items _ texts
          (count_in_order c.args.texts.now ∙ sym c.len.ensures) c.requires.0 c.in_ok-put_int.ensures,
    )

pub loop-text-preserved : goal.loop-text-preserved
loop-text-preserved c =
    let here = rw c.in-Some.ensures.steps at c.loop-text.invariant in
    (tt, tt, here.2.1, put_next here.3 (rw c.as_str.ensures at c.in_ok-put_string.ensures))

pub returns-in_err-put_string : goal.returns-in_err-put_string
returns-in_err-put_string c =
    let here = rw c.in-Some.ensures.steps at c.loop-text.invariant in
    fails _ c.from_residual-in_err-put_string.ensures.0
    (put_part here.3 (rw c.as_str.ensures at c.in_err-put_string.ensures))
