use Rattle.read_processor.proofs.Counting.{all_left, one_less, too_many, none_left, passed}
use Rattle.ephemerals.specs.Orders.{sorted_names}
use Rattle.read_processor.proofs.counts.names_len.Goals as goal

pub loop-text-init : goal.loop-text-init
loop-text-init c =
    rw (c.into_iter-text-iterator.ensures.into_iter_gives, c.iter-text-items.ensures.texts)
    (tt, tt, all_left (sorted_names c.args.texts.now))

pub with_text-requires : goal.with_text-requires
with_text-requires c = c.loop-text.invariant.2.within

pub returns-in_err-count : goal.returns-in_err-count
returns-in_err-count c =
    let here = rw c.in-Some.ensures.steps at c.loop-text.invariant in
    passed _ _ c.from_residual.ensures (too_many here.2 (rw (c.as_bytes.ensures.value, c.as_str.ensures) at c.in_err-count.ensures))

pub loop-text-preserved : goal.loop-text-preserved
loop-text-preserved c =
    let here = rw c.in-Some.ensures.steps at c.loop-text.invariant in
    (tt, tt, one_less here.2 (rw (c.as_bytes.ensures.value, c.as_str.ensures) at c.in_ok-count.ensures))

pub returns : goal.returns
returns c =
    let here = rw c.in-None.ensures.steps.0 at c.loop-text.invariant in
    none_left here.2
