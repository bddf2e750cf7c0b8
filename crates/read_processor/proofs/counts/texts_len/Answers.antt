use Rattle.std.proofs.Common.{length, arith}
use Rattle.std.specs.List.{flat_map}
use Rattle.std.proofs.lemmas.List.{take_all}
use Rattle.jute.specs.Format.{text_or_empty}
use Rattle.jute.proofs.Writing.{length_item}
use Rattle.read_processor.proofs.Counting.{counted_length, passed}
use Rattle.read_processor.proofs.counts.texts_len.Goals as goal

pub returns-in_err-count : goal.returns-in_err-count
returns-in_err-count c =
    let texts = c.args.texts.now in
    let text = c.text-item.result in
    let whole = counted_length (length texts) (flat_map text_or_empty.written texts) in
    let next = length_item text_or_empty.written texts c.loop-text.text-index text c.loop-text-test.true
    c.text-item.is in
    let far = rw (c.as_bytes.ensures.value, c.as_str.ensures) at c.in_err-count.ensures in
    passed _ _ c.from_residual.ensures (omega (arith, whole, next, c.loop-text.invariant.0, far))

pub returns : goal.returns
returns c =
    let texts = c.args.texts.now in
    let whole = counted_length (length texts) (flat_map text_or_empty.written texts) in
    let all = rw (take_all c.loop-text.text-index texts c.loop-text-test.false) at c.loop-text.invariant in
    (omega (arith, whole, all.0), omega (arith, whole, all.0, all.1))
