use Rattle.std.proofs.Common.{length, arith}
use Rattle.std.specs.List.{flat_map}
use Rattle.std.proofs.lemmas.List.{take_all}
use Rattle.client_records.specs.Responses.{client_info}
use Rattle.jute.proofs.Writing.{length_item}
use Rattle.read_processor.proofs.Counting.{counted_length, passed}
use Rattle.read_processor.proofs.counts.infos_len.Goals as goal

pub returns-in_err-count : goal.returns-in_err-count
returns-in_err-count c =
    let entries = c.args.entries.now in
    let entry = c.entry-item.result in
    let whole = counted_length (length entries) (flat_map client_info.written entries) in
    let next = length_item client_info.written entries c.loop-entry.entry-index entry c.loop-entry-test.true
    c.entry-item.is in
    passed _ _ c.from_residual.ensures
    (omega (arith, whole, next, c.loop-entry.invariant.0, c.in_err-count.ensures))

pub returns : goal.returns
returns c =
    let entries = c.args.entries.now in
    let whole = counted_length (length entries) (flat_map client_info.written entries) in
    let all = rw (take_all c.loop-entry.entry-index entries c.loop-entry-test.false) at c.loop-entry.invariant in
    (omega (arith, whole, all.0), omega (arith, whole, all.0, all.1))
