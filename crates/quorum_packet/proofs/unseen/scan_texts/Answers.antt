use Rattle.std.proofs.Common.{arith}
use Rattle.std.proofs.lemmas.Result.{err_from_is_err_and}
use Rattle.quorum_packet.proofs.Looking.{text_refused, text_unseen}
use Rattle.quorum_packet.proofs.unseen.scan_texts.Goals as goal

pub returns-in_err-read_name-clause-err : goal.returns-in_err-read_name-clause-err
returns-in_err-read_name-clause-err c =
    let p = err_from_is_err_and c.from_residual.result c.from_residual.ensures.1 in
    rw (p.1, p.2) (text_refused c.args.bytes.now c.loop-texts.ahead c.loop-texts.texts c.loop-texts.invariant.kept
    (omega arith) c.loop-texts.invariant.place c.in_err-read_name.field-0.0 c.in_err-read_name.ensures.0)

pub overflow_sub-texts : goal.overflow_sub-texts
overflow_sub-texts c =
    let seen = text_unseen c.args.bytes.now c.loop-texts.ahead c.loop-texts.texts c.loop-texts.invariant.kept
    (omega arith) c.loop-texts.invariant.place
    c.read_name.new.reader c.in_ok-read_name.field-0 (λ i. omega (arith, c.type_inv.bytes i))
    c.in_ok-read_name.ensures in
    rw c.rest.ensures seen.0

pub loop-texts-preserved : goal.loop-texts-preserved
loop-texts-preserved c =
    let seen = text_unseen c.args.bytes.now c.loop-texts.ahead c.loop-texts.texts c.loop-texts.invariant.kept
    (omega arith) c.loop-texts.invariant.place
    c.read_name.new.reader c.in_ok-read_name.field-0 (λ i. omega (arith, c.type_inv.bytes i))
    c.in_ok-read_name.ensures in
    rw c.rest.ensures (record { kept = seen.1; place = seen.2 })
