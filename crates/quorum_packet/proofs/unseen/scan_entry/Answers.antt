use Rattle.std.proofs.Common.{arith}
use Rattle.std.proofs.lemmas.Result.{err_from_is_err_and}
use Rattle.quorum_packet.proofs.Entries.{id_refused, id_seen, perms_refused, scheme_refused, scheme_seen}
use Rattle.quorum_packet.proofs.unseen.scan_entry.Goals as goal

pub returns-in_err-read_name_in-clause-err : goal.returns-in_err-read_name_in-clause-err
returns-in_err-read_name_in-clause-err c =
    let p = err_from_is_err_and c.from_residual.result c.from_residual.ensures.1 in
    rw (p.1, p.2) (id_refused c.args.bytes.now c.new-ahead.result c.args.entries.now c.requires.unseen
    c.new-ahead.ensures c.in_err-read_name_in.field-0.0 c.if-entries.true c.in_err-read_name_in.ensures.0).0

pub overflow_sub-entries : goal.overflow_sub-entries
overflow_sub-entries c =
    rw c.rest.ensures (id_seen c.args.bytes.now c.new-ahead.result c.args.entries.now c.requires.unseen
    c.new-ahead.ensures c.read_name_in.new.reader c.in_ok-read_name_in.field-0 (λ i. omega (arith, c.type_inv.bytes i))
    c.if-entries.true c.in_ok-read_name_in.ensures).0

pub returns-then-entries-clause-kept : goal.returns-then-entries-clause-kept
returns-then-entries-clause-kept c =
    rw c.rest.ensures (id_seen c.args.bytes.now c.new-ahead.result c.args.entries.now c.requires.unseen
    c.new-ahead.ensures c.read_name_in.new.reader c.in_ok-read_name_in.field-0 (λ i. omega (arith, c.type_inv.bytes i))
    c.if-entries.true c.in_ok-read_name_in.ensures).1

pub returns-in_err-read_int-clause-err : goal.returns-in_err-read_int-clause-err
returns-in_err-read_int-clause-err c =
    let p = err_from_is_err_and c.from_residual-in_err-read_int.result c.from_residual-in_err-read_int.ensures.1 in
    rw (p.1, p.2) (perms_refused c.args.bytes.now c.new-ahead.result c.args.entries.now c.requires.unseen
    c.new-ahead.ensures c.requires.some c.if-entries.false c.in_err-read_int.field-0.0 c.in_err-read_int.ensures.0).0

pub returns-in_err-read_name_in-2-clause-err : goal.returns-in_err-read_name_in-2-clause-err
returns-in_err-read_name_in-2-clause-err c =
    let p = err_from_is_err_and c.from_residual-in_err-read_name_in-2.result
    c.from_residual-in_err-read_name_in-2.ensures.1 in
    rw (p.1, p.2) (scheme_refused c.args.bytes.now c.new-ahead.result c.args.entries.now c.requires.unseen
    c.new-ahead.ensures c.requires.some c.if-entries.false c.in_err-read_name_in-2.field-0.0 c.in_ok-read_int.field-0
    c.read_int.new.self c.in_ok-read_int.ensures c.in_err-read_name_in-2.ensures.0).0

pub overflow_sub-entries-2 : goal.overflow_sub-entries-2
overflow_sub-entries-2 c =
    rw c.rest-2.ensures (scheme_seen c.args.bytes.now c.new-ahead.result c.args.entries.now c.requires.unseen
    c.new-ahead.ensures c.requires.some c.if-entries.false c.in_ok-read_int.field-0 c.read_int.new.self
    c.read_name_in-2.new.reader c.in_ok-read_name_in-2.field-0 (λ i. omega (arith, c.type_inv.bytes i))
    c.in_ok-read_int.ensures c.in_ok-read_name_in-2.ensures).0

pub returns-clause-kept : goal.returns-clause-kept
returns-clause-kept c =
    rw c.rest-2.ensures (scheme_seen c.args.bytes.now c.new-ahead.result c.args.entries.now c.requires.unseen
    c.new-ahead.ensures c.requires.some c.if-entries.false c.in_ok-read_int.field-0 c.read_int.new.self
    c.read_name_in-2.new.reader c.in_ok-read_name_in-2.field-0 (λ i. omega (arith, c.type_inv.bytes i))
    c.in_ok-read_int.ensures c.in_ok-read_name_in-2.ensures).1
