use Rattle.std.proofs.Common.{arith}
use Rattle.txn_codec.proofs.Limits.{decoded_fits, decoded_writable, decoded_parents}
use Rattle.txn_codec.proofs.Naming.{decoded, decoded_only, refused_is_named, refused_spells_none}
use Rattle.txn_codec.proofs.decode.decode_txn_in.Goals as goal

pub returns-clause-found : goal.returns-clause-found
returns-clause-found c =
    decoded c.args.dialect c.args.bytes.now c.read_whole.result (λ i. omega (arith, c.type_inv.bytes i))
    c.read_whole.ensures

pub returns-clause-only : goal.returns-clause-only
returns-clause-only c = λ t s.
    decoded_only c.args.dialect c.args.bytes.now c.read_whole.result t
    c.read_whole.ensures s

pub returns-clause-exact : goal.returns-clause-exact
returns-clause-exact c = c.read_whole.ensures

pub returns-clause-none : goal.returns-clause-none
returns-clause-none c = refused_spells_none c.args.dialect c.args.bytes.now c.read_whole.result
    c.read_whole.ensures

pub returns-clause-named : goal.returns-clause-named
returns-clause-named c =
    refused_is_named c.args.dialect c.args.bytes.now c.read_whole.result
    (λ i. omega (arith, c.type_inv.bytes i)) c.read_whole.ensures

pub returns-clause-fits : goal.returns-clause-fits
returns-clause-fits c = decoded_fits c.args.dialect c.args.bytes.now c.read_whole.result
    (decoded c.args.dialect c.args.bytes.now c.read_whole.result (λ i. omega (arith, c.type_inv.bytes i))
    c.read_whole.ensures)

pub returns-clause-writable : goal.returns-clause-writable
returns-clause-writable c = decoded_writable c.args.dialect c.read_whole.result
    (decoded_fits c.args.dialect c.args.bytes.now c.read_whole.result
    (decoded c.args.dialect c.args.bytes.now c.read_whole.result (λ i. omega (arith, c.type_inv.bytes i))
    c.read_whole.ensures))

pub returns-clause-parents : goal.returns-clause-parents
returns-clause-parents c = decoded_parents c.args.dialect c.args.bytes.now c.read_whole.result
    (decoded c.args.dialect c.args.bytes.now c.read_whole.result (λ i. omega (arith, c.type_inv.bytes i))
    c.read_whole.ensures)
