use Rattle.txn_codec.proofs.decode.CreateReadRecord.read.Goals as goal

pub returns : goal.returns
returns c = rw c.reads.ensures at c.read_create.ensures
