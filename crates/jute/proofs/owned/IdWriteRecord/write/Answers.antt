use Rattle.std.proofs.Common.{refl}
use Rattle.jute.specs.Owned.{id_in}
use Rattle.values.proofs.Gaining.{puts_behind, puts_same}
use Rattle.jute.proofs.owned.IdWriteRecord.write.Goals as goal

pub returns : goal.returns
unfolding id_in
returns c =
    puts_same _ _ _ _ _ (rw (c.as_slice.ensures, c.as_slice-2.ensures) refl)
    (puts_behind _ _ _ _ _ _ c.in_ok-put_bytes.ensures c.put_bytes-2.ensures)
