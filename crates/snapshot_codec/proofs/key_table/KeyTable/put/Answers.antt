use Rattle.std.proofs.Common.{◌≤◌, subst, sym, arith}
use Rattle.jute.specs.Format.{count_limit}
use Rattle.snapshot_codec.proofs.key_table.KeyTable.put.Goals as goal

pub overflow_cast-len : goal.overflow_cast-len
overflow_cast-len c =
    let few : c.len.result ≤ count_limit = subst (λ n. n ≤ count_limit) (sym c.len.ensures.len) c.requires in
    record { sfits = omega arith }
