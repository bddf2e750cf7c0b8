use Rattle.values.proofs.Gaining.{puts_behind}
use Rattle.jute.proofs.stat.put_four_longs.Goals as goal

pub returns : goal.returns
returns c =
    puts_behind _ _ _ _ _ _ c.in_ok-write.ensures
    (puts_behind _ _ _ _ _ _ c.in_ok-write-2.ensures
    (puts_behind _ _ _ _ _ _ c.in_ok-write-3.ensures c.write-4.ensures))
