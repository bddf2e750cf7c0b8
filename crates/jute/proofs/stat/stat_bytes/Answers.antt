use Rattle.jute.proofs.Writing.{joined}
use Rattle.jute.specs.Records.{stat_format}
use Rattle.jute.proofs.stat.stat_bytes.Goals as goal

pub returns : goal.returns
unfolding stat_format
returns c =
    joined _ _ _ _ c.set_long.ensures
    (joined _ _ _ _ c.set_long-2.ensures
    (joined _ _ _ _ c.set_long-3.ensures
    (joined _ _ _ _ c.set_long-4.ensures
    (joined _ _ _ _ c.set_int.ensures
    (joined _ _ _ _ c.set_int-2.ensures
    (joined _ _ _ _ c.set_int-3.ensures
    (joined _ _ _ _ c.set_long-5.ensures
    (joined _ _ _ _ c.set_int-4.ensures
    (joined _ _ _ _ c.set_int-5.ensures
    c.set_long-6.ensures)))))))))
