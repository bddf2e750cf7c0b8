use Rattle.std.proofs.Common.{◌≡◌, ◌++◌, append_assoc}
use Rattle.values.proofs.Gaining.{gains_first, gains_behind, gains_same, puts_behind, puts_same}
use Rattle.jute.specs.Format.{long}
use Rattle.jute.specs.Records.{stat_persisted, four_longs, three_ints}
use Rattle.jute.specs.declared.stat.StatPersisted.{StatPersisted}
use Rattle.jute.proofs.Writing.{fails}
use Rattle.jute.proofs.stat.StatPersistedWriteRecord.write.Goals as goal

-- The fields in the groups in which they are written.
grouped : (s : StatPersisted) → four_longs s.czxid s.mzxid s.ctime
    s.mtime ++ (three_ints s.version s.cversion s.aversion
    ++ (long.written s.ephemeral_owner ++ long.written s.pzxid)) ≡ stat_persisted.written s
unfolding stat_persisted
grouped s = simp append_assoc

pub returns : goal.returns
returns c =
    puts_same _ _ _ _ _ (grouped c.args.self.now)
    (puts_behind _ _ _ _ _ _ c.in_ok-put_four_longs.ensures
    (puts_behind _ _ _ _ _ _ c.in_ok-put_three_ints.ensures
    (puts_behind _ _ _ _ _ _ c.in_ok-write.ensures c.write-2.ensures)))

pub returns-in_err-put_four_longs : goal.returns-in_err-put_four_longs
returns-in_err-put_four_longs c = fails _ c.from_residual.ensures.0
    (gains_same (grouped c.args.self.now) (gains_first _ c.in_err-put_four_longs.ensures))

pub returns-in_err-put_three_ints : goal.returns-in_err-put_three_ints
returns-in_err-put_three_ints c =
    fails _ c.from_residual-in_err-put_three_ints.ensures.0
    (gains_same (grouped c.args.self.now)
    (gains_behind _ _ c.in_ok-put_four_longs.ensures
    (gains_first _ c.in_err-put_three_ints.ensures)))

pub returns-in_err-write : goal.returns-in_err-write
returns-in_err-write c =
    fails _ c.from_residual-in_err-write.ensures.0
    (gains_same (grouped c.args.self.now)
    (gains_behind _ _ c.in_ok-put_four_longs.ensures
    (gains_behind _ _ c.in_ok-put_three_ints.ensures
    (gains_first _ c.in_err-write.ensures))))
