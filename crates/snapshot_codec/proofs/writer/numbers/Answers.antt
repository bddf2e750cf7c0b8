use Rattle.std.proofs.Common.{rules}
use Rattle.snapshot_codec.proofs.Nodes.{stat_fits}
use Rattle.snapshot_codec.proofs.writer.numbers.Goals as goal

pub returns-clause-fit : goal.returns-clause-fit
returns-clause-fit c =
    stat_fits c.args.stat.now (search rules) (search rules) (search rules) (search rules) (search rules) (search rules)
    (search rules) (search rules) (search rules)
