use Rattle.watch_manager.proofs.Lefts.{but_on-none}
use Rattle.watch_manager.proofs.left.UnusedWatches.new.Goals as goal

pub returns : goal.returns
returns c = but_on-none c.new.result c.args.table.now c.new.ensures
