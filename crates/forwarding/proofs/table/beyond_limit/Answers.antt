use Rattle.forwarding.specs.Pending.{touched_limit}
use Rattle.forwarding.proofs.Touching.{none_beyond, all_beyond}
use Rattle.forwarding.proofs.table.beyond_limit.Goals as goal

pub returns-then-rows-le-TOUCHED_LIMIT : goal.returns-then-rows-le-TOUCHED_LIMIT
returns-then-rows-le-TOUCHED_LIMIT c = none_beyond touched_limit c.args.rows.now c.if-rows-le-TOUCHED_LIMIT.true

pub returns : goal.returns
returns c = all_beyond touched_limit c.args.rows.now
