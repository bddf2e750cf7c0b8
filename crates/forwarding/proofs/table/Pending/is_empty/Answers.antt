use Rattle.std.proofs.Common.{rules}
use Rattle.forwarding.proofs.Emptiness.{no_requests}
use Rattle.forwarding.proofs.table.Pending.is_empty.Goals as goal

pub returns-clause-none : goal.returns-clause-none
returns-clause-none c is = no_requests c.args.self.now (search rules)
