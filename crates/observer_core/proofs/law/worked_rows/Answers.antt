use Rattle.observer_core.proofs.Rows.{unwatched}
use Rattle.observer_core.proofs.AllRows.{rows_hold}
use Rattle.observer_core.proofs.law.worked_rows.Goals as goal

pub returns : goal.returns
returns c = rows_hold c.transactions.ensures.again (unwatched c.firing.ensures.watchers c.firing.ensures.silent)
    c.worked_rows.ensures
