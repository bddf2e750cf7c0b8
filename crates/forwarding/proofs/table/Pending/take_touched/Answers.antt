use Rattle.std.proofs.Common.{ap, ◌∙◌, drop}
use Rattle.forwarding.specs.Pending.{touched_limit}
use Rattle.forwarding.proofs.Touching.{told}
use Rattle.forwarding.proofs.table.Pending.take_touched.Goals as goal

pub returns-clause-ok : goal.returns-clause-ok
returns-clause-ok g c =
    rw (← c.self.view_is) (told _ (g.T.SessionTimeouts.timeout c.args.timeouts.now) c.in_ok-rows.rows.items c.truncate.new.self.items
    c.beyond_limit.result.now c.in_ok-self-inside.field-0 c.in_ok-rows.ensures c.truncate.ensures.items
    (c.beyond_limit.ensures ∙ ap (λ xs. drop touched_limit xs) c.as_slice.ensures.value) c.in_ok-self-inside.ensures)
