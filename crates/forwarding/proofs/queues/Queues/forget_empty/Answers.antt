use Rattle.std.proofs.Common.{sym, ◌∙◌}
use Rattle.forwarding.proofs.Changing.{emptied}
use Rattle.forwarding.proofs.queues.Queues.forget_empty.Goals as goal

pub returns-then-has_empty : goal.returns-then-has_empty
returns-then-has_empty c =
    emptied c.args.self.now c.remove.new.self c.args.number (sym c.has_empty.ensures ∙ c.if-has_empty.true)
    c.remove.ensures
