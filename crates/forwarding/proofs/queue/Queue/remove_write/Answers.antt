use Rattle.std.proofs.Common.{arith}
use Rattle.std.proofs.lemmas.Grind.{common_steps}
use Rattle.forwarding.proofs.Queued.{removed_at}
use Rattle.forwarding.proofs.queue.Queue.remove_write.Goals as goal

pub returns : goal.returns
returns c =
    let h = removed_at c.args.self.now c.args.place c.requires in
    let within = h.0 in
    let rest = h.1 in
    grind (arith, common_steps, within, rest, c.self.view_is)
