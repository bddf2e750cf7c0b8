use Rattle.std.proofs.Common.{[], ◌∷◌}
use Rattle.intake.proofs.Keeping.{puts_on}
use Rattle.intake.proofs.links.Links.put_all.Goals as goal

pub loop-output-preserved : goal.loop-output-preserved
loop-output-preserved c =
    puts_on c.args.self.now c.loop-output.self c.put.new.self c.loop-output.yielded (c.in-Some.output ∷ [])
    c.loop-output.invariant c.in_ok-put.ensures.ok
