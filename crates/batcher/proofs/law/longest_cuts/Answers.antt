use Rattle.batcher.proofs.Taking.{cuts_are_longest}
use Rattle.batcher.proofs.law.longest_cuts.Goals as goal

pub returns : goal.returns
returns c = cuts_are_longest
