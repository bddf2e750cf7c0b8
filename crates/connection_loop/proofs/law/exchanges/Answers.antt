use Rattle.std.proofs.Common.{refl}
use Rattle.connection_loop.proofs.Counting.{answered_is_counted, few_are_unanswered}
use Rattle.connection_loop.proofs.law.exchanges.Goals as goal

pub returns : goal.returns
returns c = record { counted = answered_is_counted; few = few_are_unanswered; first = (refl, refl) }
