use Rattle.std.proofs.Common.{refl}
use Rattle.forwarding.specs.Queue.{ready_request, without_front_if}
use Rattle.forwarding.proofs.Changing.{changed}
use Rattle.forwarding.proofs.queues.Queues.take_ready.Goals as goal

pub returns-clause-rest : goal.returns-clause-rest
returns-clause-rest c = changed c.args.self.now c.take_ready_in-ready.new.self c.forget_empty.new.self c.args.number (λ q. without_front_if (ready_request q) q) refl
    c.take_ready_in-ready.ensures.rest c.forget_empty.ensures
