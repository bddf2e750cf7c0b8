use Rattle.std.proofs.Common.{refl}
use Rattle.forwarding.specs.Queue.{with_oldest_settled}
use Rattle.forwarding.proofs.Changing.{changed}
use Rattle.forwarding.proofs.queues.Queues.settle.Goals as goal

pub returns : goal.returns
returns c = changed c.args.self.now c.settle_in.new.self c.forget_empty.new.self c.args.number (λ q. with_oldest_settled q) refl
    c.settle_in.ensures c.forget_empty.ensures
