use Rattle.std.proofs.Common.{refl}
use Rattle.forwarding.specs.Queue.{without_oldest_write}
use Rattle.forwarding.proofs.Changing.{changed}
use Rattle.forwarding.proofs.queues.Queues.remove_write.Goals as goal

pub returns : goal.returns
returns c = changed c.args.self.now c.remove_write_in.new.self c.forget_empty.new.self c.args.number (λ q. without_oldest_write q) refl
    c.remove_write_in.ensures c.forget_empty.ensures
