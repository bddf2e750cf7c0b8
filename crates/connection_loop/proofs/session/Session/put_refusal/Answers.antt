use Rattle.std.proofs.Common.{ap}
use Rattle.connection_loop.specs.Outgoing.{Unwritten}
use Rattle.connection_loop.proofs.Passing.{refusal_front}
use Rattle.connection_loop.proofs.session.Session.put_refusal.Goals as goal

pub returns-clause-text : goal.returns-clause-text
returns-clause-text c =
    refusal_front c.put_last-2.result c.args.word c.args.self.now.outgoing.bytes c.put_last.new.self c.put_last-2.new.self
    (ap (λ (u : Unwritten). u.bytes) c.in_ok-put_last.ensures.ok) c.put_last-2.ensures.ok c.put_last-2.ensures.err
