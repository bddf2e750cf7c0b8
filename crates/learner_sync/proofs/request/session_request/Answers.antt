use Rattle.std.proofs.Common.{rules}
use Rattle.jute.specs.Format.{number_bytes}
use Rattle.learner_sync.proofs.Sending.{session-writable}
use Rattle.learner_sync.proofs.request.session_request.Goals as goal

pub returns-clause-writable : goal.returns-clause-writable
unfolding number_bytes
returns-clause-writable c = session-writable _ c.args.session c.args.time_out (search rules)
