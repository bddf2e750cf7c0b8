use Rattle.std.proofs.Common.{rules}
use Rattle.jute.specs.Format.{number_bytes}
use Rattle.learner_sync.proofs.Sending.{question-writable}
use Rattle.learner_sync.proofs.request.session_question.Goals as goal

pub returns-clause-writable : goal.returns-clause-writable
unfolding number_bytes
returns-clause-writable c = question-writable _ c.args.session c.args.time_out (search rules)
