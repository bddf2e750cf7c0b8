use Rattle.std.proofs.Common.{rules}
use Rattle.learner_sync.proofs.Sending.{request-writable}
use Rattle.learner_sync.proofs.request.request_of.Goals as goal

pub returns-clause-writable : goal.returns-clause-writable
returns-clause-writable c short few each =
    request-writable _ c.args.session c.args.frame.now c.args.ids.now (search rules) short few each
