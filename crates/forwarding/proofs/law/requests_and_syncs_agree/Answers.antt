use Rattle.forwarding.proofs.Agreeing.{agreement_is_kept}
use Rattle.forwarding.proofs.law.requests_and_syncs_agree.Goals as goal

pub returns : goal.returns
returns c = agreement_is_kept
