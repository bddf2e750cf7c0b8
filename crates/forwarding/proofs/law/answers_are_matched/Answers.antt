use Rattle.forwarding.proofs.Answered as answered
use Rattle.forwarding.proofs.law.answers_are_matched.Goals as goal

pub returns : goal.returns
returns c = answered.answers_are_matched
