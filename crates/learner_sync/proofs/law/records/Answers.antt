use Rattle.learner_sync.proofs.Records.{learner_info_sound}
use Rattle.learner_sync.proofs.law.records.Goals as goal

pub returns : goal.returns
returns c = learner_info_sound
