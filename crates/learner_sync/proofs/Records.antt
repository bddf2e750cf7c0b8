-- The law of the record, from those of its fields.
use Rattle.std.proofs.Common.{refl}
use Rattle.jute.specs.Laws.{IsSound}
use Rattle.jute.proofs.Public.{int_sound, long_sound, both_sound, mapped_sound}
use Rattle.learner_sync.specs.Records.{learner_info}

pub learner_info_sound : IsSound learner_info
unfolding learner_info
learner_info_sound = mapped_sound _ _ _ (λ v. refl) (λ i. refl) (both_sound _ _ long_sound int_sound)
