-- The LearnerInfo of zookeeper.jute.
use Rattle.jute.specs.Format.{Format, int, long, pair_of, mapped_format}
use Rattle.learner_sync.specs.declared.record.LearnerInfo.{LearnerInfo}

unfoldable pub learner_info : Format LearnerInfo
learner_info = mapped_format (λ v. record { server_id = v.0; protocol_version = v.1 })
    (λ i. (i.server_id, i.protocol_version))
    (pair_of long int)
