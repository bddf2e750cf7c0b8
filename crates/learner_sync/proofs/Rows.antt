-- The worked steps, by evaluation.
use Rattle.std.proofs.Common.{refl}
use Rattle.jute.specs.Format.{number_bytes}
use Rattle.jute.specs.Owned.{id_in}
use Rattle.quorum_packet.specs.Kinds.{kind_of}
use Rattle.quorum_packet.specs.Packet.{packet_format}
use Rattle.learner_sync.specs.Records.{learner_info}
use Rattle.learner_sync.specs.Rows.{WorkedRows}

pub worked_rows : WorkedRows
unfolding kind_of learner_info number_bytes id_in packet_format
worked_rows = record {
  introduced = refl;
  same_epoch = refl;
  greater_epoch = refl;
  smaller_epoch = refl;
  no_version = refl;
  too_early = refl;
  truncated_to_base = refl;
  one_kept = refl;
  below_base = refl;
  base_is_greater = refl;
  below_zero = refl;
  image_comes = refl;
  image_is_whole = refl;
  in_the_image = refl;
  out_of_order = refl;
  other_commit = refl;
  oldest_commit = refl;
  configuration_commit = refl;
  configuration_passed = refl;
  no_server_named = refl;
  activation_passed = refl;
  none_proposed = refl;
  up_to_date = refl;
  ping = refl;
  answer_to_ping = refl;
  sync = refl;
  session_confirmed = refl;
  sync_in_replay = refl;
  forwarded = refl;
  forwarded_with_id = refl;
  session_asked_about = refl;
  session_asked_for = refl;
}
