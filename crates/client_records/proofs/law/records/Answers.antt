-- The laws of the records, each from those of its fields.
use Rattle.std.proofs.Common.{refl}
use Rattle.jute.specs.Format.{text_or_empty}
use Rattle.jute.specs.Owned.{acl_format}
use Rattle.jute.specs.Laws.{IsSound}
use Rattle.jute.proofs.Public.{int_sound, long_sound, boolean_sound, buffer_sound, text_sound, name_sound, acl_sound, stat_sound, null_vector_sound, both_sound, mapped_sound}
use Rattle.client_records.specs.Fields.{names_format}
use Rattle.client_records.specs.Requests.{connect_request, path_and_watch, path_alone, set_watches, set_watches2, path_and_kind, add_watch, auth_packet, sasl_request}
use Rattle.client_records.specs.Multi.{multi_header}
use Rattle.client_records.specs.Responses.{connect_response, exists_response, get_data_response, get_children_response, get_children2_response, get_acl_response, path_response, create2_response, error_response, all_children_number_response, client_info, who_am_i_response, sasl_response, watcher_event}
use Rattle.client_records.proofs.law.records.Goals as goal

names_sound : IsSound names_format
names_sound = null_vector_sound text_or_empty name_sound

connect_request_sound : IsSound connect_request
unfolding connect_request
connect_request_sound =
    mapped_sound _ _ _ (λ v. refl) (λ r. refl)
    (both_sound _ _ int_sound
    (both_sound _ _ long_sound
    (both_sound _ _ int_sound
    (both_sound _ _ long_sound buffer_sound))))

path_and_watch_sound : IsSound path_and_watch
unfolding path_and_watch
path_and_watch_sound = mapped_sound _ _ _ (λ v. refl) (λ r. refl) (both_sound _ _ text_sound boolean_sound)

path_alone_sound : IsSound path_alone
unfolding path_alone
path_alone_sound = mapped_sound _ _ _ (λ v. refl) (λ r. refl) text_sound

set_watches_sound : IsSound set_watches
unfolding set_watches
set_watches_sound =
    mapped_sound _ _ _ (λ v. refl) (λ r. refl)
    (both_sound _ _ long_sound
    (both_sound _ _ names_sound
    (both_sound _ _ names_sound names_sound)))

set_watches2_sound : IsSound set_watches2
unfolding set_watches2
set_watches2_sound =
    mapped_sound _ _ _ (λ v. refl) (λ r. refl) (both_sound _ _ set_watches_sound (both_sound _ _ names_sound names_sound))

path_and_kind_sound : IsSound path_and_kind
unfolding path_and_kind
path_and_kind_sound = mapped_sound _ _ _ (λ v. refl) (λ r. refl) (both_sound _ _ text_sound int_sound)

add_watch_sound : IsSound add_watch
unfolding add_watch
add_watch_sound = mapped_sound _ _ _ (λ v. refl) (λ r. refl) (both_sound _ _ text_sound int_sound)

auth_packet_sound : IsSound auth_packet
unfolding auth_packet
auth_packet_sound =
    mapped_sound _ _ _ (λ v. refl) (λ r. refl) (both_sound _ _ int_sound (both_sound _ _ text_sound buffer_sound))

multi_header_sound : IsSound multi_header
unfolding multi_header
multi_header_sound =
    mapped_sound _ _ _ (λ v. refl) (λ r. refl) (both_sound _ _ int_sound (both_sound _ _ boolean_sound int_sound))

sasl_request_sound : IsSound sasl_request
unfolding sasl_request
sasl_request_sound = mapped_sound _ _ _ (λ v. refl) (λ r. refl) buffer_sound

connect_response_sound : IsSound connect_response
unfolding connect_response
connect_response_sound =
    mapped_sound _ _ _ (λ v. refl) (λ r. refl)
    (both_sound _ _ int_sound
    (both_sound _ _ int_sound
    (both_sound _ _ long_sound buffer_sound)))

exists_response_sound : IsSound exists_response
unfolding exists_response
exists_response_sound = mapped_sound _ _ _ (λ v. refl) (λ r. refl) stat_sound

get_data_response_sound : IsSound get_data_response
unfolding get_data_response
get_data_response_sound = mapped_sound _ _ _ (λ v. refl) (λ r. refl) (both_sound _ _ buffer_sound stat_sound)

get_children_response_sound : IsSound get_children_response
unfolding get_children_response
get_children_response_sound = mapped_sound _ _ _ (λ v. refl) (λ r. refl) names_sound

get_children2_response_sound : IsSound get_children2_response
unfolding get_children2_response
get_children2_response_sound = mapped_sound _ _ _ (λ v. refl) (λ r. refl) (both_sound _ _ names_sound stat_sound)

get_acl_response_sound : IsSound get_acl_response
unfolding get_acl_response
get_acl_response_sound =
    mapped_sound _ _ _ (λ v. refl) (λ r. refl) (both_sound _ _ (null_vector_sound acl_format acl_sound) stat_sound)

path_response_sound : IsSound path_response
unfolding path_response
path_response_sound = mapped_sound _ _ _ (λ v. refl) (λ r. refl) text_sound

create2_response_sound : IsSound create2_response
unfolding create2_response
create2_response_sound = mapped_sound _ _ _ (λ v. refl) (λ r. refl) (both_sound _ _ text_sound stat_sound)

error_response_sound : IsSound error_response
unfolding error_response
error_response_sound = mapped_sound _ _ _ (λ v. refl) (λ r. refl) int_sound

all_children_number_response_sound : IsSound all_children_number_response
unfolding all_children_number_response
all_children_number_response_sound = mapped_sound _ _ _ (λ v. refl) (λ r. refl) int_sound

client_info_sound : IsSound client_info
unfolding client_info
client_info_sound = mapped_sound _ _ _ (λ v. refl) (λ r. refl) (both_sound _ _ name_sound name_sound)

who_am_i_response_sound : IsSound who_am_i_response
unfolding who_am_i_response
who_am_i_response_sound =
    mapped_sound _ _ _ (λ v. refl) (λ r. refl) (null_vector_sound client_info client_info_sound)

sasl_response_sound : IsSound sasl_response
unfolding sasl_response
sasl_response_sound = mapped_sound _ _ _ (λ v. refl) (λ r. refl) buffer_sound

watcher_event_sound : IsSound watcher_event
unfolding watcher_event
watcher_event_sound =
    mapped_sound _ _ _ (λ v. refl) (λ r. refl) (both_sound _ _ int_sound (both_sound _ _ int_sound text_sound))

pub returns : goal.returns
returns c = record {
  connect_request = connect_request_sound;
  exists_request = path_and_watch_sound;
  get_data_request = path_and_watch_sound;
  get_children_request = path_and_watch_sound;
  get_children2_request = path_and_watch_sound;
  get_acl_request = path_alone_sound;
  set_watches = set_watches_sound;
  set_watches2 = set_watches2_sound;
  path_and_kind = path_and_kind_sound;
  add_watch = add_watch_sound;
  auth_packet = auth_packet_sound;
  multi_header = multi_header_sound;
  sasl_request = sasl_request_sound;
  connect_response = connect_response_sound;
  exists_response = exists_response_sound;
  get_data_response = get_data_response_sound;
  get_children_response = get_children_response_sound;
  get_children2_response = get_children2_response_sound;
  get_acl_response = get_acl_response_sound;
  path_response = path_response_sound;
  create2_response = create2_response_sound;
  error_response = error_response_sound;
  all_children_number_response = all_children_number_response_sound;
  client_info = client_info_sound;
  who_am_i_response = who_am_i_response_sound;
  sasl_response = sasl_response_sound;
  watcher_event = watcher_event_sound;
}
