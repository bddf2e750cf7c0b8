-- The records in the frames to a client: the fields of zookeeper.jute in their order, with nothing between.
use Rattle.jute.specs.Format.{Format, int, long, buffer, text_format, text_or_empty, vector_of, or_null, pair_of, mapped_format}
use Rattle.jute.specs.Records.{stat_format}
use Rattle.client_records.specs.Fields.{acls_format, names_format}
use Rattle.client_records.specs.declared.connect.ConnectResponse.{ConnectResponse}
use Rattle.client_records.specs.declared.event.WatcherEvent.{WatcherEvent}
use Rattle.client_records.specs.declared.response.ExistsResponse.{ExistsResponse}
use Rattle.client_records.specs.declared.response.GetDataResponse.{GetDataResponse}
use Rattle.client_records.specs.declared.response.GetChildrenResponse.{GetChildrenResponse}
use Rattle.client_records.specs.declared.response.GetChildren2Response.{GetChildren2Response}
use Rattle.client_records.specs.declared.response.GetAclResponse.{GetAclResponse}
use Rattle.client_records.specs.declared.response.PathResponse.{PathResponse}
use Rattle.client_records.specs.declared.response.Create2Response.{Create2Response}
use Rattle.client_records.specs.declared.response.ErrorResponse.{ErrorResponse}
use Rattle.client_records.specs.declared.response.GetAllChildrenNumberResponse.{GetAllChildrenNumberResponse}
use Rattle.client_records.specs.declared.response.ClientInfo.{ClientInfo}
use Rattle.client_records.specs.declared.response.WhoAmIResponse.{WhoAmIResponse}
use Rattle.client_records.specs.declared.response.SaslResponse.{SaslResponse}

unfoldable pub connect_response : Format ConnectResponse
connect_response =
    mapped_format
    (λ v. record { protocol_version = v.0; time_out = v.1.0; session_id = v.1.1.0; passwd = v.1.1.1 })
    (λ r. (r.protocol_version, (r.time_out, (r.session_id, r.passwd))))
    (pair_of int (pair_of int (pair_of long buffer)))

unfoldable pub exists_response : Format ExistsResponse
exists_response = mapped_format (λ v. record { stat = v }) (λ r. r.stat) stat_format

unfoldable pub get_data_response : Format GetDataResponse
get_data_response = mapped_format (λ v. record { bytes = v.0; stat = v.1 }) (λ r. (r.bytes, r.stat))
    (pair_of buffer stat_format)

unfoldable pub get_children_response : Format GetChildrenResponse
get_children_response = mapped_format (λ v. record { children = v }) (λ r. r.children) names_format

unfoldable pub get_children2_response : Format GetChildren2Response
get_children2_response =
    mapped_format (λ v. record { children = v.0; stat = v.1 }) (λ r. (r.children, r.stat))
    (pair_of names_format stat_format)

unfoldable pub get_acl_response : Format GetAclResponse
get_acl_response = mapped_format (λ v. record { acl = v.0; stat = v.1 }) (λ r. (r.acl, r.stat))
    (pair_of acls_format stat_format)

-- Of CreateResponse and SyncResponse.
unfoldable pub path_response : Format PathResponse
path_response = mapped_format (λ v. record { path = v }) (λ r. r.path) text_format

unfoldable pub create2_response : Format Create2Response
create2_response = mapped_format (λ v. record { path = v.0; stat = v.1 }) (λ r. (r.path, r.stat))
    (pair_of text_format stat_format)

unfoldable pub error_response : Format ErrorResponse
error_response = mapped_format (λ v. record { err = v }) (λ r. r.err) int

unfoldable pub all_children_number_response : Format GetAllChildrenNumberResponse
all_children_number_response = mapped_format (λ v. record { total_number = v }) (λ r. r.total_number) int

unfoldable pub client_info : Format ClientInfo
client_info = mapped_format (λ v. record { auth_scheme = v.0; user = v.1 }) (λ r. (r.auth_scheme, r.user))
    (pair_of text_or_empty text_or_empty)

unfoldable pub who_am_i_response : Format WhoAmIResponse
who_am_i_response = mapped_format (λ v. record { client_info = v }) (λ r. r.client_info) (or_null (vector_of client_info))

unfoldable pub sasl_response : Format SaslResponse
sasl_response = mapped_format (λ v. record { token = v }) (λ r. r.token) buffer

unfoldable pub watcher_event : Format WatcherEvent
watcher_event =
    mapped_format
    (λ v. record { kind = v.0; state = v.1.0; path = v.1.1 })
    (λ r. (r.kind, (r.state, r.path)))
    (pair_of int (pair_of int text_format))
