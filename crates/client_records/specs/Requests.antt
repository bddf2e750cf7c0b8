-- The records in a client's frames: the fields of zookeeper.jute in their order, with nothing between.
use Rattle.jute.specs.Format.{Format, int, long, boolean, buffer, text_format, pair_of, mapped_format}
use Rattle.client_records.specs.Fields.{names_format}
use Rattle.client_records.specs.declared.connect.ConnectRequest.{ConnectRequest}
use Rattle.client_records.specs.declared.request.PathAndWatch.{PathAndWatch}
use Rattle.client_records.specs.declared.request.PathAlone.{PathAlone}
use Rattle.client_records.specs.declared.request.SetWatches.{SetWatches}
use Rattle.client_records.specs.declared.request.SetWatches2.{SetWatches2}
use Rattle.client_records.specs.declared.request.PathAndKind.{PathAndKind}
use Rattle.client_records.specs.declared.request.AddWatch.{AddWatch}
use Rattle.client_records.specs.declared.request.AuthPacket.{AuthPacket}
use Rattle.client_records.specs.declared.request.SaslRequest.{SaslRequest}

unfoldable pub connect_request : Format ConnectRequest
connect_request =
    mapped_format
    (λ v. record {
      protocol_version = v.0;
      last_zxid_seen = v.1.0;
      time_out = v.1.1.0;
      session_id = v.1.1.1.0;
      passwd = v.1.1.1.1;
    })
    (λ r. (r.protocol_version, (r.last_zxid_seen, (r.time_out, (r.session_id, r.passwd)))))
    (pair_of int (pair_of long (pair_of int (pair_of long buffer))))

-- Four records have these fields.
unfoldable pub path_and_watch : Format PathAndWatch
path_and_watch = mapped_format (λ v. record { path = v.0; watch = v.1 }) (λ r. (r.path, r.watch))
    (pair_of text_format boolean)

abbrev pub exists_request : Format PathAndWatch
exists_request = path_and_watch

abbrev pub get_data_request : Format PathAndWatch
get_data_request = path_and_watch

abbrev pub get_children_request : Format PathAndWatch
get_children_request = path_and_watch

abbrev pub get_children2_request : Format PathAndWatch
get_children2_request = path_and_watch

unfoldable pub path_alone : Format PathAlone
path_alone = mapped_format (λ v. record { path = v }) (λ r. r.path) text_format

abbrev pub get_acl_request : Format PathAlone
get_acl_request = path_alone

unfoldable pub set_watches : Format SetWatches
set_watches =
    mapped_format
    (λ v. record { relative_zxid = v.0; data_watches = v.1.0; exist_watches = v.1.1.0; child_watches = v.1.1.1 })
    (λ r. (r.relative_zxid, (r.data_watches, (r.exist_watches, r.child_watches))))
    (pair_of long (pair_of names_format (pair_of names_format names_format)))

unfoldable pub set_watches2 : Format SetWatches2
set_watches2 =
    mapped_format
    (λ v. record { older = v.0; persistent_watches = v.1.0; recursive_watches = v.1.1 })
    (λ r. (r.older, (r.persistent_watches, r.recursive_watches)))
    (pair_of set_watches (pair_of names_format names_format))

-- Of CheckWatchesRequest and RemoveWatchesRequest.
unfoldable pub path_and_kind : Format PathAndKind
path_and_kind = mapped_format (λ v. record { path = v.0; kind = v.1 }) (λ r. (r.path, r.kind))
    (pair_of text_format int)

unfoldable pub add_watch : Format AddWatch
add_watch = mapped_format (λ v. record { path = v.0; mode = v.1 }) (λ r. (r.path, r.mode)) (pair_of text_format int)

unfoldable pub auth_packet : Format AuthPacket
auth_packet =
    mapped_format
    (λ v. record { kind = v.0; scheme = v.1.0; auth = v.1.1 })
    (λ r. (r.kind, (r.scheme, r.auth)))
    (pair_of int (pair_of text_format buffer))

unfoldable pub sasl_request : Format SaslRequest
sasl_request = mapped_format (λ v. record { token = v }) (λ r. r.token) buffer
