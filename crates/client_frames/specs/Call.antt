-- A client's frame (zookeeper.jute, RequestHeader): a header, and the body of a request of the header's type.
use Rattle.std.specs.Prelude.{ℕ, List, Option, Some, None, Result, Ok, Err, false, if◌then◌else◌}
use Rattle.values.specs.declared.fault.Fault.{Fault}
use Rattle.settings.specs.Dialects.{reads_of}
use Rattle.settings.specs.declared.dialect.Dialect.{Dialect}
use Rattle.jute.specs.declared.message.RequestHeader.{RequestHeader}
use Rattle.jute.specs.Records.{request_header}
use Rattle.client_records.specs.declared.kind.ReadKind.{ReadKind}
use Rattle.client_records.specs.declared.kind.RequestKind.{RequestKind}
use Rattle.client_records.specs.declared.kind.RequestKind.TheVariants as kinds
use Rattle.client_records.specs.declared.request.PathAlone.{PathAlone}
use Rattle.client_records.specs.declared.request.PathAndWatch.{PathAndWatch}
use Rattle.client_records.specs.Kinds.{request_kind_in}
use Rattle.client_records.specs.Multi.{multi_read}
use Rattle.client_records.specs.Requests.{path_and_watch, path_alone, set_watches, set_watches2, path_and_kind, add_watch, auth_packet, sasl_request}
use Rattle.read_processor.specs.declared.request.Request.{Request}
use Rattle.forwarding.specs.declared.request.WriteKind.TheVariants as writes
use Rattle.read_processor.specs.Look.{is_request_path}
use Rattle.read_processor.specs.Kinds.{may_watch}
use Rattle.client_frames.specs.declared.call.LocalCall.{LocalCall}
use Rattle.client_frames.specs.declared.call.LocalCall.TheVariants.{Read, SetWatches, SetWatches2, AddWatch, CheckWatches, RemoveWatches, MultiRead, GetEphemerals, GetAllChildrenNumber, WhoAmI, Sasl, Unreadable, InvalidPath, Ping, Refused, Unknown}
use Rattle.client_frames.specs.declared.call.Call.{Call}
use Rattle.client_frames.specs.declared.call.CallBody.{CallBody}
use Rattle.client_frames.specs.declared.call.CallBody.TheVariants.{Forward, Sync, Auth, Local}

-- A record at the front, if it can be read there; bytes after it are ignored.
abbrev pub value_if_read : {A : Type 0} → Result (A × List ℕ) Fault → Option A
value_if_read (Ok x) = Some x.0
value_if_read (Err e) = None

-- The request, or that it can't be read.
abbrev pub call_or_unreadable : {A : Type 0} → (A → LocalCall) → Option A → LocalCall
call_or_unreadable call None = Unreadable
call_or_unreadable call (Some found) = call found

abbrev pub read_as : {A : Type 0} → (A → Request) → Option A → LocalCall
read_as request found = call_or_unreadable (λ r. Read (request r)) found

abbrev pub read_with_flag : Dialect → ReadKind → PathAndWatch → Request
read_with_flag dialect kind r = record { kind = kind; path = r.path; watch = r.watch; rules = dialect }

abbrev pub read_without_flag : Dialect → ReadKind → PathAlone → Request
read_without_flag dialect kind r = record { kind = kind; path = r.path; watch = false; rules = dialect }

-- A read's path and, where a client may ask for a watch, whether it does.
abbrev pub call_of_read : Dialect → ReadKind → List ℕ → LocalCall
call_of_read dialect kind bytes =
    if may_watch kind
    then read_as (read_with_flag dialect kind) (value_if_read (path_and_watch.read bytes))
    else read_as (read_without_flag dialect kind) (value_if_read (path_alone.read bytes))

-- A sync is forwarded for a path that a read may have.
abbrev pub sync_of_path : Option (List ℕ) → CallBody
sync_of_path None = Local InvalidPath
sync_of_path (Some path) = if is_request_path path then Sync path else Local InvalidPath

abbrev pub sync_of : Option PathAlone → CallBody
sync_of None = Local Unreadable
sync_of (Some r) = sync_of_path r.path

-- A multi is forwarded for later clients; those of ZooKeeper 3.4 are refused.
abbrev pub multi_call : Dialect → CallBody
multi_call dialect = if (reads_of dialect).later_requests then Forward writes.Multi else Local Refused

-- The body of a write isn't read, since its frame is forwarded as it came. A check by itself is refused: a leader makes
-- a transaction of it that ZooKeeper's own learners can't read.
abbrev pub call_body : Dialect → Option RequestKind → List ℕ → CallBody
call_body dialect None bytes = Local Unknown
call_body dialect (Some (kinds.Read kind)) bytes = Local (call_of_read dialect kind bytes)
call_body dialect (Some kinds.Ping) bytes = Local Ping
call_body dialect (Some kinds.Create) bytes = Forward writes.Create
call_body dialect (Some kinds.Delete) bytes = Forward writes.Delete
call_body dialect (Some kinds.SetData) bytes = Forward writes.SetData
call_body dialect (Some kinds.SetAcl) bytes = Forward writes.SetAcl
call_body dialect (Some kinds.Sync) bytes = sync_of (value_if_read (path_alone.read bytes))
call_body dialect (Some kinds.Check) bytes = Local Refused
call_body dialect (Some kinds.Multi) bytes = multi_call dialect
call_body dialect (Some kinds.Auth) bytes = Auth (value_if_read (auth_packet.read bytes))
call_body dialect (Some kinds.SetWatches) bytes = Local (call_or_unreadable SetWatches (value_if_read (set_watches.read bytes)))
call_body dialect (Some kinds.AddWatch) bytes = Local (call_or_unreadable AddWatch (value_if_read (add_watch.read bytes)))
call_body dialect (Some kinds.SetWatches2) bytes = Local (call_or_unreadable SetWatches2 (value_if_read (set_watches2.read bytes)))
call_body dialect (Some kinds.CheckWatches) bytes =
    Local (call_or_unreadable CheckWatches (value_if_read (path_and_kind.read bytes)))
call_body dialect (Some kinds.RemoveWatches) bytes =
    Local (call_or_unreadable RemoveWatches (value_if_read (path_and_kind.read bytes)))
call_body dialect (Some kinds.MultiRead) bytes = Local (call_or_unreadable MultiRead (value_if_read (multi_read bytes)))
call_body dialect (Some kinds.GetEphemerals) bytes =
    Local (call_or_unreadable GetEphemerals (value_if_read (path_alone.read bytes)))
call_body dialect (Some kinds.GetAllChildrenNumber) bytes =
    Local (call_or_unreadable GetAllChildrenNumber (value_if_read (path_alone.read bytes)))
call_body dialect (Some kinds.WhoAmI) bytes = Local WhoAmI
call_body dialect (Some kinds.Sasl) bytes = Local (call_or_unreadable Sasl (value_if_read (sasl_request.read bytes)))
call_body dialect (Some kinds.CloseSession) bytes = Forward writes.CloseSession
call_body dialect (Some kinds.Create2) bytes = Forward writes.Create2
call_body dialect (Some kinds.Reconfig) bytes = Forward writes.Reconfig
call_body dialect (Some kinds.CreateContainer) bytes = Forward writes.CreateContainer
call_body dialect (Some kinds.DeleteContainer) bytes = Forward writes.DeleteContainer
call_body dialect (Some kinds.CreateTtl) bytes = Forward writes.CreateTtl

abbrev pub call_after_header : Dialect → Result (RequestHeader × List ℕ) Fault → Result Call Fault
call_after_header dialect (Ok x) =
    Ok (record { xid = x.0.xid; body = call_body dialect (request_kind_in dialect x.0.kind) x.1 })
call_after_header dialect (Err e) = Err e

-- The call of a client's frame in a dialect, if the frame has a whole header.
abbrev pub call_in : Dialect → List ℕ → Result Call Fault
call_in dialect frame = call_after_header dialect (request_header.read frame)
