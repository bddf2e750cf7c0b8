-- What a client's frame asks of the leader and of this server.
use Rattle.std.specs.Prelude.{ℕ, List, length, take, drop, Option, Some, None, nat_le, nat_lt, if◌then◌else◌}
use Rattle.std.specs.Int.{w32, from_be_bytes, cast_signed}
use Rattle.settings.specs.Dialects.{reads_of}
use Rattle.settings.specs.declared.dialect.Dialect.{Dialect}
use Rattle.client_records.specs.declared.kind.ReadKind.TheVariants.{Exists, GetData, GetAcl, GetChildren, GetChildren2}
use Rattle.client_records.specs.declared.kind.RequestKind.{RequestKind}
use Rattle.client_records.specs.declared.kind.RequestKind.TheVariants.{Create, Delete, Read, SetData, SetAcl, Sync, Ping, Check, Multi, Auth, SetWatches, AddWatch, CloseSession, Create2, Reconfig, CreateContainer, DeleteContainer, CreateTtl, CheckWatches, RemoveWatches, MultiRead, Sasl, GetEphemerals, GetAllChildrenNumber, SetWatches2, WhoAmI}
use Rattle.client_records.specs.Kinds.{request_kind_in}
use Rattle.connection_loop.specs.declared.kind.FrameKind.{FrameKind}
use Rattle.connection_loop.specs.declared.kind.FrameKind.TheVariants.{Light, Forwarded, Local, Heavy}

-- A longer ping or sync isn't one that may be held while others wait.
abbrev pub short_length : ℕ
short_length = 256

-- The kind of a frame of this length whose type is this one. A multi is forwarded for later clients alone.
abbrev pub kind_of_request : Dialect → Option RequestKind → ℕ → FrameKind
kind_of_request dialect None len = Local
kind_of_request dialect (Some Create) len = Forwarded
kind_of_request dialect (Some Delete) len = Forwarded
kind_of_request dialect (Some SetData) len = Forwarded
kind_of_request dialect (Some SetAcl) len = Forwarded
kind_of_request dialect (Some CloseSession) len = Forwarded
kind_of_request dialect (Some Create2) len = Forwarded
kind_of_request dialect (Some Reconfig) len = Forwarded
kind_of_request dialect (Some CreateContainer) len = Forwarded
kind_of_request dialect (Some DeleteContainer) len = Forwarded
kind_of_request dialect (Some CreateTtl) len = Forwarded
kind_of_request dialect (Some Sync) len = if nat_le len short_length then Forwarded else Heavy
kind_of_request dialect (Some Ping) len = if nat_le len short_length then Light else Local
kind_of_request dialect (Some Auth) len = Light
kind_of_request dialect (Some SetWatches) len = Heavy
kind_of_request dialect (Some SetWatches2) len = Heavy
kind_of_request dialect (Some MultiRead) len = Heavy
kind_of_request dialect (Some GetEphemerals) len = Heavy
kind_of_request dialect (Some GetAllChildrenNumber) len = Heavy
kind_of_request dialect (Some AddWatch) len = Local
kind_of_request dialect (Some Check) len = Local
kind_of_request dialect (Some Multi) len = if (reads_of dialect).later_requests then Forwarded else Local
kind_of_request dialect (Some CheckWatches) len = Local
kind_of_request dialect (Some RemoveWatches) len = Local
kind_of_request dialect (Some WhoAmI) len = Local
kind_of_request dialect (Some Sasl) len = Local
kind_of_request dialect (Some (Read Exists)) len = Local
kind_of_request dialect (Some (Read GetData)) len = Local
kind_of_request dialect (Some (Read GetAcl)) len = Local
kind_of_request dialect (Some (Read GetChildren)) len = Heavy
kind_of_request dialect (Some (Read GetChildren2)) len = Heavy

-- The type that the bytes begin with, in a dialect: a number of four bytes.
unfoldable pub request_at : Dialect → List ℕ → Option RequestKind
request_at dialect bytes =
    if nat_lt (length bytes) 4 then None
    else request_kind_in dialect (cast_signed w32 (from_be_bytes w32 (take 4 bytes)))

-- The xid comes first, which has four bytes, too.
abbrev pub kind_of_frame : Dialect → List ℕ → FrameKind
kind_of_frame dialect frame = kind_of_request dialect (request_at dialect (drop 4 frame)) (length frame)
