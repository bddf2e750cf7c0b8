-- The codes of requests (the operation codes of ZooDefs.OpCode).
use Rattle.std.specs.Prelude.{List, [], ◌∷◌, ◌++◌, Option, ℤ, pos, negsuc, find, if◌then◌else◌}
use Rattle.std.specs.Ordering.{int_eq}
use Rattle.settings.specs.Dialects.{reads_of}
use Rattle.settings.specs.declared.dialect.Dialect.{Dialect}
use Rattle.settings.specs.declared.dialect.Reads.{Reads}
use Rattle.client_records.specs.declared.kind.ReadKind.{ReadKind}
use Rattle.client_records.specs.declared.kind.ReadKind.TheVariants.{Exists, GetData, GetAcl, GetChildren, GetChildren2}
use Rattle.client_records.specs.declared.kind.RequestKind.{RequestKind}
use Rattle.client_records.specs.declared.kind.RequestKind.TheVariants.{Create, Delete, Read, SetData, SetAcl, Sync, Ping, Check, Multi, Auth, SetWatches, AddWatch, CloseSession, Create2, Reconfig, CreateContainer, DeleteContainer, CreateTtl, CheckWatches, RemoveWatches, MultiRead, Sasl, GetEphemerals, GetAllChildrenNumber, SetWatches2, WhoAmI}

abbrev pub code_of_read : ReadKind → ℤ
code_of_read Exists = pos 3
code_of_read GetData = pos 4
code_of_read GetAcl = pos 6
code_of_read GetChildren = pos 8
code_of_read GetChildren2 = pos 12

abbrev pub code_of : RequestKind → ℤ
code_of Create = pos 1
code_of Delete = pos 2
code_of (Read kind) = code_of_read kind
code_of SetData = pos 5
code_of SetAcl = pos 7
code_of Sync = pos 9
code_of Ping = pos 11
code_of Check = pos 13
code_of Multi = pos 14
code_of Auth = pos 100
code_of SetWatches = pos 101
code_of AddWatch = pos 106
code_of CloseSession = negsuc 10
code_of Create2 = pos 15
code_of Reconfig = pos 16
code_of CreateContainer = pos 19
code_of DeleteContainer = pos 20
code_of CreateTtl = pos 21
code_of CheckWatches = pos 17
code_of RemoveWatches = pos 18
code_of MultiRead = pos 22
code_of Sasl = pos 102
code_of GetEphemerals = pos 103
code_of GetAllChildrenNumber = pos 104
code_of SetWatches2 = pos 105
code_of WhoAmI = pos 107

-- Those of ZooKeeper 3.4, and addWatch.
abbrev pub request_kinds : List RequestKind
request_kinds = Create ∷ Delete ∷ Read Exists ∷ Read GetData ∷ SetData ∷ Read GetAcl ∷ SetAcl ∷ Read GetChildren ∷ Sync
    ∷ Ping ∷ Read GetChildren2 ∷ Check ∷ Multi ∷ Auth ∷ SetWatches ∷ AddWatch ∷ CloseSession ∷ []

-- Those that only later clients send, where these are read.
abbrev pub later_request_kinds : Reads → List RequestKind
later_request_kinds reads =
    if reads.later_requests
    then Create2 ∷ Reconfig ∷ CreateContainer ∷ DeleteContainer ∷ CreateTtl ∷ CheckWatches ∷ RemoveWatches ∷ MultiRead
    ∷ Sasl ∷ GetEphemerals ∷ GetAllChildrenNumber ∷ SetWatches2 ∷ WhoAmI ∷ [] else []

abbrev pub request_kinds_in : Reads → List RequestKind
request_kinds_in reads = request_kinds ++ later_request_kinds reads

-- The one of these types that has the code.
unfoldable pub kind_of : List RequestKind → ℤ → Option RequestKind
kind_of kinds code = find (λ k. int_eq code (code_of k)) kinds

-- The type with this code in a dialect.
abbrev pub request_kind_in : Dialect → ℤ → Option RequestKind
request_kind_in dialect code = kind_of (request_kinds_in (reads_of dialect)) code
