-- The codes of the types of transactions (the operation codes of ZooDefs.OpCode).
use Rattle.std.specs.Prelude.{ℤ, pos, negsuc, Bool, true, false, List, [], ◌∷◌, ◌++◌, Result, Ok, Err, find, if◌then◌else◌}
use Rattle.std.specs.Option.{ok_or}
use Rattle.std.specs.Ordering.{int_eq}
use Rattle.values.specs.declared.fault.Fault.{Fault}
use Rattle.values.specs.declared.fault.Fault.TheVariants.{BadTxnType}
use Rattle.settings.specs.declared.dialect.Reads.{Reads}
use Rattle.txn_codec.specs.declared.kind.TxnKind.{TxnKind}
use Rattle.txn_codec.specs.declared.kind.TxnKind.TheVariants as kinds
use Rattle.txn_codec.specs.declared.place.Place.{Place}
use Rattle.txn_codec.specs.declared.place.Place.TheVariants.{Alone, Part}
use Rattle.txn_codec.specs.declared.txn.Owner.{Owner}
use Rattle.txn_codec.specs.declared.txn.Owner.TheVariants.{Nobody, Client, Container, Ttl}
use Rattle.txn_codec.specs.declared.txn.Operation.{Operation}
use Rattle.txn_codec.specs.declared.txn.Operation.TheVariants as operations
use Rattle.txn_codec.specs.declared.txn.Body.{Body}
use Rattle.txn_codec.specs.declared.txn.Body.TheVariants as bodies

abbrev pub code_of : TxnKind → ℤ
code_of kinds.Create = pos 1
code_of kinds.Delete = pos 2
code_of kinds.SetData = pos 5
code_of kinds.SetAcl = pos 7
code_of kinds.Check = pos 13
code_of kinds.Multi = pos 14
code_of kinds.Create2 = pos 15
code_of kinds.Reconfig = pos 16
code_of kinds.CreateContainer = pos 19
code_of kinds.DeleteContainer = pos 20
code_of kinds.CreateTtl = pos 21
code_of kinds.CreateSession = negsuc 9
code_of kinds.CloseSession = negsuc 10
code_of kinds.Error = negsuc 0

-- Those of ZooKeeper 3.4.
abbrev pub txn_kinds : List TxnKind
txn_kinds = kinds.Create ∷ kinds.Delete ∷ kinds.SetData ∷ kinds.SetAcl ∷ kinds.Check ∷ kinds.Multi ∷ kinds.CreateSession
    ∷ kinds.CloseSession ∷ kinds.Error ∷ []

-- The type among these with this code; any other code is refused.
abbrev pub found_kind : List TxnKind → ℤ → Result TxnKind Fault
found_kind ks code = ok_or (find (λ k. int_eq code (code_of k)) ks) BadTxnType

abbrev pub kind_of : ℤ → Result TxnKind Fault
kind_of code = found_kind txn_kinds code

-- What later releases have besides.
abbrev pub later_kinds : List TxnKind
later_kinds = kinds.Create2 ∷ kinds.CreateContainer ∷ kinds.DeleteContainer ∷ kinds.CreateTtl ∷ []

-- All of later releases. No part of a multi is a reconfig.
abbrev pub kinds_at : Place → List TxnKind
kinds_at Alone = kinds.Reconfig ∷ (later_kinds ++ txn_kinds)
kinds_at Part = later_kinds ++ txn_kinds

abbrev pub later_kind_of : Place → ℤ → Result TxnKind Fault
later_kind_of place code = found_kind (kinds_at place) code

-- The type with this code at this place, where these are read.
abbrev pub kind_at : Reads → Place → ℤ → Result TxnKind Fault
kind_at reads place code = if reads.extended_types then later_kind_of place code else kind_of code

-- The type of a create, by the node's owner and by whether its reply shows the node's Stat.
abbrev pub create_kind : Owner → Bool → TxnKind
create_kind Nobody asks_stat = if asks_stat then kinds.Create2 else kinds.Create
create_kind Client asks_stat = if asks_stat then kinds.Create2 else kinds.Create
create_kind Container asks_stat = kinds.CreateContainer
create_kind (Ttl milliseconds) asks_stat = kinds.CreateTtl

-- The type of a delete, by whether it is that of a container.
abbrev pub delete_kind : Bool → TxnKind
delete_kind of_container = if of_container then kinds.DeleteContainer else kinds.Delete

-- The type of a write of data, by whether it is a reconfig.
abbrev pub set_data_kind : Bool → TxnKind
set_data_kind is_reconfig = if is_reconfig then kinds.Reconfig else kinds.SetData

abbrev pub operation_kind : Operation → TxnKind
operation_kind (operations.Create c) = create_kind c.owner c.asks_stat
operation_kind (operations.Delete d) = delete_kind d.of_container
operation_kind (operations.SetData s) = set_data_kind s.is_reconfig
operation_kind (operations.Check c) = kinds.Check
operation_kind (operations.Error e) = kinds.Error

abbrev pub body_kind : Body → TxnKind
body_kind (bodies.Single o) = operation_kind o
body_kind (bodies.SetAcl s) = kinds.SetAcl
body_kind (bodies.Multi ps) = kinds.Multi
body_kind (bodies.CreateSession timeout) = kinds.CreateSession
body_kind (bodies.CloseSession listed) = kinds.CloseSession

-- Whether a part of a multi may have this type.
abbrev pub is_part_kind : TxnKind → Bool
is_part_kind kinds.Create = true
is_part_kind kinds.Delete = true
is_part_kind kinds.SetData = true
is_part_kind kinds.Check = true
is_part_kind kinds.Error = true
is_part_kind kinds.Create2 = true
is_part_kind kinds.CreateContainer = true
is_part_kind kinds.DeleteContainer = true
is_part_kind kinds.CreateTtl = true
is_part_kind kinds.SetAcl = false
is_part_kind kinds.Multi = false
is_part_kind kinds.Reconfig = false
is_part_kind kinds.CreateSession = false
is_part_kind kinds.CloseSession = false

abbrev pub part_kind_of : TxnKind → Result TxnKind Fault
part_kind_of k = if is_part_kind k then Ok k else Err BadTxnType
