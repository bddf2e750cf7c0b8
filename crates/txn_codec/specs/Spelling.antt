-- The spellings of transactions (zookeeper.jute), by jute's combinators of formats.
use Rattle.std.specs.Prelude.{ℕ, ℤ, List, Option, Some, None, Result, Bool, true, false, not, ◌&&◌}
use Rattle.values.specs.declared.fault.Fault.{Fault}
use Rattle.values.specs.declared.fault.Fault.TheVariants.{BadTxnType}
use Rattle.settings.specs.Dialects.{reads_of}
use Rattle.settings.specs.declared.dialect.Dialect.{Dialect}
use Rattle.settings.specs.declared.dialect.Dialect.TheVariants.{Zk34}
use Rattle.settings.specs.declared.dialect.Reads.{Reads}
use Rattle.jute.specs.Format.{Format, int, long, boolean, buffer, vector_of, pair_of, mapped_format, judged_format, case_of, or_null}
use Rattle.jute.specs.Owned.{acl_in}
use Rattle.jute.specs.declared.owned.Acl.{Acl}
use Rattle.jute.specs.Sums.{refusal_format, tagged_format, whole_value as whole_by}
use Rattle.txn_codec.specs.declared.kind.TxnKind.{TxnKind}
use Rattle.txn_codec.specs.declared.kind.TxnKind.TheVariants as kinds
use Rattle.txn_codec.specs.declared.place.Place.{Place}
use Rattle.txn_codec.specs.declared.place.Place.TheVariants.{Alone, Part}
use Rattle.txn_codec.specs.declared.txn.TxnHeader.{TxnHeader}
use Rattle.txn_codec.specs.declared.txn.Owner.{Owner}
use Rattle.txn_codec.specs.declared.txn.Owner.TheVariants.{Nobody, Client, Container, Ttl}
use Rattle.txn_codec.specs.declared.txn.Create.{Create}
use Rattle.txn_codec.specs.declared.txn.Delete.{Delete}
use Rattle.txn_codec.specs.declared.txn.SetData.{SetData}
use Rattle.txn_codec.specs.declared.txn.SetAcl.{SetAcl}
use Rattle.txn_codec.specs.declared.txn.Check.{Check}
use Rattle.txn_codec.specs.declared.txn.Operation.{Operation}
use Rattle.txn_codec.specs.declared.txn.Operation.TheVariants as operations
use Rattle.txn_codec.specs.declared.txn.Body.{Body}
use Rattle.txn_codec.specs.declared.txn.Body.TheVariants as bodies
use Rattle.txn_codec.specs.declared.txn.Txn.{Txn}
use Rattle.txn_codec.specs.Kinds.{kind_at, code_of, part_kind_of, operation_kind, body_kind}
use Rattle.paths_and_acls.specs.Fields.{path_format, child_path}
use Rattle.txn_codec.specs.Endings.{or_end, with_trailer_if, closing_if, in_buffer}

-- ---- fields

-- The last field of a create, which may be missing outside a multi.
abbrev pub int_or_end : Format ℤ
int_or_end = or_end int

abbrev pub last_field : Reads → Place → Format ℤ
last_field reads Alone = or_end (with_trailer_if reads.trailer int)
last_field reads Part = int

-- A type, by its code at this place.
abbrev pub kind_format_in : Reads → Place → Format TxnKind
kind_format_in reads place = judged_format (kind_at reads place) (λ k. Some (code_of k)) int

-- A type that a part of a multi may have.
abbrev pub part_kind_in : Reads → Format TxnKind
part_kind_in reads = judged_format part_kind_of (λ k. Some k) (kind_format_in reads Part)

-- ---- creates: what all have in front, and then the owner with the parent's cversion

abbrev pub owner_if : Bool → Owner
owner_if false = Nobody
owner_if true = Client

abbrev pub with_flag : Owner → ℤ → Option (Bool × ℤ)
with_flag Nobody z = Some (false, z)
with_flag Client z = Some (true, z)
with_flag Container z = None
with_flag (Ttl milliseconds) z = None

abbrev pub if_container : Owner → ℤ → Option ℤ
if_container Container z = Some z
if_container o z = None

abbrev pub with_ttl : Owner → ℤ → Option (ℤ × ℤ)
with_ttl (Ttl milliseconds) z = Some (z, milliseconds)
with_ttl o z = None

-- Whether the session owns the node; and a last field, which may be missing.
abbrev pub flagged_owner : Format ℤ → Format (Owner × ℤ)
flagged_owner last = case_of (λ v. (owner_if v.0, v.1)) (λ v. with_flag v.0 v.1) (pair_of boolean last)

abbrev pub container_owner : Format (Owner × ℤ)
container_owner = case_of (λ z. (Container, z)) (λ v. if_container v.0 v.1) int

abbrev pub timed_owner : Format (Owner × ℤ)
timed_owner = case_of (λ v. (Ttl v.1, v.0)) (λ v. with_ttl v.0 v.1) (pair_of int long)

abbrev pub owner_format : Format ℤ → TxnKind → Format (Owner × ℤ)
owner_format last kinds.Create = flagged_owner last
owner_format last kinds.Create2 = flagged_owner int
owner_format last kinds.CreateContainer = container_owner
owner_format last kinds.CreateTtl = timed_owner
owner_format last k = refusal_format BadTxnType

-- Whether the reply to a create of this type shows the node's Stat.
abbrev pub shows_stat : TxnKind → Bool
shows_stat kinds.Create = false
shows_stat k = true

abbrev pub fields_of : Create → Option (List ℕ × (Option (List ℕ) × (Option (List Acl) × (Owner × ℤ))))
fields_of c = Some (c.path, (c.bytes, (c.acl, (c.owner, c.parent_cversion))))

-- A CreateTxn, with a last field that may be missing also a CreateTxnV0; a CreateContainerTxn; or a CreateTTLTxn.
-- The texts of its list may have surrogates or not.
abbrev pub create_with : Bool → Format ℤ → TxnKind → Format Create
create_with surrogates last k = case_of
    (λ v. record {
      path = v.0;
      bytes = v.1.0;
      acl = v.1.1.0;
      owner = v.1.1.1.0;
      asks_stat = shows_stat k;
      parent_cversion = v.1.1.1.1;
    })
    fields_of
    (pair_of child_path (pair_of buffer (pair_of (vector_of (acl_in surrogates)) (owner_format last k))))

abbrev pub create_format : Format Create
create_format = create_with false int kinds.Create

-- ---- records

-- A delete, of a container or not: its type says so.
abbrev pub delete_with : Bool → Format Delete
delete_with of_container =
    case_of (λ p. record { path = p; of_container = of_container }) (λ d. Some d.path) child_path

-- A write of data, a reconfig or not: its type says so.
abbrev pub set_data_with : Bool → Format SetData
set_data_with is_reconfig = case_of
    (λ v. record { path = v.0; bytes = v.1.0; version = v.1.1; is_reconfig = is_reconfig })
    (λ s. Some (s.path, (s.bytes, s.version)))
    (pair_of path_format (pair_of buffer int))

abbrev pub set_data : Format SetData
set_data = set_data_with false

-- The texts of its list may have surrogates or not.
abbrev pub set_acl_in : Bool → Format SetAcl
set_acl_in surrogates = mapped_format
    (λ v. record { path = v.0; acl = v.1.0; version = v.1.1 })
    (λ s. (s.path, (s.acl, s.version)))
    (pair_of path_format (pair_of (vector_of (acl_in surrogates)) int))

abbrev pub set_acl : Format SetAcl
set_acl = set_acl_in false

abbrev pub check_format : Format Check
check_format = mapped_format (λ v. record { path = v.0; version = v.1 }) (λ s. (s.path, s.version))
    (pair_of path_format int)

-- The numbers of a header are spelled. The rules are those of the leader's dialect.
abbrev pub HeaderNumbers : Type 0
HeaderNumbers = ℤ × (ℤ × (ℤ × ℤ))

abbrev pub header_of : Dialect → HeaderNumbers → TxnHeader
header_of rules v = record { client_id = v.0; cxid = v.1.0; zxid = v.1.1.0; time = v.1.1.1; rules = rules }

abbrev pub header_numbers : TxnHeader → Option HeaderNumbers
header_numbers h = Some (h.client_id, (h.cxid, (h.zxid, h.time)))

abbrev pub header_in : Dialect → Format TxnHeader
header_in rules = case_of (header_of rules) header_numbers (pair_of long (pair_of int (pair_of long long)))

-- ---- operations after their type; a create's last field, and whether its texts may have surrogates, are parameters

abbrev pub as_create : Operation → Option Create
as_create (operations.Create c) = Some c
as_create o = None

abbrev pub as_delete : Operation → Option Delete
as_delete (operations.Delete d) = Some d
as_delete o = None

abbrev pub as_set_data : Operation → Option SetData
as_set_data (operations.SetData s) = Some s
as_set_data o = None

abbrev pub as_check : Operation → Option Check
as_check (operations.Check c) = Some c
as_check o = None

abbrev pub as_error : Operation → Option ℤ
as_error (operations.Error e) = Some e
as_error o = None

abbrev pub created_operation : Bool → Format ℤ → TxnKind → Format Operation
created_operation surrogates last k = case_of operations.Create as_create (create_with surrogates last k)

abbrev pub deleted_operation : Bool → Format Operation
deleted_operation of_container = case_of operations.Delete as_delete (delete_with of_container)

abbrev pub set_operation : Bool → Format Operation
set_operation is_reconfig = case_of operations.SetData as_set_data (set_data_with is_reconfig)

abbrev pub operation_format : Bool → Format ℤ → TxnKind → Format Operation
operation_format surrogates last kinds.Create = created_operation surrogates last kinds.Create
operation_format surrogates last kinds.Create2 = created_operation surrogates last kinds.Create2
operation_format surrogates last kinds.CreateContainer = created_operation surrogates last kinds.CreateContainer
operation_format surrogates last kinds.CreateTtl = created_operation surrogates last kinds.CreateTtl
operation_format surrogates last kinds.Delete = deleted_operation false
operation_format surrogates last kinds.DeleteContainer = deleted_operation true
operation_format surrogates last kinds.SetData = set_operation false
operation_format surrogates last kinds.Reconfig = set_operation true
operation_format surrogates last kinds.Check = case_of operations.Check as_check check_format
operation_format surrogates last kinds.Error = case_of operations.Error as_error int
operation_format surrogates last kinds.SetAcl = refusal_format BadTxnType
operation_format surrogates last kinds.Multi = refusal_format BadTxnType
operation_format surrogates last kinds.CreateSession = refusal_format BadTxnType
operation_format surrogates last kinds.CloseSession = refusal_format BadTxnType

-- The format in which an operation is written after its type.
abbrev pub format_of_operation : Operation → Format Operation
format_of_operation o = operation_format false int (operation_kind o)

-- ---- parts of a multi (Txn of MultiTxn): a type, and a buffer that holds just the operation

-- What fails is an error, and may keep its operation's bytes.
abbrev pub is_error : TxnKind → Bool
is_error kinds.Error = true
is_error k = false

abbrev pub is_lenient : Reads → TxnKind → Bool
is_lenient reads k = reads.lenient_parts && is_error k

abbrev pub part_content : Reads → TxnKind → Format Operation
part_content reads k = in_buffer (is_lenient reads k) (operation_format reads.surrogates int k)

abbrev pub part_format_in : Reads → Format Operation
part_format_in reads = tagged_format (part_kind_in reads) operation_kind (part_content reads)

-- Null is an empty list.
abbrev pub parts_format_in : Reads → Format (List Operation)
parts_format_in reads = or_null (vector_of (part_format_in reads))

-- ---- bodies: a type, and the fields after it

abbrev pub as_single : Body → Option Operation
as_single (bodies.Single o) = Some o
as_single b = None

abbrev pub as_set_acl : Body → Option SetAcl
as_set_acl (bodies.SetAcl s) = Some s
as_set_acl b = None

abbrev pub as_multi : Body → Option (List Operation)
as_multi (bodies.Multi ps) = Some ps
as_multi b = None

abbrev pub as_session : Body → Option ℤ
as_session (bodies.CreateSession timeout) = Some timeout
as_session b = None

abbrev pub as_close : Body → Option (List (List ℕ))
as_close (bodies.CloseSession listed) = Some listed
as_close b = None

abbrev pub single_body : Reads → TxnKind → Format Body
single_body reads k = case_of bodies.Single as_single (operation_format reads.surrogates (last_field reads Alone) k)

abbrev pub body_fields : Reads → TxnKind → Format Body
body_fields reads kinds.SetAcl = case_of bodies.SetAcl as_set_acl (set_acl_in reads.surrogates)
body_fields reads kinds.Multi = case_of bodies.Multi as_multi (parts_format_in reads)
body_fields reads kinds.CreateSession = case_of bodies.CreateSession as_session int
body_fields reads kinds.CloseSession = case_of bodies.CloseSession as_close (closing_if reads.lists_paths)
body_fields reads k = single_body reads k

-- A digest after these isn't told by the bytes that are left alone, so their last fields have it.
abbrev pub has_own_end : TxnKind → Bool
has_own_end kinds.Create = true
has_own_end kinds.CloseSession = true
has_own_end k = false

abbrev pub body_content : Reads → TxnKind → Format Body
body_content reads k = with_trailer_if (reads.trailer && not (has_own_end k)) (body_fields reads k)

abbrev pub body_in : Reads → Format Body
body_in reads = tagged_format (kind_format_in reads Alone) body_kind (body_content reads)

-- ---- transactions

abbrev pub txn_in : Dialect → Format Txn
txn_in dialect = mapped_format (λ v. record { header = v.0; body = v.1 }) (λ t. (t.header, t.body))
    (pair_of (header_in dialect) (body_in (reads_of dialect)))

-- ---- those of ZooKeeper 3.4

abbrev pub earlier_reads : Reads
earlier_reads = reads_of Zk34

abbrev pub txn_header : Format TxnHeader
txn_header = header_in Zk34

abbrev pub kind_format : Format TxnKind
kind_format = kind_format_in earlier_reads Alone

abbrev pub part_kind : Format TxnKind
part_kind = part_kind_in earlier_reads

abbrev pub multi_part : Format Operation
multi_part = part_format_in earlier_reads

abbrev pub multi_parts : Format (List Operation)
multi_parts = parts_format_in earlier_reads

-- The format in which a body is written after its type.
abbrev pub format_of_body : Body → Format Body
format_of_body b = body_content earlier_reads (body_kind b)

abbrev pub body_format : Format Body
body_format = body_in earlier_reads

abbrev pub txn_format : Format Txn
txn_format = txn_in Zk34

-- A value that is spelled by all of the bytes.
abbrev pub value_of_whole : {A : Type 0} → Format A → List ℕ → Result A Fault
value_of_whole f bytes = whole_by f.read bytes
