-- What is written of an operation.
use Rattle.std.proofs.Common.{◌≡◌, ◌<◌, ◌^◌, ℕ, Bool, true, false, List, ◌++◌, length, Some, refl, ap, ◌∙◌}
use Rattle.std.specs.Prelude.{ℤ}
use Rattle.jute.specs.Format.{int, buffer, vector_of}
use Rattle.jute.specs.Owned.{acl_format}
use Rattle.txn_codec.specs.declared.txn.Owner.{Owner}
use Rattle.txn_codec.specs.declared.txn.Owner.TheVariants.{Nobody, Client, Container, Ttl}
use Rattle.txn_codec.specs.declared.txn.Create.{Create}
use Rattle.txn_codec.specs.declared.txn.Delete.{Delete}
use Rattle.txn_codec.specs.declared.txn.SetData.{SetData}
use Rattle.txn_codec.specs.declared.txn.Operation.TheVariants as operations
use Rattle.txn_codec.specs.Kinds.{create_kind, delete_kind, set_data_kind}
use Rattle.paths_and_acls.specs.Fields.{child_path}
use Rattle.txn_codec.specs.Inner.{owner_bytes, create_bytes}
use Rattle.txn_codec.specs.Spelling.{flagged_owner, owner_format, create_format, set_data, operation_format, format_of_operation}

owner_written : (o : Owner) (s : Bool) (z : ℤ) → (owner_format int (create_kind o s)).written (o, z) ≡ owner_bytes o z
owner_written Nobody true z = refl
owner_written Nobody false z = refl
owner_written Client true z = refl
owner_written Client false z = refl
owner_written Container s z = refl
owner_written (Ttl milliseconds) s z = refl

-- The fields before the owner, and then these bytes.
abbrev front_bytes : Create → List ℕ → List ℕ
front_bytes c last = buffer.written (Some c.path)
    ++ (buffer.written c.bytes ++ ((vector_of acl_format).written c.acl ++ last))

front_written : (o : Owner) (s : Bool) (c : Create)
    → (operation_format false int (create_kind o s)).written (operations.Create c)
    ≡ front_bytes c ((owner_format int (create_kind o s)).written (c.owner, c.parent_cversion))
front_written Nobody true c = refl
front_written Nobody false c = refl
front_written Client true c = refl
front_written Client false c = refl
front_written Container s c = refl
front_written (Ttl milliseconds) s c = refl

pub created_written : (c : Create)
    → (format_of_operation (operations.Create c)).written (operations.Create c) ≡ create_bytes c
created_written c = front_written c.owner c.asks_stat c
    ∙ ap (front_bytes c) (owner_written c.owner c.asks_stat c.parent_cversion)

-- The lengths of its fields fit an int.
abbrev pub AreWritable : Create → Type 0
AreWritable c = (length c.path < 2 ^ 31) × buffer.Writable c.bytes × (vector_of acl_format).Writable c.acl

front_writable : (o : Owner) (s : Bool) (c : Create)
    → (operation_format false int (create_kind o s)).Writable (operations.Create c) → AreWritable c
front_writable Nobody true c h = (h.0, h.1.0, h.1.1.0)
front_writable Nobody false c h = (h.0, h.1.0, h.1.1.0)
front_writable Client true c h = (h.0, h.1.0, h.1.1.0)
front_writable Client false c h = (h.0, h.1.0, h.1.1.0)
front_writable Container s c h = (h.0, h.1.0, h.1.1.0)
front_writable (Ttl milliseconds) s c h = (h.0, h.1.0, h.1.1.0)

pub created_writable : (c : Create) → (format_of_operation (operations.Create c)).Writable (operations.Create c)
    → AreWritable c
created_writable c h = front_writable c.owner c.asks_stat c h

-- ---- deletes, and writes of data: both types alike

deleted_written : (of_container : Bool) (d : Delete)
    → (operation_format false int (delete_kind of_container)).written (operations.Delete d) ≡ child_path.written d.path
deleted_written true d = refl
deleted_written false d = refl

pub delete_written : (d : Delete)
    → (format_of_operation (operations.Delete d)).written (operations.Delete d) ≡ child_path.written d.path
delete_written d = deleted_written d.of_container d

deleted_writable : (of_container : Bool) (d : Delete)
    → (operation_format false int (delete_kind of_container)).Writable (operations.Delete d) → child_path.Writable d.path
deleted_writable true d h = h
deleted_writable false d h = h

pub delete_writable : (d : Delete) → (format_of_operation (operations.Delete d)).Writable (operations.Delete d)
    → child_path.Writable d.path
delete_writable d h = deleted_writable d.of_container d h

set_written : (is_reconfig : Bool) (s : SetData)
    → (operation_format false int (set_data_kind is_reconfig)).written (operations.SetData s) ≡ set_data.written s
set_written true s = refl
set_written false s = refl

pub set_data_written : (s : SetData)
    → (format_of_operation (operations.SetData s)).written (operations.SetData s) ≡ set_data.written s
set_data_written s = set_written s.is_reconfig s

set_writable : (is_reconfig : Bool) (s : SetData)
    → (operation_format false int (set_data_kind is_reconfig)).Writable (operations.SetData s) → set_data.Writable s
set_writable true s h = h
set_writable false s h = h

pub set_data_writable : (s : SetData) → (format_of_operation (operations.SetData s)).Writable (operations.SetData s)
    → set_data.Writable s
set_data_writable s h = set_writable s.is_reconfig s h

-- ---- a CreateTxn by itself

flag_written : (o : Owner) (z : ℤ) → (flagged_owner int).Writable (o, z) → (flagged_owner int).written (o, z) ≡ owner_bytes o z
flag_written Nobody z h = refl
flag_written Client z h = refl
flag_written Container z h = absurd h
flag_written (Ttl milliseconds) z h = absurd h

pub create_written : (c : Create) → create_format.Writable c → create_format.written c ≡ create_bytes c
create_written c h = ap (front_bytes c) (flag_written c.owner c.parent_cversion h.1.1.1)
