-- What the crate's own functions say.
use Rattle.std.specs.Prelude.{ℕ, ℤ, true, false, List, ◌++◌, Some}
use Rattle.jute.specs.Format.{int, long, boolean, buffer, vector_of}
use Rattle.jute.specs.Owned.{acl_format}
use Rattle.txn_codec.specs.declared.txn.Owner.{Owner}
use Rattle.txn_codec.specs.declared.txn.Owner.TheVariants.{Nobody, Client, Container, Ttl}
use Rattle.txn_codec.specs.declared.txn.Create.{Create}

-- What stands after a create's list: of its owner, and the parent's cversion.
abbrev pub owner_bytes : Owner → ℤ → List ℕ
owner_bytes Nobody cversion = boolean.written false ++ int.written cversion
owner_bytes Client cversion = boolean.written true ++ int.written cversion
owner_bytes Container cversion = int.written cversion
owner_bytes (Ttl milliseconds) cversion = int.written cversion ++ long.written milliseconds

abbrev pub create_bytes : Create → List ℕ
create_bytes c = buffer.written (Some c.path)
    ++ (buffer.written c.bytes ++ ((vector_of acl_format).written c.acl ++ owner_bytes c.owner c.parent_cversion))
