use Rattle.jute.specs.Format.{number_bytes}
use Rattle.jute.specs.Owned.{id_in, acl_in}
use Rattle.paths_and_acls.proofs.acl_field.AclFieldWriteRecord.write.Goals as goal

pub returns-in_ok-extend_from_slice-in-Open : goal.returns-in_ok-extend_from_slice-in-Open
unfolding id_in acl_in number_bytes
returns-in_ok-extend_from_slice-in-Open c =
    rw (← c.self.view_is, c.in-Open.is) c.in_ok-extend_from_slice-in-Open.ensures.items
