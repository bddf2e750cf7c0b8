-- What the field of a record holds of an access control list.
use Rattle.std.specs.Prelude.{List, Option, Some, None}
use Rattle.jute.specs.Codes.{open_acl}
use Rattle.jute.specs.declared.owned.Acl.{Acl}
use Rattle.paths_and_acls.specs.declared.acl_field.Held.{Held}
use Rattle.paths_and_acls.specs.declared.acl_field.Held.TheVariants.{Null, Open, Entries}

abbrev pub held_entries : Held → Option (List Acl)
held_entries Null = None
held_entries Open = Some open_acl
held_entries (Entries entries) = Some entries
