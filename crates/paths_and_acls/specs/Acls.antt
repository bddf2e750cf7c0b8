-- Access control lists that may be null.
use Rattle.std.specs.Prelude.{List, Option, Some, None}
use Rattle.jute.specs.Codes.{open_acl}
use Rattle.jute.specs.declared.owned.Acl.{Acl}

-- Null is the open list.
abbrev pub acl_or_open : Option (List Acl) → List Acl
acl_or_open None = open_acl
acl_or_open (Some acl) = acl
