-- Lists in the records of clients: a null list is read as empty.
use Rattle.std.specs.Prelude.{ℕ, List}
use Rattle.jute.specs.Format.{Format, text_or_empty, vector_of, or_null}
use Rattle.jute.specs.Owned.{acl_format}
use Rattle.jute.specs.declared.owned.Acl.{Acl}

-- Null texts in it are read as empty, too.
abbrev pub names_format : Format (List (List ℕ))
names_format = or_null (vector_of text_or_empty)

abbrev pub acls_format : Format (List Acl)
acls_format = or_null (vector_of acl_format)
