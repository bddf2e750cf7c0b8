-- ACL lists by their keys.
use Rattle.std.specs.Prelude.{List}
use Rattle.std.specs.Coded.{Coded, coded_ℤ, coded_list}
use Rattle.std.specs.Ordering.{int_cmp}
use Rattle.std.specs.FinMap as finmap
use Rattle.jute.specs.declared.owned.Acl.{Acl}

abbrev pub AclLists : Type 0
AclLists = finmap.FinMap int_cmp (List Acl)

abbrev pub lists_code : Coded Acl → Coded AclLists
lists_code acl = finmap.code {R = int_cmp} coded_ℤ (coded_list acl)
