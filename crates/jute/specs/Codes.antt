-- ZooKeeper's open ACL. The numbers of its protocol are the constants of src/codes.rt.
use Rattle.std.specs.Prelude.{List, [], ◌∷◌, codes}
use Rattle.jute.specs.declared.codes.TheConstants.{ALL}
use Rattle.jute.specs.declared.owned.Acl.{Acl}

-- Every client may do everything.
abbrev pub open_acl : List Acl
open_acl = record { perms = ALL; id = record { scheme = codes "world"; id = codes "anyone" } } ∷ []
