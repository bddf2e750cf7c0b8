-- The permissions to read and to administrate a node (ZooKeeper Programmer's Guide, access control lists).
use Rattle.std.specs.Prelude.{ℕ, List, length, Bool, false, not, ◌&&◌, ◌||◌, ◌==◌, ◌+◌, bit_and, codes, nat_eq}
use Rattle.std.specs.Int.{w32, cast_unsigned}
use Rattle.std.specs.List.{list_any}
use lib.Pointwise.{pointwise}
use Rattle.jute.specs.declared.owned.Acl.{Acl}
use Rattle.jute.specs.declared.owned.Id.{Id}
use Rattle.jute.specs.declared.codes.TheConstants.{READ}
use Rattle.settings.specs.declared.dialect.Dialect.{Dialect}
use Rattle.settings.specs.declared.dialect.Dialect.TheVariants.{Zk34, Zk38}
use Rattle.permissions.specs.Addresses.{names_address}
use Rattle.permissions.specs.declared.permissions.TheConstants.{ADMIN}

abbrev pub is_same_text : List ℕ → List ℕ → Bool
is_same_text a b = pointwise nat_eq a b

abbrev pub is_same_id : Id → Id → Bool
is_same_id a b = is_same_text a.scheme b.scheme && is_same_text a.id b.id

abbrev pub is_address : Id → Bool
is_address id = is_same_text id.scheme (codes "ip")

-- Whether the id of an entry, which comes first, means a client's: it is the same, or names the client's address.
abbrev pub means_id : Id → Id → Bool
means_id named id = is_same_id named id || (is_address named && is_address id && names_address named.id id.id)

abbrev pub is_everybody : Id → Bool
is_everybody id = is_same_text id.scheme (codes "world") && is_same_text id.id (codes "anyone")

-- The entry grants one of the permissions, each of which is a bit.
abbrev pub lets_any_of : ℕ → Acl → Bool
lets_any_of permissions acl = not (bit_and (cast_unsigned w32 acl.perms) permissions == 0)

-- The entry does, and its id is `world:anyone` or means one of the given ids.
abbrev pub grants_any_of : ℕ → List Id → Acl → Bool
grants_any_of permissions ids acl =
    lets_any_of permissions acl && (list_any (means_id acl.id) ids || is_everybody acl.id)

abbrev pub any_grants : ℕ → List Id → List Acl → Bool
any_grants permissions ids acls = list_any (grants_any_of permissions ids) acls

-- An empty list lets every client of ZooKeeper 3.4 read. For later ones it grants nothing: no leader writes one, so it
-- stands for a list that isn't known yet.
abbrev pub lets_all : Dialect → List Acl → Bool
lets_all Zk34 acls = length acls == 0
lets_all Zk38 acls = false

-- The user with an id of this scheme may do everything, whatever the list says.
abbrev pub is_super : List Id → Bool
is_super ids = list_any (λ id. is_same_text id.scheme (codes "super")) ids

abbrev pub may_read : Dialect → List Id → List Acl → Bool
may_read rules ids acls = is_super ids || any_grants READ ids acls || lets_all rules acls

-- Whether a client may see the list itself, by the rules of later dialects: it needs one of two permissions.
abbrev pub may_see_acl : List Id → List Acl → Bool
may_see_acl ids acls = is_super ids || any_grants (READ + ADMIN) ids acls

abbrev pub may_administrate : List Id → List Acl → Bool
may_administrate ids acls = is_super ids || any_grants ADMIN ids acls
