-- The users of digest ids. An id of the scheme "digest" is a user, a colon, and a hash of the password; the hash is
-- shown to nobody but who may administrate the node.
use Rattle.std.specs.Prelude.{ℕ, List, ◌++◌, Option, Some, None, Bool, ◌==◌, codes, position, take, if◌then◌else◌}
use Rattle.jute.specs.declared.owned.Acl.{Acl}
use Rattle.jute.specs.declared.owned.Id.{Id}
use Rattle.client_records.specs.declared.response.ClientInfo.{ClientInfo}
use Rattle.permissions.specs.Permissions.{is_same_text}

-- Where the user ends: at the first colon.
abbrev pub user_end : List ℕ → Option ℕ
user_end text = position (λ b. b == 58) text

abbrev pub is_digest : Id → Bool
is_digest id = is_same_text id.scheme (codes "digest")

-- ---- in an access control list

-- An "x" stands for the hash. A text without a colon has none.
abbrev pub masked_at : List ℕ → Option ℕ → List ℕ
masked_at text None = text
masked_at text (Some end) = take end text ++ codes ":x"

abbrev pub masked_id : Id → Id
masked_id id = if is_digest id then record { scheme = id.scheme; id = masked_at id.id (user_end id.id) } else id

abbrev pub masked_acl : Acl → Acl
masked_acl acl = record { perms = acl.perms; id = masked_id acl.id }

-- ---- for the client that has shown the id

abbrev pub user_at : List ℕ → Option ℕ → List ℕ
user_at text None = text
user_at text (Some end) = take end text

-- The user of a digest; of other schemes the whole id (ClientInfo of zookeeper.jute).
abbrev pub client_info_of : Id → ClientInfo
client_info_of id = record {
  auth_scheme = id.scheme;
  user = if is_digest id then user_at id.id (user_end id.id) else id.id;
}
