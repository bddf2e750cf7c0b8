-- The passwords of ZooKeeper's servers, computed.
use Rattle.std.proofs.Common.{refl}
use Rattle.sessions.specs.Credentials.{next_state, state_bytes, java_password}
use Rattle.sessions.specs.Rows.{JavaPasswords}

pub rows_hold : JavaPasswords
unfolding java_password next_state state_bytes
rows_hold = record { first_server = refl; second_server = refl; small_id = refl }
