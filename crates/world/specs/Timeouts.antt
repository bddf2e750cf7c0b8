-- The timeouts of sessions that the leader is told.
use Rattle.std.specs.Prelude.{ℤ, Option, Bool, if◌then◌else◌}
use Rattle.std.specs.Option.{option_or}
use Rattle.std.specs.FinMap as finmap
use Rattle.data_tree.specs.Sessions.{SessionTimeouts}
use Rattle.sessions.specs.State.{SessionTable}
use Rattle.sessions.specs.Sessions.{told_timeout}

-- Where told timeouts count, it is the one that the session's connection was told here. Without such a connection, and
-- where they don't count, it is the tree's.
abbrev pub known_timeout : Bool → SessionTable → SessionTimeouts → ℤ → Option ℤ
known_timeout counts_told sessions tree session =
    if counts_told then option_or (told_timeout sessions session) (finmap.get tree session)
    else finmap.get tree session
