-- The contracts of the private functions. No public contract cites this.
use Rattle.std.specs.Prelude.{ℕ, take, Option, None, Some}
use Rattle.std.specs.FinMap as finmap
use Rattle.jute.specs.declared.owned.Id.{Id}
use Rattle.sessions.specs.State.{ConnectedClient, ConnectedClients}
use Rattle.sessions.specs.Sessions.{with_id}

-- Adds an id to a connection that has a session.
abbrev pub with_shown_id : ConnectedClients → ℕ → Id → Option ConnectedClient → ConnectedClients
with_shown_id connections n id None = connections
with_shown_id connections n id (Some c) = finmap.insert connections n (with_id c id)

-- A connection that has a session keeps the first of its ids alone.
abbrev pub with_first_ids : ConnectedClients → ℕ → ℕ → Option ConnectedClient → ConnectedClients
with_first_ids connections n count None = connections
with_first_ids connections n count (Some c) = finmap.insert connections n (record c { ids = take count c.ids })
