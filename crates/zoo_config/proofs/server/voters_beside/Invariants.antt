use Rattle.std.proofs.Common.{◌≡◌, ◌++◌, drop}
use Rattle.std.specs.Prelude.{filter}
use Rattle.zoo_config.specs.Servers.{is_voter_beside}
use Rattle.zoo_config.proofs.server.voters_beside.Given as goal

abbrev pub invariant-loop-server : goal.invariant-loop-server
invariant-loop-server l =
    l.voters.items ++ filter (is_voter_beside l.id) (drop l.server-index l.servers)
    ≡ filter (is_voter_beside l.id) l.servers
