use Rattle.std.proofs.Common.{◌≡◌, length}
use Rattle.serve_failures.proofs.server.servers_of.Given as goal

abbrev pub invariant-loop-address : goal.invariant-loop-address
invariant-loop-address l = length l.servers.items ≡ l.address-index
