use Rattle.std.proofs.Common.{◌≡◌, ◌++◌, take}
use Rattle.std.specs.List.{flat_map}
use Rattle.server_words.specs.Texts.{client_line}
use Rattle.server_words.proofs.texts.put_clients.Given as goal

-- The lines of the clients up to the place.
abbrev pub invariant-loop-client : goal.invariant-loop-client
invariant-loop-client l =
    l.out.items ≡ l.fn.out.items ++ flat_map client_line (take l.client-index l.clients)
