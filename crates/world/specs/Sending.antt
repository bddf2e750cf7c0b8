-- What is sent, and a world of which one part is replaced.
use Rattle.std.specs.Prelude.{ℕ, ℤ, List, [], ◌∷◌, Option, Some, None}
use Rattle.sessions.specs.State.{SessionTable as Sessions}
use Rattle.watch_manager.specs.Watching.{WatchTables}
use Rattle.read_processor.specs.declared.shown.Look.{Look}
use Rattle.read_processor.specs.Reply.{reply_frame}
use Rattle.world.specs.declared.output.Output.TheVariants.{ToLeader, ToClient, CloseClient}
use Rattle.forwarding.specs.State.{PendingTable}
use Rattle.quorum_packet.specs.Packet.{packet_format}
use Rattle.quorum_packet.specs.declared.packet.QuorumPacket.{QuorumPacket}
use Rattle.world.specs.declared.output.Output.{Output}
use Rattle.world.specs.World.{Clients, World}
use Rattle.world.specs.Steps.{StepResult, no_output, and_then}
use Rattle.world.specs.Clients.{without_client}

-- ---- what is sent

abbrev pub to_leader : QuorumPacket → Output
to_leader p = ToLeader (packet_format.written p)

abbrev pub close_client : ℕ → World → StepResult World
close_client n w = record { outputs = CloseClient n ∷ []; after = record w { clients = without_client n w.clients } }

-- A reply that is too long for a frame isn't sent, and closes the connection.
abbrev pub send_or_close : ℕ → World → Option (List ℕ) → StepResult World
send_or_close n w None = close_client n w
send_or_close n w (Some bytes) = record { outputs = ToClient n bytes ∷ []; after = w }

-- Sends a frame, and then closes the connection.
abbrev pub send_last : ℕ → World → Option (List ℕ) → StepResult World
send_last n w frame = and_then (send_or_close n w frame) (close_client n)

-- The reply has the zxid of the tree that it shows.
abbrev pub send_reply : ℕ → World → ℤ → Look → StepResult World
send_reply n w xid seen = send_or_close n w (reply_frame xid w.replica.learner.last_zxid seen)

abbrev pub send_reply_last : ℕ → World → ℤ → Look → StepResult World
send_reply_last n w xid seen = send_last n w (reply_frame xid w.replica.learner.last_zxid seen)

-- Closes the connection that has lost its session.
abbrev pub close_client_if_some : World → Option ℕ → StepResult World
close_client_if_some w None = no_output w
close_client_if_some w (Some n) = close_client n w

-- ---- a world of which one part is replaced

abbrev pub with_watches : World → WatchTables → World
with_watches w watches = record w { clients = record w.clients { watches = watches } }

abbrev pub with_sessions : World → Sessions → World
with_sessions w sessions = record w { clients = record w.clients { sessions = sessions } }

abbrev pub with_pending : World → PendingTable → World
with_pending w pending = record w { clients = record w.clients { pending = pending } }

-- A step of the clients, as one of their world.
abbrev pub with_clients_of : World → StepResult Clients → StepResult World
with_clients_of w h = record { outputs = h.outputs; after = record w { clients = h.after } }
