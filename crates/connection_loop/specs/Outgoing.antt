-- The bytes of outputs that weren't written yet.
use Rattle.std.specs.Prelude.{◌≡◌, ◌≢◌, ◌↔◌, ℕ, ◌++◌, ◌∷◌, [], List, Bool, true, false, Option, Some, None, IsTrue}
use Rattle.values.specs.declared.fault.Fault.{Fault}
use Rattle.world.specs.declared.output.Output.{Output}
use Rattle.world.specs.declared.output.Output.TheVariants.{ToLeader, ToClient, CloseLeader, CloseClient}
use Rattle.intake.specs.declared.port.PortEnd.{PortEnd}
use Rattle.intake.specs.Ports.{sent_through, received_through, SamePort}
use Rattle.connection_loop.specs.Windows.{Window, with_outputs_noted}

pub record Unwritten : Type 0 where
  -- In the order in which they are written.
  pub bytes : List ℕ
  -- Whether the connection closes after them.
  pub closing : Bool
  pub fault : Option Fault

abbrev pub nothing_unwritten : Unwritten
nothing_unwritten = record { bytes = []; closing = false; fault = None }

-- One more output: its bytes come after the others, or the connection closes after these.
abbrev pub with_output : Unwritten → Output → Unwritten
with_output u (ToLeader bytes) = record u { bytes = u.bytes ++ bytes }
with_output u (ToClient n bytes) = record u { bytes = u.bytes ++ bytes }
with_output u (CloseLeader fault) = record u { closing = true; fault = Some fault }
with_output u (CloseClient n) = record u { closing = true }

abbrev pub with_outputs : Unwritten → List Output → Unwritten
with_outputs u [] = u
with_outputs u (o ∷ os) = with_outputs (with_output u o) os

-- Outputs were received from the port, and are to be written after what was there.
pub record HasGathered (old new : Unwritten) (counted counts : Window) (before after : PortEnd) (found : Bool) : Type 0 where
  pub outputs : List Output
  pub port : SamePort before after
  pub sent : sent_through after ≡ sent_through before
  pub received : received_through after ≡ received_through before ++ outputs
  pub unwritten : new ≡ with_outputs old outputs
  pub answers : counts ≡ with_outputs_noted counted outputs
  pub some : IsTrue found ↔ (outputs ≢ [])
  -- After an output that closes the connection no other is received.
  pub none : old.closing ≡ true → outputs ≡ []

-- Outputs were gathered, and then one received that is lost.
pub record LosesOutput (old new : Unwritten) (counted : Window) (before after : PortEnd) : Type 0 where
  pub came : PortEnd
  pub counts : Window
  pub found : Bool
  pub gathered : HasGathered old new counted counts before came found
  pub lost : Output
  pub port : SamePort came after
  pub sent : sent_through after ≡ sent_through came
  pub received : received_through after ≡ received_through came ++ lost ∷ []
