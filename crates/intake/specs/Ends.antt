-- The ends of open ports.
use Rattle.std.specs.Prelude.{◌≢◌, ◌<◌, ℕ, Result}
use Rattle.std.specs.FinMap as finmap
use Rattle.observer_core.specs.declared.engine.Stop.{Stop}
use Rattle.intake.specs.declared.port.PortEnd.{PortEnd}
use Rattle.intake.specs.Ports.{SamePort}
use Rattle.intake.specs.Links.{IsEnd}
use Rattle.intake.specs.Desk.{Desk, AddsPort, TakesNothing, AnswersTurn}
use Rattle.intake.specs.Hub.{Hub, TurnsHub}

-- The end is that of an open port of the desk.
pub record IsOpenEnd (end : PortEnd) (d : Desk) : Type 0 where
  pub is_end : IsEnd end d.links
  pub number : end.number < d.next

-- The end of a port that is added is that of an open port, and stays so: when messages and outputs go through it, and
-- whatever the desk does but close this port. A turn may also be refused, and close the desk.
pub record EndsStay : Type 0 where
  pub opens : (old new : Desk) (port : PortEnd) → AddsPort old port new → IsOpenEnd port new
  pub moves : (d : Desk) (old new : PortEnd) → SamePort old new → IsOpenEnd old d → IsOpenEnd new d
  pub adds : (end : PortEnd) (old new : Desk) (port : PortEnd) → AddsPort old port new → IsOpenEnd end old
      → IsOpenEnd end new
  pub turns : (end : PortEnd) (result : Result ℕ Stop) (old new : Desk) → AnswersTurn result old.machine old new
      → IsOpenEnd end old → IsOpenEnd end new
  pub turns_hub : (end : PortEnd) (result : Result ℕ Stop) (old new : Hub) → TurnsHub result old new
      → IsOpenEnd end old.desk → IsOpenEnd end new.desk
  pub waits : (end : PortEnd) (old new : Desk) → TakesNothing old new → IsOpenEnd end old → IsOpenEnd end new
  pub closes : (end : PortEnd) (old : Desk) (n : ℕ) → end.number ≢ n → IsOpenEnd end old
      → IsOpenEnd end (record old { links = finmap.remove old.links n })
