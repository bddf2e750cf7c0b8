-- The state of an observer: that of its leader's stream, and the world.
use Rattle.std.specs.Prelude.{Option, refl}
use Rattle.std.specs.Coded.{Coded, code_by, coded×, coded_option}
use Rattle.jute.specs.Stream.{Place}
use Rattle.snapshot_codec.specs.Made.{Loading}
use Rattle.quorum_packet.specs.declared.phase.Phase.{Phase}
use Rattle.world.specs.World.{World}
use Rattle.world.specs.Steps.{StepResult}

-- The place in the leader's stream, and the image that is being loaded.
pub record Leader : Type 0 where
  pub place : Place Phase
  pub loading : Loading

-- An observer. `leader` is the state L of the leader's stream, while there is a leader.
pub record MachineBy (L : Type 0) : Type 0 where
  pub leader : Option L
  pub world : World

abbrev pub Machine : Type 0
Machine = MachineBy Leader

-- ---- codes

abbrev pub leader_code : Coded (Place Phase) → Coded Loading → Coded Leader
leader_code place loading =
    code_by (Place Phase × Loading) (coded× place loading) (λ l. (l.place, l.loading))
    (λ p. record { place = p.0; loading = p.1 }) (λ _. refl)

abbrev pub machine_code : Coded Leader → Coded World → Coded Machine
machine_code leader world =
    code_by (Option Leader × World) (coded× (coded_option leader) world) (λ m. (m.leader, m.world))
    (λ p. record { leader = p.0; world = p.1 }) (λ _. refl)

abbrev pub staged_machine_code : Coded Leader → Coded (StepResult World) → Coded (StepResult Machine)
staged_machine_code leader stage =
    code_by (Option Leader × StepResult World) (coded× (coded_option leader) stage)
    (λ s. (s.after.leader, record { outputs = s.outputs; after = s.after.world }))
    (λ p. record { outputs = p.1.outputs; after = record { leader = p.0; world = p.1.after } }) (λ _. refl)
