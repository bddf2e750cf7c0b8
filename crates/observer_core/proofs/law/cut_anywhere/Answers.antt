use Rattle.observer_core.proofs.Playing.{leader_cut_anywhere, client_cut_anywhere}
use Rattle.observer_core.proofs.law.cut_anywhere.Goals as goal

pub returns : goal.returns
returns c = record { leader = leader_cut_anywhere; client = client_cut_anywhere }
