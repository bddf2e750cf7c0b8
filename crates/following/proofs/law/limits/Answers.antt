use Rattle.following.proofs.Waiting.{none_is_served_past_its_session, heartbeats_are_enough}
use Rattle.following.proofs.law.limits.Goals as goal

pub returns : goal.returns
returns c = record { sessions = none_is_served_past_its_session; heartbeats = heartbeats_are_enough }
