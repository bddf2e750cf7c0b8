use Rattle.following.proofs.Rounds.{each_round_tries_each, lost_is_tried_last}
use Rattle.following.proofs.law.rounds.Goals as goal

pub returns : goal.returns
returns c = record { each = each_round_tries_each; lost = lost_is_tried_last }
