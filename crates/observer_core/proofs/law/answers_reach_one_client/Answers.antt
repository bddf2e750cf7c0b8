use Rattle.observer_core.proofs.Reaching.{answers_reach_one_client}
use Rattle.observer_core.proofs.law.answers_reach_one_client.Goals as goal

pub returns : goal.returns
returns c =
    answers_reach_one_client c.sessions_and_connections_agree.ensures.kept c.others_stay.ensures
    c.firing.ensures.others c.other_connections_stay.ensures
