use Rattle.following.proofs.Waiting.{none_is_given_up_at_once, given_up_at_second_look, silent_is_given_up, heard_is_kept}
use Rattle.following.proofs.law.second_looks.Goals as goal

pub returns : goal.returns
returns c =
    record {
      first = none_is_given_up_at_once;
      second = given_up_at_second_look;
      silent = silent_is_given_up;
      heard = heard_is_kept;
    }
