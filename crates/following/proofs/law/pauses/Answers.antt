use Rattle.std.proofs.Common.{refl}
use Rattle.following.proofs.Pausing.{pauses_are_bounded, rounds_in_vain_pause, rounds_in_vain_grow, served_goes_on, jitter_is_a_tenth}
use Rattle.following.proofs.law.pauses.Goals as goal

pub returns : goal.returns
returns c =
    record {
      bounded = pauses_are_bounded;
      vain = rounds_in_vain_pause;
      growing = rounds_in_vain_grow;
      worked = (refl, refl);
      served = served_goes_on;
      jitter = jitter_is_a_tenth;
    }
