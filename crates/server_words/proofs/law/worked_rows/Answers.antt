use Rattle.std.proofs.Common.{refl}
use Rattle.std.specs.Fmt.{digits}
use Rattle.server_words.proofs.law.worked_rows.Goals as goal

pub returns : goal.returns
unfolding digits
returns c = record {
  srvr = refl;
  stat = refl;
  mntr = refl;
  mntr_without_descriptors = refl;
  conf = refl;
  unserved = refl;
  envi = refl;
}
