use Rattle.std.proofs.Common.{refl}
use Rattle.std.specs.Fmt.{digits}
use Rattle.server_metrics.proofs.law.worked_rows.Goals as goal

pub returns : goal.returns
unfolding digits
returns c = record {
  times = refl;
  average = refl;
  descriptors = refl;
  no_descriptors = refl;
  healthy = refl;
  silent = refl;
  unbounded = refl;
  not_serving = refl;
  live = refl;
  dead = refl;
}
