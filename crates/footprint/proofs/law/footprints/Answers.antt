use Rattle.footprint.proofs.Ascending.{paths_are_the_cells, paths_ascend}
use Rattle.footprint.proofs.law.footprints.Goals as goal

pub returns : goal.returns
returns c = record { paths = paths_are_the_cells; ascend = paths_ascend }
