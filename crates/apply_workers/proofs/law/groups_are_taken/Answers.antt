use Rattle.apply_workers.proofs.Taken.{groups_are_taken}
use Rattle.apply_workers.proofs.law.groups_are_taken.Goals as goal

pub returns : goal.returns
returns c =
    groups_are_taken
    (record {
      cells = c.groups.ensures.cells;
      state = c.groups.ensures.state;
      moved = c.moved_cells.ensures.take;
      put = c.moved_cells.ensures.put;
      apart = c.groups-2.ensures.apart;
      each = c.groups-2.ensures.each;
      barriers = c.groups-2.ensures.barriers;
      cover = c.groups-2.ensures.paths;
    })
