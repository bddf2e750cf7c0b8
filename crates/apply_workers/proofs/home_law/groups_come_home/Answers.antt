use Rattle.apply_workers.proofs.Returning.{groups_come_home}
use Rattle.apply_workers.proofs.home_law.groups_come_home.Goals as goal

pub returns : goal.returns
returns c =
    groups_come_home
    (record {
      cells = c.groups.ensures.cells;
      state = c.groups.ensures.state;
      moved = c.moved_cells.ensures.take;
      put = c.moved_cells.ensures.put;
      apart = c.groups-2.ensures.apart;
      each = c.groups-2.ensures.each;
      barriers = c.groups-2.ensures.barriers;
      cover = c.groups-2.ensures.paths;
    })
