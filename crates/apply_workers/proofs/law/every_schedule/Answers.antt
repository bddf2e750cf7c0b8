use Rattle.apply_workers.proofs.Schedules.{Laws, schedules_are_the_batch, paths_are_with_one_group}
use Rattle.apply_workers.proofs.law.every_schedule.Goals as goal

pub returns : goal.returns
returns c =
    let laws : Laws = record {
      keep = c.footprints.ensures.keep;
      groups = c.groups.ensures.cells;
      put_back = c.groups.ensures.state;
      moved = c.moved_cells.ensures.take;
      come = c.moved_cells.ensures.put;
      apart = c.groups-2.ensures.apart;
      each = c.groups-2.ensures.each;
      barriers = c.groups-2.ensures.barriers;
      cover = c.groups-2.ensures.paths;
    } in
    record { batch = schedules_are_the_batch laws; paths = paths_are_with_one_group laws }
