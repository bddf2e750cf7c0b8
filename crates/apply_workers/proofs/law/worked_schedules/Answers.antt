use Rattle.apply_workers.proofs.WorkedSchedules.{schedules_are_worked}
use Rattle.apply_workers.proofs.law.worked_schedules.Goals as goal

pub returns : goal.returns
returns c = schedules_are_worked c.every_schedule.ensures.batch c.footprints.ensures.timeouts
