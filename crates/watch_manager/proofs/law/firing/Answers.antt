use Rattle.watch_manager.proofs.Told.{told_once, fire-all, dropped-all}
use Rattle.watch_manager.proofs.Silent.{silent}
use Rattle.watch_manager.proofs.Others.{others_keep_watches, removed_is_gone}
use Rattle.watch_manager.proofs.LastingLaws.{lasting_stay, recursive_told, parts_ascend}
use Rattle.watch_manager.proofs.law.firing.Goals as goal

pub returns-clause-once : goal.returns-clause-once
returns-clause-once c = told_once

pub returns-clause-watchers : goal.returns-clause-watchers
returns-clause-watchers c = fire-all

pub returns-clause-dropped : goal.returns-clause-dropped
returns-clause-dropped c = dropped-all

pub returns-clause-silent : goal.returns-clause-silent
returns-clause-silent c = silent

pub returns-clause-others : goal.returns-clause-others
returns-clause-others c = others_keep_watches

pub returns-clause-removed : goal.returns-clause-removed
returns-clause-removed c = removed_is_gone

pub returns-clause-stay : goal.returns-clause-stay
returns-clause-stay c = lasting_stay

pub returns-clause-told : goal.returns-clause-told
returns-clause-told c = recursive_told

pub returns-clause-ascending : goal.returns-clause-ascending
returns-clause-ascending c = parts_ascend
