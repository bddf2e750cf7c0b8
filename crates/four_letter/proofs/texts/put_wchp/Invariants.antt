use Rattle.std.proofs.Common.{◌≡◌, ◌++◌}
use Rattle.four_letter.specs.Texts.{wchp_text}
use Rattle.four_letter.specs.Inner.Gathered.{sessions_by_path, path_blocks}
use Rattle.four_letter.proofs.texts.put_wchp.Given as goal

abbrev pub invariant-loop-path : goal.invariant-loop-path
invariant-loop-path l =
    (goal.iterator-loop-path).can_next l.path-iterator
    × (goal.iterator-loop-path).is_finite l.path-iterator
    × (l.out.items ++ path_blocks (sessions_by_path l.path-iterator) ≡ l.fn.out.items ++ wchp_text l.rows)
