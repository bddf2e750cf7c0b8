use Rattle.std.proofs.Common.{◌≡◌, ◌++◌, drop, map}
use Rattle.std.specs.List.{flat_map}
use Rattle.zoo_config.specs.Form.{short_lines}
use Rattle.zoo_config.proofs.form.lines_of.Given as goal

-- The lines so far, and those of the long lines that are left.
abbrev pub invariant-loop-line : goal.invariant-loop-line
invariant-loop-line l =
    map (λ line. line.now) l.all.items
    ++ flat_map short_lines (map (λ line. line.now) (drop l.line-index l.line-items))
    ≡ flat_map short_lines (map (λ line. line.now) l.line-items)
