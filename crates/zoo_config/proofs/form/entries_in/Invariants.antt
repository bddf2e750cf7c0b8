use Rattle.std.proofs.Common.{◌≡◌, ◌++◌, None, drop, map}
use Rattle.zoo_config.specs.Form.{entries_after}
use Rattle.zoo_config.proofs.form.entries_in.Given as goal

-- The entries so far, and those of the lines that are left.
abbrev pub invariant-loop-line : goal.invariant-loop-line
invariant-loop-line l =
    record {
      counted : l.number ≡ l.line-index;
      same : l.entries.items ++ entries_after l.line-index l.before (map (λ line. line.now) (drop l.line-index l.lines))
          ≡ entries_after 0 None (map (λ line. line.now) l.lines);
    }
