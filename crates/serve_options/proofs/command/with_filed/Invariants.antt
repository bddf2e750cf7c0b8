use Rattle.std.proofs.Common.{◌≡◌, ◌++◌, drop}
use Rattle.serve_options.proofs.command.with_filed.Given as goal

-- The options so far, and those of the file that are left.
abbrev pub invariant-loop-option : goal.invariant-loop-option
invariant-loop-option l = l.all.items ++ drop l.option-index l.filed ≡ l.fn.given.items ++ l.filed
