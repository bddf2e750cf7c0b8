use Rattle.std.proofs.Common.{◌≡◌, ◌+◌, ◌≤◌, length}
use Rattle.replay_script.specs.Script.{script_after, script_of}
use Rattle.replay_script.proofs.Reading.{lines_behind, length_behind}
use Rattle.replay_script.proofs.parser.parse.Given as goal

abbrev pub invariant-loop-rest : goal.invariant-loop-rest
invariant-loop-rest l =
    record {
      counted : l.number + length_behind l.rest ≤ length l.fn.text + 1;
      same : script_after l.number l.draft (lines_behind l.rest) ≡ script_of l.fn.text;
    }

abbrev pub decreases-loop-rest : goal.decreases-loop-rest
decreases-loop-rest l = length_behind l.rest
