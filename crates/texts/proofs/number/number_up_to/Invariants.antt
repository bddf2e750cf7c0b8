use Rattle.std.proofs.Common.{◌≡◌, ◌≤◌, drop}
use Rattle.texts.specs.Number.{number_after, if_at_most}
use Rattle.texts.proofs.number.number_up_to.Given as goal

abbrev pub invariant-loop-byte : goal.invariant-loop-byte
invariant-loop-byte l =
    record {
      small : l.number ≤ l.limit;
      same : if_at_most l.limit (number_after l.number (drop l.byte-index l.text))
          ≡ if_at_most l.limit (number_after 0 l.text);
    }
