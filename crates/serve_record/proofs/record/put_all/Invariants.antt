use Rattle.std.proofs.Common.{◌≡◌, ◌++◌, drop}
use Rattle.serve_record.specs.Lines.{message_lines}
use Rattle.serve_record.proofs.record.put_all.Given as goal

abbrev pub invariant-loop-port : goal.invariant-loop-port
invariant-loop-port l =
    l.out.items ++ message_lines (drop l.port-index l.messages) ≡ l.initial.out.items ++ message_lines l.messages
