use Rattle.std.proofs.Common.{◌≡◌, ◌+◌, ◌≤◌, length, take}
use Rattle.std.specs.List.{flat_map}
use Rattle.client_records.specs.Responses.{client_info}
use Rattle.read_processor.specs.Limits.{body_limit}
use Rattle.read_processor.proofs.counts.infos_len.Given as goal

abbrev pub invariant-loop-entry : goal.invariant-loop-entry
invariant-loop-entry l =
    (l.count ≡ 4 + length (flat_map client_info.written (take l.entry-index l.entries))) × (l.count ≤ body_limit)
