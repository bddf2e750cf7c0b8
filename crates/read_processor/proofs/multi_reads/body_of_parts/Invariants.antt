use Rattle.std.proofs.Common.{◌≡◌, drop}
use Rattle.read_processor.specs.Inner.Parts.{body_followed_by}
use Rattle.read_processor.specs.MultiReads.{parts_shown, look_at_parts}
use Rattle.read_processor.proofs.multi_reads.body_of_parts.Given as goal

abbrev pub invariant-loop-part : goal.invariant-loop-part
invariant-loop-part l =
    body_followed_by l.body (parts_shown l.tree l.ids (drop l.part-index l.parts))
    ≡ (look_at_parts l.fn.tree l.ids l.parts).body
