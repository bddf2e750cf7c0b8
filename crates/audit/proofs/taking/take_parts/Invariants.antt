use Rattle.audit.proofs.Parts.{IsMidway}
use Rattle.audit.proofs.taking.take_parts.Given as goal

abbrev pub invariant-loop-part : goal.invariant-loop-part
invariant-loop-part l = IsMidway l.header l.parts l.part-index l.path l.fn.tree l.tree l.fn.count l.count
