use Rattle.std.proofs.Common.{◌≡◌, drop}
use Rattle.quorum_packet.specs.Unseen.{AreUnseen}
use Rattle.quorum_packet.proofs.unseen.scan_texts.Given as goal

abbrev pub invariant-loop-texts : goal.invariant-loop-texts
invariant-loop-texts l = record { kept : AreUnseen l.bytes l.texts; place : l.ahead ≡ drop l.texts.start l.bytes }

abbrev pub decreases-loop-texts : goal.decreases-loop-texts
decreases-loop-texts l = l.texts.count
