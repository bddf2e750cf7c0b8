use Rattle.std.proofs.Common.{◌≡◌}
use Rattle.quorum_packet.specs.Unseen.{AreUnseenEntries, texts_left}
use Rattle.quorum_packet.proofs.unseen.scan_entries.Given as goal

abbrev pub invariant-loop-entries : goal.invariant-loop-entries
invariant-loop-entries l = record {
  kept : AreUnseenEntries l.bytes l.entries;
  same : l.entries.surrogates ≡ l.fn.entries.surrogates;
}

abbrev pub decreases-loop-entries : goal.decreases-loop-entries
decreases-loop-entries l = texts_left l.entries
