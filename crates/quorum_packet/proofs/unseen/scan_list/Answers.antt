use Rattle.std.proofs.Common.{subst, sym}
use Rattle.quorum_packet.specs.Unseen.{IsUnseen, AreUnseenEntries}
use Rattle.quorum_packet.proofs.unseen.scan_list.Goals.{in-Entries, in_default+in_ok-entries-in_default}
use Rattle.quorum_packet.proofs.unseen.scan_list.Goals as goal

pub scan_entries-looked-requires : goal.scan_entries-looked-requires
scan_entries-looked-requires c = elim c.match-unseen.branch [
  | in-Entries w ↦ subst (AreUnseenEntries c.args.bytes.now) (sym w.entries-is)
      (subst (IsUnseen c.args.bytes.now) w.in-Entries.is c.requires)
  | in_default+in_ok-entries-in_default w ↦
      subst (AreUnseenEntries c.args.bytes.now) (sym w.entries-is) w.in_ok-entries-in_default.ensures.ok
]
