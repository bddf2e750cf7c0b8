-- The codes of packets, as in ZooKeeper's Leader.
use Rattle.std.specs.Prelude.{List, [], ◌∷◌, Option, ℤ, pos, find}
use Rattle.std.specs.Ordering.{int_eq}
use Rattle.quorum_packet.specs.declared.kind.PacketKind.{PacketKind}
use Rattle.quorum_packet.specs.declared.kind.PacketKind.TheVariants.{Request, Proposal, Ack, Commit, Ping, Revalidate, Sync, Inform, CommitAndActivate, NewLeader, FollowerInfo, UpToDate, Diff, Trunc, Snap, ObserverInfo, LeaderInfo, AckEpoch, InformAndActivate}

abbrev pub code_of : PacketKind → ℤ
code_of Request = pos 1
code_of Proposal = pos 2
code_of Ack = pos 3
code_of Commit = pos 4
code_of Ping = pos 5
code_of Revalidate = pos 6
code_of Sync = pos 7
code_of Inform = pos 8
code_of CommitAndActivate = pos 9
code_of NewLeader = pos 10
code_of FollowerInfo = pos 11
code_of UpToDate = pos 12
code_of Diff = pos 13
code_of Trunc = pos 14
code_of Snap = pos 15
code_of ObserverInfo = pos 16
code_of LeaderInfo = pos 17
code_of AckEpoch = pos 18
code_of InformAndActivate = pos 19

abbrev pub packet_kinds : List PacketKind
packet_kinds = Request ∷ Proposal ∷ Ack ∷ Commit ∷ Ping ∷ Revalidate ∷ Sync ∷ Inform ∷ CommitAndActivate ∷ NewLeader
    ∷ FollowerInfo ∷ UpToDate
    ∷ Diff ∷ Trunc ∷ Snap ∷ ObserverInfo ∷ LeaderInfo ∷ AckEpoch ∷ InformAndActivate ∷ []

unfoldable pub kind_of : ℤ → Option PacketKind
kind_of code = find (λ k. int_eq code (code_of k)) packet_kinds
