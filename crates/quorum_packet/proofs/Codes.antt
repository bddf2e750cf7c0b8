-- Each kind has a code of its own.
use Rattle.std.proofs.Common.{◌≡◌, Some, refl}
use Rattle.quorum_packet.specs.Kinds.{code_of, kind_of}
use Rattle.quorum_packet.specs.declared.kind.PacketKind.{PacketKind}
use Rattle.quorum_packet.specs.declared.kind.PacketKind.TheVariants as kinds

pub kind_back : (k : PacketKind) → kind_of (code_of k) ≡ Some k
unfolding kind_of
kind_back kinds.Request = refl
kind_back kinds.Proposal = refl
kind_back kinds.Ack = refl
kind_back kinds.Commit = refl
kind_back kinds.Ping = refl
kind_back kinds.Revalidate = refl
kind_back kinds.Sync = refl
kind_back kinds.Inform = refl
kind_back kinds.CommitAndActivate = refl
kind_back kinds.NewLeader = refl
kind_back kinds.FollowerInfo = refl
kind_back kinds.UpToDate = refl
kind_back kinds.Diff = refl
kind_back kinds.Trunc = refl
kind_back kinds.Snap = refl
kind_back kinds.ObserverInfo = refl
kind_back kinds.LeaderInfo = refl
kind_back kinds.AckEpoch = refl
kind_back kinds.InformAndActivate = refl
