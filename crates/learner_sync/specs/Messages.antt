-- What a leader's packet means to an observer.
use Rattle.std.specs.Prelude.{Bool, true, false, Option, Some}
use Rattle.settings.specs.Dialects.{reads_of}
use Rattle.settings.specs.declared.dialect.Dialect.{Dialect}
use Rattle.settings.specs.declared.dialect.Reads.{Reads}
use Rattle.quorum_packet.specs.declared.packet.QuorumPacket.{QuorumPacket}
use Rattle.quorum_packet.specs.declared.kind.PacketKind.{PacketKind}
use Rattle.quorum_packet.specs.declared.kind.PacketKind.TheVariants as kinds
use Rattle.quorum_packet.specs.Kinds.{kind_of}
use Rattle.quorum_packet.specs.Packet.{carried_bytes}
use Rattle.learner_sync.specs.Zxids.{epoch_of}
use Rattle.learner_sync.specs.declared.message.Message.{Message}
use Rattle.learner_sync.specs.declared.message.Message.TheVariants.{LeaderInfo, Diff, Trunc, Snap, Proposal, Commit, Inform, InformAndActivate, NewLeader, UpToDate, Ping, Sync, Revalidated, Other}

-- The message, where such packets are read.
abbrev pub message_if : Bool → Message → Message
message_if true m = m
message_if false m = Other

-- The message of a packet of this kind, where these are read. Its data is carried as it is; whoever takes the message
-- decodes it. That of a commit is passed over.
abbrev pub message_of_kind : Reads → Option PacketKind → QuorumPacket → Message
message_of_kind reads (Some kinds.LeaderInfo) p = LeaderInfo (epoch_of p.zxid) (carried_bytes p.bytes)
message_of_kind reads (Some kinds.Diff) p = Diff
message_of_kind reads (Some kinds.Trunc) p = Trunc p.zxid
message_of_kind reads (Some kinds.Snap) p = Snap p.zxid
message_of_kind reads (Some kinds.Proposal) p = Proposal (carried_bytes p.bytes)
message_of_kind reads (Some kinds.Commit) p = Commit p.zxid
message_of_kind reads (Some kinds.Inform) p = Inform (carried_bytes p.bytes)
message_of_kind reads (Some kinds.NewLeader) p = NewLeader
message_of_kind reads (Some kinds.UpToDate) p = UpToDate
message_of_kind reads (Some kinds.Ping) p = Ping p
message_of_kind reads (Some kinds.Sync) p = Sync
message_of_kind reads (Some kinds.Revalidate) p =
    message_if reads.moved_sessions (Revalidated (carried_bytes p.bytes))
message_of_kind reads (Some kinds.CommitAndActivate) p = message_if reads.extended_types (Commit p.zxid)
message_of_kind reads (Some kinds.InformAndActivate) p =
    message_if reads.extended_types (InformAndActivate (carried_bytes p.bytes))
message_of_kind reads kind p = Other

abbrev pub message_of_packet : Dialect → QuorumPacket → Message
message_of_packet dialect p = message_of_kind (reads_of dialect) (kind_of p.kind) p
