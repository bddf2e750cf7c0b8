use Rattle.std.proofs.Common.{rules, ap, ◌∙◌}
use Rattle.quorum_packet.specs.Kinds.{kind_of}
use Rattle.quorum_packet.proofs.Codes.{kind_back}
use Rattle.quorum_packet.proofs.kind.PacketKind.code.Goals as goal

pub returns-clause-code : goal.returns-clause-code
returns-clause-code c = search rules

pub returns-clause-back : goal.returns-clause-back
returns-clause-back c = ap kind_of (returns-clause-code c) ∙ kind_back c.args.self
