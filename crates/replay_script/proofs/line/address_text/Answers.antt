use Rattle.replay_script.proofs.Addresses.{address_is_utf8}
use Rattle.replay_script.proofs.line.address_text.Goals as goal

pub unreachable-requires : goal.unreachable-requires
unreachable-requires c = c.in-Err.ensures.cases.0 (address_is_utf8 c.args.bytes.now c.requires)
