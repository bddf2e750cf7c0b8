use Rattle.snapshot_codec.proofs.Walks.{nodes_are_walked}
use Rattle.snapshot_codec.proofs.law.walks.Goals as goal

pub returns : goal.returns
returns c = nodes_are_walked
