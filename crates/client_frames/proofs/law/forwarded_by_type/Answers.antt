use Rattle.client_frames.proofs.Forwarded as forwarded
use Rattle.client_frames.proofs.law.forwarded_by_type.Goals as goal

pub returns : goal.returns
returns c = forwarded.forwarded_by_type
