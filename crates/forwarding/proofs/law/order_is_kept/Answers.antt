use Rattle.forwarding.proofs.Ordered.{requests_keep_order, syncs_keep_order}
use Rattle.forwarding.proofs.law.order_is_kept.Goals as goal

pub returns : goal.returns
returns c = record { requests = requests_keep_order; syncs = syncs_keep_order }
