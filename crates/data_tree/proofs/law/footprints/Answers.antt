use Rattle.data_tree.proofs.Commute.{transactions_keep_to_their_footprints, transactions_set_their_timeouts, disjoint_transactions_commute}
use Rattle.data_tree.proofs.law.footprints.Goals as goal

pub returns : goal.returns
returns c = record {
  keep = transactions_keep_to_their_footprints;
  timeouts = transactions_set_their_timeouts;
  commute = disjoint_transactions_commute;
}
