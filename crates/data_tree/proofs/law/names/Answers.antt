use Rattle.node_map.proofs.Naming.{name_is, each_of_named, named_of_each}
use Rattle.data_tree.specs.Meaning.{effect_of_txn, fresh_state}
use Rattle.data_tree.specs.Making.{with_node_in_place}
use Rattle.data_tree.proofs.KeepingNames.{body_keeps, node_keeps, fresh_named}
use Rattle.data_tree.proofs.law.names.Goals as goal

pub returns-clause-paths : goal.returns-clause-paths
returns-clause-paths c = λ path is. name_is path is

pub returns-clause-fresh : goal.returns-clause-fresh
returns-clause-fresh c = named_of_each fresh_state.nodes fresh_named

pub returns-clause-transactions : goal.returns-clause-transactions
returns-clause-transactions c =
    λ s t has named. named_of_each (effect_of_txn s t).state.nodes
    (body_keeps t.header t.body s has (each_of_named s.nodes named))

pub returns-clause-nodes : goal.returns-clause-nodes
returns-clause-nodes c =
    λ s path node right names named. named_of_each (with_node_in_place s path node).nodes
    (node_keeps s path node right names (each_of_named s.nodes named))
