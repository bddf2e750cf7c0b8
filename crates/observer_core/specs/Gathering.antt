-- Transactions that the log has gained and that aren't applied to the tree yet, and what is to be done for them.
use Rattle.std.specs.Prelude.{List, false}
use Rattle.txn_codec.specs.declared.txn.Txn.{Txn}
use Rattle.data_tree.specs.Meaning.{effect_of_txn, answer_of}
use Rattle.data_tree.specs.declared.outcome.Outcome.{Outcome}
use Rattle.watch_manager.specs.Watches.{fire}
use Rattle.world.specs.World.{Clients, World}
use Rattle.world.specs.Steps.{StepResult, fold_steps}
use Rattle.world.specs.Clients.{notices_of}

-- The watchers of what a transaction changed are told.
abbrev pub tell_outcome : Clients → Outcome → StepResult Clients
tell_outcome c outcome =
    let fired = fire c.watches outcome.triggers in
    record { outputs = notices_of fired.events; after = record c { watches = fired.left } }

abbrev pub tell_outcomes : Clients → List Outcome → StepResult Clients
tell_outcomes c outcomes = fold_steps (λ c. false) tell_outcome c outcomes

-- A transaction is applied to the tree, and its watchers are told at once.
abbrev pub apply_and_tell : World → Txn → StepResult World
apply_and_tell w txn =
    let effect = effect_of_txn w.replica.tree txn in
    let told = tell_outcome w.clients (answer_of effect) in
    record {
      outputs = told.outputs;
      after = record w { replica = record w.replica { tree = effect.state }; clients = told.after };
    }

abbrev pub apply_in_turn : World → List Txn → StepResult World
apply_in_turn w txns = fold_steps (λ w. false) apply_and_tell w txns
