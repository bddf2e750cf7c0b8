-- What the model of triggers cites. No caller depends on this.
use Rattle.std.specs.Prelude.{List}
use Rattle.data_tree.specs.declared.outcome.StoredTriggers.{StoredTriggers}
use Rattle.data_tree.specs.declared.outcome.StoredTriggers.TheVariants.{One, Two, Listed}
use Rattle.data_tree.specs.declared.outcome.Trigger.{Trigger}

abbrev pub stored_triggers : StoredTriggers → List Trigger
stored_triggers (One triggers) = triggers
stored_triggers (Two triggers) = triggers
stored_triggers (Listed triggers) = triggers.items
