-- What the model of acts cites. No caller depends on this.
use Rattle.std.specs.Prelude.{List, [], ◌∷◌, Option, Some, None}
use Rattle.learner_sync.specs.declared.act.Act.{Act}
use Rattle.learner_sync.specs.declared.act.Act.TheVariants.{Apply}

-- The acts that are listed, or else the one act to apply.
abbrev pub acts_or_apply : Option (List Act) → List Act
acts_or_apply None = Apply ∷ []
acts_or_apply (Some acts) = acts
