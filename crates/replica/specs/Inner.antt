-- The contracts of the private functions.
use Rattle.std.specs.Prelude.{◌≡◌, Bool, true, false, List, [], ◌∷◌, Option, Result, Ok, Err}
use Rattle.std.specs.List.{AllByRecursion}
use Rattle.values.specs.declared.fault.Fault.{Fault}
use Rattle.values.specs.declared.fault.ReadError.{ReadError}
use Rattle.values.specs.declared.fault.ReadError.TheVariants as errors
use Rattle.jute.specs.Reads.{IsFailureOf}
use Rattle.data_tree.specs.declared.outcome.Trigger.{Trigger}
use Rattle.learner_sync.specs.Learn.{LearnerStep}
use Rattle.learner_sync.specs.declared.act.Act.{Act}
use Rattle.learner_sync.specs.declared.act.Act.TheVariants as act
use Rattle.replica.specs.Replica.{Replica}
use Rattle.replica.specs.declared.item_outcome.LeaderNews.{LeaderNews}
use Rattle.replica.specs.Taking.{ItemEffect, nothing_loaded, no_effect, carry_out}

-- A replica, and the triggers and the news so far.
abbrev pub with_told : List Trigger → Option LeaderNews → Replica → ItemEffect
with_told triggers told r =
    record (no_effect (nothing_loaded r.learner.dialect) r) { triggers = triggers; news = told }

-- The acts, and the replica with the learner after the item; or the replica is as it was.
abbrev pub UpdatesLearner : Result (List Act) ReadError → Result LearnerStep Fault → Replica → Replica → Type 0
UpdatesLearner (Ok acts) learned old new =
    (learned ≡ Ok (record { acts = acts; after = new.learner })) × (new ≡ record old { learner = new.learner })
UpdatesLearner (Err e) learned old new = IsFailureOf e learned × (new ≡ old)

-- One act was carried out; or it is refused for its fault, and nothing changed.
abbrev pub CarriesOutAct : Result (Unit {0}) ReadError → Act → ItemEffect → ItemEffect → Type 0
CarriesOutAct (Ok u) a old new = carry_out old a ≡ Ok new
CarriesOutAct (Err (errors.Fault e)) a old new = (carry_out old a ≡ Err e) × (new ≡ old)
CarriesOutAct (Err errors.NoMemory) a old new = Unit {0}

abbrev pub is_part_load : Act → Bool
is_part_load (act.LoadPart p) = true
is_part_load a = false

-- A part to load is the only act.
abbrev pub IsPartAlone : List Act → Type 0
IsPartAlone (act.LoadPart p ∷ acts) = acts ≡ []
IsPartAlone acts = AllByRecursion (λ a. is_part_load a ≡ false) acts
