-- Reads that are works at a board.
use Rattle.std.specs.Prelude.{◌≡◌, List, [], ◌∷◌, ◌++◌}
use Rattle.apply_board.specs.declared.group.Group.{Group}
use Rattle.apply_board.specs.declared.group.Group.TheVariants.{Home, Unclaimed}
use Rattle.read_processor.specs.Asking.{looks_at}
use Rattle.read_processor.specs.declared.shown.Look.{Look}
use Rattle.read_workers.specs.declared.work.LookWork.{LookWork}
use Rattle.read_workers.specs.declared.work.Looked.{Looked}
use Rattle.read_workers.specs.declared.work.Looked.TheVariants.{Answered, Refused}

-- The answers to the work's own asks, in order.
abbrev pub looks_for_work : LookWork → List Look
looks_for_work work = looks_at work.tree.now work.asks.now

-- The work was answered, or an allocation was refused.
abbrev pub AreLooksOf : LookWork → Looked → Type 0
AreLooksOf work (Answered answers) = answers.items ≡ looks_for_work work
AreLooksOf work Refused = Unit {0}

-- The answers that a closed board returns, in order.
abbrev pub answers_of : List (Group LookWork Looked) → List Look
answers_of [] = []
answers_of (Home (Answered answers) ∷ groups) = answers.items ++ answers_of groups
answers_of (Home Refused ∷ groups) = answers_of groups
answers_of (Unclaimed work ∷ groups) = answers_of groups

-- All works were answered.
abbrev pub AreAnswered : List (Group LookWork Looked) → Type 0
AreAnswered [] = Unit {0}
AreAnswered (Home (Answered answers) ∷ groups) = AreAnswered groups
AreAnswered (Home Refused ∷ groups) = ⊥
AreAnswered (Unclaimed work ∷ groups) = ⊥
