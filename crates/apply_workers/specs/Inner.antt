-- What only private contracts cite.
use Rattle.std.specs.Prelude.{◌≡◌, ℕ, ◌<◌, List, [], ◌∷◌, Option, IfSome, slice_set, take}
use Rattle.txn_codec.specs.declared.txn.Txn.{Txn}
use Rattle.batcher.specs.Class.{TxnGroup}
use Rattle.batcher.specs.Front.{TxnFront, IsFrontOf}
use Rattle.batcher.specs.Limits.{LimitNumbers}
use Rattle.batcher.specs.Cut.{cut}
use Rattle.apply_board.specs.Sitting.{BoardId, Sitting}
use Rattle.apply_board.specs.Seats.{AreAllSeats, works_of}
use Rattle.apply_workers.specs.Working.{IsWorked}
use Rattle.apply_board.specs.declared.group.Group.{Group}
use Rattle.apply_board.specs.declared.group.Group.TheVariants.{Home}
use Rattle.data_tree.specs.State.{State}
use Rattle.data_tree.specs.declared.outcome.Outcome.{Outcome}
use Rattle.apply_workers.specs.declared.group_work.Work.{Work}
use Rattle.apply_workers.specs.declared.group_work.Finished.{Finished}
use Rattle.apply_workers.specs.declared.group_work.Finished.TheVariants.{Done}

module _ {W F : Type 0} where
  -- All seats of a board with these works.
  abbrev pub AreReady : BoardId → List W → List (Sitting W F) → Type 0
  AreReady board works seats = AreAllSeats board seats × (works_of seats ≡ works)

  -- Each seat as its worker left it.
  abbrev pub AreWorked : List (Sitting W F) → List (Sitting W F) → Type 0
  AreWorked [] [] = Unit {0}
  AreWorked (s ∷ ss) (t ∷ ts) = IsWorked s t × AreWorked ss ts
  AreWorked [] (t ∷ ts) = ⊥
  AreWorked (s ∷ ss) [] = ⊥

module _ {A : Type 0} where
  -- These are put at the places, one after the other.
  abbrev pub put_at : List A → List ℕ → List A → List A
  put_at all [] xs = all
  put_at all (p ∷ ps) [] = all
  put_at all (p ∷ ps) (x ∷ xs) = put_at (slice_set all p x) ps xs

  -- Each group's share at its places.
  abbrev pub put_each_at : List A → List TxnGroup → List (List A) → List A
  put_each_at all [] shares = all
  put_each_at all (c ∷ cs) [] = all
  put_each_at all (c ∷ cs) (xs ∷ shares) = put_each_at (put_at all c.members xs) cs shares

-- The groups that were given back with these cells and these outcomes.
abbrev pub finished_groups : List State → List (List Outcome) → List (Group Work Finished)
finished_groups [] answers = []
finished_groups (c ∷ cs) [] = []
finished_groups (c ∷ cs) (os ∷ answers) = Home (Done c os) ∷ finished_groups cs answers

-- The batch that these limits cut from the front of the transactions, if one is made; it has one of them at least.
abbrev pub IsNextBatch : LimitNumbers → Option TxnFront → List Txn → Type 0
IsNextBatch limits next txns =
    IfSome next (λ front. IsFrontOf front txns × (0 < front.count) × (take front.count txns ≡ cut limits txns))
