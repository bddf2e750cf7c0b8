-- Steps of which nothing is known but what is asked of them.
use Rattle.std.proofs.Common.{ℕ}
use Rattle.world.specs.World.{World}
use Rattle.observer_core.proofs.Walking.{IsGround}
use Rattle.observer_core.proofs.Answered.{IsAnswerGround}

abbrev pub Always : World → Type 0
Always w = Unit {0}

pub plain_ground : (n : ℕ) → IsGround n ⊥ Always
plain_ground n = record {
  closes = λ k w a. tt;
  watches = λ w watch here a. tt;
  unwatches = λ w kind path a. tt;
  shows = λ w id here a. tt;
  touches = λ w session a. tt;
  opens = λ w k a. tt;
  writes = λ w xid kind room here a. tt;
  syncs = λ w xid path room here a. tt;
  holds = λ w frame room busy a. tt;
  counts = λ w none below a. tt;
  gives = λ w session time_out none free here a. tt;
  asks = λ w connect none idle free here a. tt;
  others = λ w session k strict a none idle with. absurd strict;
  alone = λ w session k strict a waits. absurd strict;
}

pub plain_answer_ground : (n : ℕ) → IsAnswerGround n ⊥ Always
plain_answer_ground n = record {
  here = λ w busy a strict. absurd strict;
  takes = λ w a. tt;
  answers = λ w xid txn_kind a. tt;
  drops = λ w a. tt;
}
