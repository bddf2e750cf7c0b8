-- The view of a seat, and how it changes.
use Rattle.std.specs.Prelude.{ℕ, ◌+◌, ◌-◌, true, false, cond, List, [], ◌∷◌, ◌++◌, map}
use Rattle.apply_board.specs.declared.view.View.{View}

-- The numbers under which these results were given.
abbrev pub result_numbers : {F : Type 0} → List (ℕ × F) → List ℕ
result_numbers given = map (λ one. one.0) given

module _ {W F : Type 0} where
  abbrev pub opener_view : List W → View W F
  opener_view works = record {
    marker = record {};
    works = works;
    claimed = [];
    given = [];
    gathered = [];
    spent = false;
    gathered_marks = 0;
    seated = true;
    made = 1;
    unjoined = 1;
  }

  -- A seat that this one makes.
  abbrev pub new_seat_view : View W F → View W F
  new_seat_view v = record {
    marker = record {};
    works = v.works;
    claimed = [];
    given = [];
    gathered = [];
    spent = false;
    gathered_marks = 0;
    seated = true;
    made = 0;
    unjoined = 0;
  }

  -- The opener's seat has made another.
  abbrev pub with_seat_made : View W F → View W F
  with_seat_made v = record v { made = v.made + 1; unjoined = v.unjoined + 1 }

  abbrev pub with_claim : View W F → ℕ → View W F
  with_claim v k = record v { claimed = v.claimed ++ k ∷ [] }

  -- The seat has found every number claimed.
  abbrev pub with_spent : View W F → View W F
  with_spent v = record v { spent = true }

  abbrev pub with_result : View W F → ℕ → F → View W F
  with_result v k finished = record v { given = v.given ++ (k, finished) ∷ [] }

  -- The number of spent seats among this one and those joined into it.
  abbrev pub marks_of : View W F → ℕ
  marks_of v = cond v.spent 1 0 + v.gathered_marks

  -- Seat w was joined into the opener's seat v, which keeps the results and marks of w separate from its own.
  abbrev pub with_seat_joined : View W F → View W F → View W F
  with_seat_joined v w = record v {
    gathered = v.gathered ++ (w.given ++ w.gathered);
    gathered_marks = v.gathered_marks + marks_of w;
    unjoined = v.unjoined - 1;
  }

  -- The view left of a seat that was joined into another.
  abbrev pub vacated_view : View W F
  vacated_view = record {
    marker = record {};
    works = [];
    claimed = [];
    given = [];
    gathered = [];
    spent = false;
    gathered_marks = 0;
    seated = false;
    made = 0;
    unjoined = 0;
  }
