-- Frames and answers are counted right.
use Rattle.std.proofs.Common.{◌≡◌, ℕ, ◌+◌, ◌-◌, ◌*◌, ◌≤◌, List, [], ◌∷◌, Bool, true, false, refl, arith, min, not, ◌&&◌, nat_lt, nat_le, if◌then◌else◌}
use Rattle.std.proofs.lemmas.Bool.{eqb-true}
use Rattle.connection_loop.specs.Windows.{Window, new_window, room_in, with_sent, with_answer, after_small, sized_by_answer}
use Rattle.connection_loop.specs.Exchanges.{Exchange, Sent, Answered, IsRun, window_after, frames_sent, answers_come, AnsweredIsCounted, FewAreUnanswered}

after_small_owes : (w : Window) → (after_small w).owed ≡ w.owed
after_small_owes w = elim (nat_le w.at_once (w.small + 1)) as
    (λ (b : Bool). (if b then record w { at_once = min (w.at_once * 2) 16; small = 0 }
    else record w { small = w.small + 1 }).owed ≡ w.owed) [
      | true ↦ refl
      | false ↦ refl
    ]

sized_owes : (w : Window) (len : ℕ) → (sized_by_answer w len).owed ≡ w.owed
sized_owes w len = elim (nat_le len 65536) as
    (λ (b : Bool). (if b then after_small w else record w { at_once = 1; small = 0 }).owed ≡ w.owed) [
      | true ↦ after_small_owes w
      | false ↦ refl
    ]

answer_owes : (w : Window) (len : ℕ) → (with_answer w len).owed ≡ w.owed - 1
answer_owes w len = sized_owes (record w { owed = w.owed - 1; connected = true }) len

balance : (w : Window) (run : List Exchange) → IsRun w run
    → (window_after w run).owed + answers_come run ≡ w.owed + frames_sent run
balance w [] is = refl
balance w (Sent frames ∷ xs) is =
    let rest = balance (with_sent w frames) xs is.1 in omega (arith, rest)
balance w (Answered len ∷ xs) is =
    let rest = balance (with_answer w len) xs is.1 in omega (arith, rest, answer_owes w len, is.0)

room_fits : (w : Window) → room_in w ≤ 1024 - w.owed
room_fits w = elim (not w.connected && nat_lt 0 w.owed) as
    (λ (b : Bool). (if b then 0 else min w.at_once (1024 - w.owed)) ≤ 1024 - w.owed) [
      | true ↦ omega arith
      | false ↦ omega arith
    ]

few_owed : (w : Window) (run : List Exchange) → w.owed ≤ 1024 → IsRun w run → (window_after w run).owed ≤ 1024
few_owed w [] few is = few
few_owed w (Sent frames ∷ xs) few is =
    few_owed (with_sent w frames) xs (omega (arith, few, is.0, room_fits w)) is.1
few_owed w (Answered len ∷ xs) few is =
    few_owed (with_answer w len) xs (omega (arith, few, answer_owes w len)) is.1

pub answered_is_counted : AnsweredIsCounted
answered_is_counted run is none_left =
    let sum = balance new_window run is in
    let none = eqb-true _ _ none_left in
    omega (arith, sum, none)

pub few_are_unanswered : FewAreUnanswered
few_are_unanswered run is =
    let sum = balance new_window run is in
    let few = few_owed new_window run (omega arith) is in
    omega (arith, sum, few)
