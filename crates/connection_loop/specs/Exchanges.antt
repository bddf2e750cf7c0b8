-- What goes through a client's connection: frames that are sent on, and their answers.
use Rattle.std.specs.Prelude.{◌≡◌, ℕ, ◌+◌, ◌<◌, ◌≤◌, List, [], ◌∷◌, true}
use Rattle.connection_loop.specs.Windows.{Window, new_window, room_in, all_answered, with_sent, with_answer}

pub data Exchange : Type 0 where
  -- So many frames.
  Sent : ℕ → Exchange
  -- The answer to one frame, of so many bytes.
  Answered : ℕ → Exchange

abbrev pub with_exchange : Window → Exchange → Window
with_exchange w (Sent frames) = with_sent w frames
with_exchange w (Answered len) = with_answer w len

-- No more frames are sent on than there is room for, and no more answers come than are owed.
abbrev pub MayCome : Window → Exchange → Type 0
MayCome w (Sent frames) = frames ≤ room_in w
MayCome w (Answered len) = 0 < w.owed

abbrev pub IsRun : Window → List Exchange → Type 0
IsRun w [] = Unit {0}
IsRun w (x ∷ xs) = MayCome w x × IsRun (with_exchange w x) xs

abbrev pub window_after : Window → List Exchange → Window
window_after w [] = w
window_after w (x ∷ xs) = window_after (with_exchange w x) xs

abbrev pub frames_sent : List Exchange → ℕ
frames_sent [] = 0
frames_sent (Sent frames ∷ xs) = frames + frames_sent xs
frames_sent (Answered len ∷ xs) = frames_sent xs

abbrev pub answers_come : List Exchange → ℕ
answers_come [] = 0
answers_come (Sent frames ∷ xs) = answers_come xs
answers_come (Answered len ∷ xs) = 1 + answers_come xs

-- After every run from the start: where none is left, as many answers have come as frames were sent on.
abbrev pub AnsweredIsCounted : Type 0
AnsweredIsCounted = (run : List Exchange) → IsRun new_window run
    → all_answered (window_after new_window run) ≡ true → answers_come run ≡ frames_sent run

-- And at most 1,024 frames aren't answered.
abbrev pub FewAreUnanswered : Type 0
FewAreUnanswered = (run : List Exchange) → IsRun new_window run → frames_sent run ≤ answers_come run + 1024

-- The first frame goes alone, and none goes before its answer.
abbrev pub FirstGoesAlone : Type 0
FirstGoesAlone = (room_in new_window ≡ 1) × (room_in (with_sent new_window 1) ≡ 0)
