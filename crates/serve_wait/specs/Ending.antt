-- The exit status of a wait, and its line on standard error.
use Rattle.std.specs.Prelude.{ℕ, List, [], ◌∷◌, ◌++◌, codes, decimal}
use Rattle.serve_wait.specs.declared.ending.Obstacle.{Obstacle}
use Rattle.serve_wait.specs.declared.ending.Obstacle.TheVariants.{UnknownName, NoConnection, NoAnswer, NotServing}
use Rattle.serve_wait.specs.declared.ending.WaitEnding.{WaitEnding}
use Rattle.serve_wait.specs.declared.ending.WaitEnding.TheVariants.{Serving, Usage, NoMemory, Late}

abbrev pub obstacle_word : Obstacle → List ℕ
obstacle_word UnknownName = codes "unknown name"
obstacle_word NoConnection = codes "no connection"
obstacle_word NoAnswer = codes "no answer"
obstacle_word NotServing = codes "not serving"

abbrev pub wait_status_of : WaitEnding → ℕ
wait_status_of Serving = 0
wait_status_of Usage = 2
wait_status_of NoMemory = 4
wait_status_of (Late address seconds obstacle) = 8

abbrev pub late_line : List ℕ → ℕ → List ℕ → List ℕ
late_line address seconds why =
    codes "observer: " ++ address ++ codes " isn't serving after " ++ decimal seconds ++ codes " s (" ++ why
    ++ codes ")" ++ 10 ∷ []

abbrev pub wait_message_of : WaitEnding → List ℕ
wait_message_of Serving = []
wait_message_of Usage = codes "usage: wait HOST:PORT [--seconds N]" ++ 10 ∷ []
wait_message_of NoMemory = codes "no memory" ++ 10 ∷ []
wait_message_of (Late address seconds obstacle) = late_line address seconds (obstacle_word obstacle)
