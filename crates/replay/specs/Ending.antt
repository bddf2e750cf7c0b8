-- The exit status of an ending, and its line on standard error.
use Rattle.std.specs.Prelude.{ℕ, List, [], ◌∷◌, ◌++◌, codes, decimal}
use Rattle.replay.specs.declared.ending.Ending.{Ending}
use Rattle.replay.specs.declared.ending.Ending.TheVariants.{Done, BadLine, Failed, NoMemory, NotClean, NoNode}

abbrev pub status_of : Ending → ℕ
status_of Done = 0
status_of (BadLine number) = 1
status_of Failed = 3
status_of NoMemory = 4
status_of NotClean = 5
status_of NoNode = 6

abbrev pub message_of : Ending → List ℕ
message_of Done = []
message_of (BadLine number) = codes "line " ++ decimal number ++ codes ": bad line" ++ 10 ∷ []
message_of Failed = codes "cannot open" ++ 10 ∷ []
message_of NoMemory = codes "no memory" ++ 10 ∷ []
message_of NotClean = codes "not clean" ++ 10 ∷ []
message_of NoNode = codes "no node" ++ 10 ∷ []
