-- The exit statuses, and the last lines of standard error.
use Rattle.std.specs.Prelude.{ℕ, List, Option, Some, None, codes}
use Rattle.serve_failures.specs.declared.failure.Failure.{Failure}
use Rattle.serve_failures.specs.declared.failure.Failure.TheVariants.{Usage, System, Io, NoThread, RecordCut, NoMemory, Refused, NoLeader}

abbrev pub failure_status : Failure → ℕ
failure_status (Usage why) = 2
failure_status (System step what error) = 3
failure_status (Io error) = 3
failure_status NoThread = 3
failure_status RecordCut = 3
failure_status NoMemory = 4
failure_status (Refused fault dialect server) = 7
failure_status (NoLeader seconds tried) = 8

abbrev pub last_word : Failure → Option (List ℕ)
last_word (Usage why) = Some (codes "usage")
last_word (System step what error) = Some (codes "cannot open")
last_word (Io error) = Some (codes "cannot open")
last_word NoThread = Some (codes "cannot open")
last_word RecordCut = Some (codes "cannot open")
last_word NoMemory = Some (codes "no memory")
last_word (Refused fault dialect server) = None
last_word (NoLeader seconds tried) = None
