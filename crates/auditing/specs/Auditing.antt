-- The output of an audit of a text.
use Rattle.std.specs.Prelude.{◌≡◌, ℕ, ℤ, List, [], ◌∷◌, Bool, true, false, Option, Some, None, Result, Ok, Err, ◌⊎◌, if◌then◌else◌}
use Rattle.std.specs.Io.KnownBytes.{Appends, Keeps}
use Rattle.ephemerals.specs.Orders.{Bytes}
use Rattle.txn_codec.specs.declared.txn.Txn.{Txn}
use Rattle.learner_sync.specs.Learn.{whole_log}
use Rattle.observer_core.specs.declared.event.Event.{Event}
use Rattle.observer_core.specs.Machine.{Machine}
use Rattle.observer_core.specs.Play.{play}
use Rattle.audit.specs.Audit.{IsCounted, IsFirstUnclean}
use Rattle.replay_script.specs.Script.{script_of}
use Rattle.replay_script.specs.declared.event.ScriptEvent.{ScriptEvent}
use Rattle.replay_script.specs.declared.event.ScriptEvent.TheVariants.{LeaderUp, LeaderBytes, LeaderEnd, ClientUp, ClientBytes, ClientEnd, Expire, Checkpoint}
use Rattle.replay_script.specs.declared.script.Script.{Script}
use Rattle.replay.specs.Lines.{count_line}
use Rattle.replay.specs.Replay.{event_of_script, machine_of}
use Rattle.replay.specs.Ending.{status_of}
use Rattle.replay.specs.Writing.{WritesPart}
use Rattle.replay.specs.declared.ending.Ending.{Ending}
use Rattle.replay.specs.declared.ending.Ending.TheVariants as endings
use Rattle.auditing.specs.declared.auditing.Uncounted.{Uncounted}
use Rattle.auditing.specs.declared.auditing.Uncounted.TheVariants.{NotClean, NoMemory}

abbrev pub is_checkpoint : ScriptEvent → Bool
is_checkpoint LeaderUp = false
is_checkpoint (LeaderBytes bytes) = false
is_checkpoint LeaderEnd = false
is_checkpoint (ClientUp client address) = false
is_checkpoint (ClientBytes client bytes) = false
is_checkpoint (ClientEnd client) = false
is_checkpoint (Expire session) = false
is_checkpoint Checkpoint = true

-- The events of a script except its checkpoints, each of which would empty the log.
abbrev pub fed_events : List ScriptEvent → List Event
fed_events [] = []
fed_events (e ∷ es) = if is_checkpoint e then fed_events es else event_of_script e ∷ fed_events es

-- All transactions since the fresh tree, of the observer that was fed these events; none once an image or a TRUNC has
-- taken effect.
abbrev pub log_after : Machine → List Event → Option (List Txn)
log_after m events = whole_log (play m events).after.world.replica.learner

abbrev pub log_of : Script → Option (List Txn)
log_of script = log_after (machine_of script) (fed_events script.events)

-- There is a log, and this is its count.
abbrev pub FindsCount : Option (List Txn) → Bytes → Option (ℤ × ℤ) → Type 0
FindsCount kept path found = (log : List Txn) × (kept ≡ Some log) × IsCounted log path found

-- There is no log, or one that isn't clean.
abbrev pub IsNotClean : Option (List Txn) → Type 0
IsNotClean kept = (kept ≡ None) ⊎ ((log : List Txn) × (i : ℕ) × (kept ≡ Some log) × IsFirstUnclean log i)

abbrev pub AuditsLog : Option (List Txn) → Bytes → Result (Option (ℤ × ℤ)) Uncounted → Type 0
AuditsLog kept path (Ok found) = FindsCount kept path found
AuditsLog kept path (Err NotClean) = IsNotClean kept
AuditsLog kept path (Err NoMemory) = Unit {0}

-- The line of a count was printed, or a front of it where a write failed; after a refused allocation nothing was.
abbrev pub PrintsCount : Ending → ℤ → ℤ → Option (List ℕ) → Option (List ℕ) → Type 0
PrintsCount endings.Done cversion pzxid old new = Appends old new (count_line cversion pzxid)
PrintsCount (endings.BadLine number) cversion pzxid old new = ⊥
PrintsCount endings.Failed cversion pzxid old new = WritesPart old new (count_line cversion pzxid)
PrintsCount endings.NoMemory cversion pzxid old new = Keeps old new
PrintsCount endings.NotClean cversion pzxid old new = ⊥
PrintsCount endings.NoNode cversion pzxid old new = ⊥

-- The output, by how the audit of a text ended: the line of the count; or nothing, but a front of that line where a
-- write failed.
abbrev pub EndsAudit : Ending → List ℕ → Bytes → Option (List ℕ) → Option (List ℕ) → Type 0
EndsAudit endings.Done text path old new =
    (script : Script) × (count : ℤ × ℤ) × (script_of text ≡ Ok script) × FindsCount (log_of script) path (Some count)
    × Appends old new (count_line count.0 count.1)
EndsAudit (endings.BadLine number) text path old new = (script_of text ≡ Err number) × Keeps old new
EndsAudit endings.Failed text path old new =
    Keeps old new
    ⊎ ((script : Script) × (count : ℤ × ℤ) × (script_of text ≡ Ok script)
    × FindsCount (log_of script) path (Some count) × WritesPart old new (count_line count.0 count.1))
EndsAudit endings.NoMemory text path old new = Keeps old new
EndsAudit endings.NotClean text path old new =
    (script : Script) × (script_of text ≡ Ok script) × IsNotClean (log_of script) × Keeps old new
EndsAudit endings.NoNode text path old new =
    (script : Script) × (script_of text ≡ Ok script) × FindsCount (log_of script) path None × Keeps old new

-- The same by the exit status.
abbrev pub EndsAuditWith : ℕ → List ℕ → Bytes → Option (List ℕ) → Option (List ℕ) → Type 0
EndsAuditWith status text path old new =
    (ending : Ending) × (status ≡ status_of ending) × EndsAudit ending text path old new
