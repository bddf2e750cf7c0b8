-- The options: the word of each, and what its value may be.
use Rattle.std.specs.Prelude.{ℕ, ◌-◌, ◌^◌, ◌≤◌, List, codes}
use Rattle.serve_options.specs.declared.row.Name.{Name}
use Rattle.serve_options.specs.declared.row.Name.TheVariants.{Config, CheckConfig, Leader, Servers, LeaderOnly, Client, Id, Dialect, Counter, SecretFile, SuperDigest, Workers, Batch, MaxClients, MaxPerAddress, MaxUnderWay, MaxWatches, Unconnected, Words, Tick, InitLimit, SyncLimit, MinSessionTimeout, MaxSessionTimeout, Checkpoint, GiveUp, Metrics, Record, Log, LogFormat, Help, Version}
use Rattle.serve_options.specs.declared.row.Bounds.{Bounds}
use Rattle.serve_options.specs.declared.row.Kind.{Kind}
use Rattle.serve_options.specs.declared.row.Kind.TheVariants as kinds

abbrev pub option_word : Name → List ℕ
option_word Config = codes "--config"
option_word CheckConfig = codes "--check-config"
option_word Leader = codes "--leader"
option_word Servers = codes "--servers"
option_word LeaderOnly = codes "--leader-only"
option_word Client = codes "--client"
option_word Id = codes "--id"
option_word Dialect = codes "--dialect"
option_word Counter = codes "--counter"
option_word SecretFile = codes "--secret-file"
option_word SuperDigest = codes "--super-digest"
option_word Workers = codes "--workers"
option_word Batch = codes "--batch"
option_word MaxClients = codes "--max-clients"
option_word MaxPerAddress = codes "--max-per-address"
option_word MaxUnderWay = codes "--max-under-way"
option_word MaxWatches = codes "--max-watches"
option_word Unconnected = codes "--unconnected"
option_word Words = codes "--words"
option_word Tick = codes "--tick"
option_word InitLimit = codes "--init-limit"
option_word SyncLimit = codes "--sync-limit"
option_word MinSessionTimeout = codes "--min-session-timeout"
option_word MaxSessionTimeout = codes "--max-session-timeout"
option_word Checkpoint = codes "--checkpoint"
option_word GiveUp = codes "--give-up"
option_word Metrics = codes "--metrics"
option_word Record = codes "--record"
option_word Log = codes "--log"
option_word LogFormat = codes "--log-format"
option_word Help = codes "--help"
option_word Version = codes "--version"

abbrev pub from_to : ℕ → ℕ → Kind
from_to least most = kinds.Number (record { least = least; most = most })

-- The largest counter leaves one id after it, of the 56 bits below the server's.
abbrev pub option_kind : Name → Kind
option_kind Config = kinds.File
option_kind CheckConfig = kinds.File
option_kind Leader = kinds.Address
option_kind Servers = kinds.Addresses
option_kind LeaderOnly = kinds.Nothing
option_kind Client = kinds.Address
option_kind Id = from_to 1 255
option_kind Dialect = kinds.Release
option_kind Counter = from_to 0 (2 ^ 56 - 2)
option_kind SecretFile = kinds.File
option_kind SuperDigest = kinds.Digest
option_kind Workers = from_to 1 64
option_kind Batch = from_to 1 4096
option_kind MaxClients = from_to 1 (2 ^ 64 - 1)
option_kind MaxPerAddress = from_to 1 (2 ^ 64 - 1)
option_kind MaxUnderWay = from_to 1 1048576
option_kind MaxWatches = from_to 0 1000000000
option_kind Unconnected = from_to 0 3600
option_kind Words = kinds.Words
option_kind Tick = from_to 1 3600000
option_kind InitLimit = from_to 0 1000000
option_kind SyncLimit = from_to 0 1000000
option_kind MinSessionTimeout = from_to 1 2147483647
option_kind MaxSessionTimeout = from_to 1 2147483647
option_kind Checkpoint = from_to 0 1048576
option_kind GiveUp = from_to 1 31536000
option_kind Metrics = kinds.Address
option_kind Record = kinds.File
option_kind Log = kinds.Level
option_kind LogFormat = kinds.Format
option_kind Help = kinds.Nothing
option_kind Version = kinds.Nothing

abbrev pub kind_bounds : Kind → Bounds
kind_bounds (kinds.Number bounds) = bounds
kind_bounds kind = record { least = 0; most = 2 ^ 64 - 1 }

abbrev pub option_bounds : Name → Bounds
option_bounds name = kind_bounds (option_kind name)

abbrev pub IsWithin : Bounds → ℕ → Type 0
IsWithin bounds number = (bounds.least ≤ number) × (number ≤ bounds.most)
