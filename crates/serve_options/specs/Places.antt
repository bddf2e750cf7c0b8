-- The place of each option in the list of all.
use Rattle.std.specs.Prelude.{ℕ}
use Rattle.serve_options.specs.declared.row.Name.{Name}
use Rattle.serve_options.specs.declared.row.Name.TheVariants.{Config, CheckConfig, Leader, Servers, LeaderOnly, Client, Id, Dialect, Counter, SecretFile, SuperDigest, Workers, Batch, MaxClients, MaxPerAddress, MaxUnderWay, MaxWatches, Unconnected, Words, Tick, InitLimit, SyncLimit, MinSessionTimeout, MaxSessionTimeout, Checkpoint, GiveUp, Metrics, Record, Log, LogFormat, Help, Version}

abbrev pub name_place : Name → ℕ
name_place Config = 0
name_place CheckConfig = 1
name_place Leader = 2
name_place Servers = 3
name_place LeaderOnly = 4
name_place Client = 5
name_place Id = 6
name_place Dialect = 7
name_place Counter = 8
name_place SecretFile = 9
name_place SuperDigest = 10
name_place Workers = 11
name_place Batch = 12
name_place MaxClients = 13
name_place MaxPerAddress = 14
name_place MaxUnderWay = 15
name_place MaxWatches = 16
name_place Unconnected = 17
name_place Words = 18
name_place Tick = 19
name_place InitLimit = 20
name_place SyncLimit = 21
name_place MinSessionTimeout = 22
name_place MaxSessionTimeout = 23
name_place Checkpoint = 24
name_place GiveUp = 25
name_place Metrics = 26
name_place Record = 27
name_place Log = 28
name_place LogFormat = 29
name_place Help = 30
name_place Version = 31
