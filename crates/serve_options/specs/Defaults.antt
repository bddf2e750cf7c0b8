-- The options that have a value without being given.
use Rattle.std.specs.Prelude.{ℕ, List, Option, Some, None, codes}
use Rattle.serve_options.specs.declared.row.Name.{Name}
use Rattle.serve_options.specs.declared.row.Name.TheVariants.{Dialect, Workers, Batch, MaxUnderWay, MaxWatches, Unconnected, Words, Tick, InitLimit, SyncLimit, Checkpoint, Log, LogFormat}
use Rattle.serve_options.specs.declared.row.Without.{Without}
use Rattle.serve_options.specs.declared.row.Without.TheVariants.{Nothing, Value, Meaning}

-- The value of an option that isn't given, as it would be spelled.
abbrev pub option_default : Name → Option (List ℕ)
option_default Dialect = Some (codes "3.8")
option_default Workers = Some (codes "4")
option_default Batch = Some (codes "256")
option_default MaxUnderWay = Some (codes "64")
option_default MaxWatches = Some (codes "500000")
option_default Unconnected = Some (codes "10")
option_default Words = Some (codes "ruok,isro,srvr,stat,mntr,conf,envi,dirs,wchs")
option_default Tick = Some (codes "2000")
option_default InitLimit = Some (codes "10")
option_default SyncLimit = Some (codes "5")
option_default Checkpoint = Some (codes "64")
option_default Log = Some (codes "warn")
option_default LogFormat = Some (codes "text")
option_default name = None

abbrev pub default_value : Without → Option (List ℕ)
default_value Nothing = None
default_value (Value text) = Some text.now
default_value (Meaning text) = None
