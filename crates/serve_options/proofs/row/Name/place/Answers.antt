use Rattle.std.proofs.Common.{◌≡◌, ◌<◌, refl, sym, subst}
use denote.Enum.Declared.{tag_of}
use Rattle.serve_options.specs.contracts.row.Name.{the_type}
use Rattle.serve_options.specs.declared.row.Name.{Name}
use Rattle.serve_options.specs.declared.row.Name.TheVariants.{Config, CheckConfig, Leader, Servers, LeaderOnly, Client, Id, Dialect, Counter, SecretFile, SuperDigest, Workers, Batch, MaxClients, MaxPerAddress, MaxUnderWay, MaxWatches, Unconnected, Words, Tick, InitLimit, SyncLimit, MinSessionTimeout, MaxSessionTimeout, Checkpoint, GiveUp, Metrics, Record, Log, LogFormat, Help, Version}
use Rattle.serve_options.specs.Places.{name_place}
use Rattle.serve_options.proofs.Names.{place_below}
use Rattle.serve_options.proofs.row.Name.place.Goals as goal

place_is : (name : Name) → tag_of the_type name ≡ name_place name
place_is Config = refl
place_is CheckConfig = refl
place_is Leader = refl
place_is Servers = refl
place_is LeaderOnly = refl
place_is Client = refl
place_is Id = refl
place_is Dialect = refl
place_is Counter = refl
place_is SecretFile = refl
place_is SuperDigest = refl
place_is Workers = refl
place_is Batch = refl
place_is MaxClients = refl
place_is MaxPerAddress = refl
place_is MaxUnderWay = refl
place_is MaxWatches = refl
place_is Unconnected = refl
place_is Words = refl
place_is Tick = refl
place_is InitLimit = refl
place_is SyncLimit = refl
place_is MinSessionTimeout = refl
place_is MaxSessionTimeout = refl
place_is Checkpoint = refl
place_is GiveUp = refl
place_is Metrics = refl
place_is Record = refl
place_is Log = refl
place_is LogFormat = refl
place_is Help = refl
place_is Version = refl

pub returns : goal.returns
returns c = record {
  place = place_is c.args.self;
  bound = subst (λ n. n < 32) (sym (place_is c.args.self)) (place_below c.args.self);
}
