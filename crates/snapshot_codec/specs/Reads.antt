-- The contracts of reading and loading.
use Rattle.std.specs.Prelude.{◌≡◌, ◌<◌, ◌≤◌, ℕ, List, Option, Some, None, Result, Ok, Err, drop, length}
use Rattle.settings.specs.declared.dialect.Dialect.{Dialect}
use Rattle.values.specs.declared.fault.ReadError.{ReadError}
use Rattle.jute.specs.Loading.{load_from, unless_last}
use Rattle.jute.specs.Reads.{IsFailureOf}
use Rattle.data_tree.specs.State.{State}
use Rattle.snapshot_codec.specs.Image.{image_read_in}
use Rattle.snapshot_codec.specs.Made.{LoadedParts, Loading, with_loaded, image_load}
use Rattle.snapshot_codec.specs.Parts.{Value, Path, Close, part_format, part_after, part_in}
use Rattle.snapshot_codec.specs.declared.part.ImagePart.{ImagePart}
use Rattle.snapshot_codec.specs.declared.part.PartPhase.{PartPhase}

-- The value was read, and the phase moved on; a part is returned, any other value isn't. Or the value is refused, and
-- place and phase are as they were.
abbrev pub ReadsPart : Dialect → Result (Option ImagePart) ReadError → PartPhase → PartPhase → List ℕ → List ℕ → Type 0
ReadsPart dialect (Ok shown) phase next old new =
    (v : Value) × ((part_format dialect phase).read old ≡ Ok (v, new)) × (next ≡ part_after phase v)
    × (part_in v ≡ shown)
ReadsPart dialect (Err e) phase next old new =
    IsFailureOf e ((part_format dialect phase).read old) × (new ≡ old) × (next ≡ phase)

-- The part was taken; or it is refused, and the loader is as it was.
abbrev pub TakesPart : Result (Unit {0}) ReadError → ImagePart → Loading → Loading → Type 0
TakesPart (Ok u) part old new = with_loaded old part ≡ Ok new
TakesPart (Err e) part old new = IsFailureOf e (with_loaded old part) × (new ≡ old)

-- A state, and the number of bytes that its image takes.
abbrev pub ReadsImage : Dialect → Result (State × ℕ) ReadError → List ℕ → Type 0
ReadsImage dialect (Ok x) bytes = (image_read_in dialect bytes ≡ Ok (x.0, drop x.1 bytes)) × (x.1 ≤ length bytes)
ReadsImage dialect (Err e) bytes = IsFailureOf e (image_read_in dialect bytes)

-- The value for the path of a further node, or for the path "/".
abbrev pub path_or_close : Option (List ℕ) → Value
path_or_close None = Close
path_or_close (Some path) = Path path

-- The next value was loaded: loading the rest gives the same result, unless it was the last value. Or it is refused.
abbrev pub LoadsNext : Dialect → Result (Unit {0}) ReadError → PartPhase → LoadedParts → List ℕ → PartPhase → Loading
    → List ℕ → Type 0
LoadsNext dialect (Ok u) phase made old next loading new =
    (load_from (image_load dialect) phase made old
    ≡ unless_last loading.ended loading.made new (load_from (image_load dialect) next loading.made new))
    × (length new < length old)
LoadsNext dialect (Err e) phase made old next loading new =
    IsFailureOf e (load_from (image_load dialect) phase made old)
