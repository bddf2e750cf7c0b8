-- Places in runs.
use Rattle.std.specs.Prelude.{◌≡◌, ◌+◌, ◌<◌, ◌≤◌, ℕ, List, [], length, slice_index_or}
use Rattle.ephemerals.specs.declared.runs.Place.{Place}
use Rattle.ephemerals.specs.Orders.{Bytes}
use Rattle.ephemerals.specs.Inner.Runs.{texts_before}

-- How many texts come before the place.
abbrev pub texts_before_place : List (List Bytes) → Place → ℕ
texts_before_place runs place = texts_before runs place.run + place.text

-- A text is at the place.
pub record IsTaken (runs : List (List Bytes)) (place : Place) : Type 0 where
  pub run : place.run < length runs
  pub text : place.text < length (slice_index_or runs place.run [])

-- A text may be put before the place, which is in no run where it goes after all.
pub record IsOpen (runs : List (List Bytes)) (place : Place) : Type 0 where
  pub run : place.run ≤ length runs
  pub text : place.text ≤ length (slice_index_or runs place.run [])
