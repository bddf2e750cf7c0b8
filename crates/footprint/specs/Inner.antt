-- What the contracts of private functions cite. No caller depends on this.
use Rattle.std.specs.Prelude.{◌≡◌, List, ◌||◌}
use Rattle.std.specs.FinSet as set
use Rattle.ephemerals.specs.Orders.{Bytes, Names}
use Rattle.data_tree.specs.Footprint.{has_path}

-- The set has gained these paths, and no others.
abbrev pub HasGainedPaths : List Bytes → Names → Names → Type 0
HasGainedPaths paths old new = (q : Bytes) → set.contains new q ≡ (has_path paths q || set.contains old q)
