-- The sessions of a tree that own ephemeral nodes.
use Rattle.std.specs.Prelude.{ℤ, List, Bool, nat_lt}
use Rattle.std.specs.List.{filter}
use Rattle.std.specs.FinMap as finmap
use Rattle.std.specs.FinSet as set
use Rattle.ephemerals.specs.Orders.{OwnerPairs}
use Rattle.ephemerals.specs.Pairs.{paths_of_session}
use Rattle.data_tree.specs.Sessions.{SessionTimeouts}

abbrev pub has_ephemerals : OwnerPairs → ℤ → Bool
has_ephemerals pairs session = nat_lt 0 (set.len (paths_of_session session pairs))

-- Those with an ephemeral node, in ascending order of their ids. An owner that is no session of the tree isn't among
-- them.
abbrev pub owning_sessions : SessionTimeouts → OwnerPairs → List ℤ
owning_sessions timeouts pairs = filter (has_ephemerals pairs) (finmap.keys timeouts)
