-- A session's lines among those with ephemeral nodes.
use Rattle.std.specs.Prelude.{ℕ, ℤ, List, [], if◌then◌else◌}
use Rattle.ephemerals.specs.Orders.{OwnerPairs}
use Rattle.four_letter.specs.Dumped.{has_ephemerals}
use Rattle.four_letter.specs.Texts.{owner_block}

abbrev pub owner_if_any : OwnerPairs → ℤ → List ℕ
owner_if_any pairs session = if has_ephemerals pairs session then owner_block pairs session else []
