-- The model of pairs that are stored with a number for each session.
use Rattle.std.specs.Prelude.{ℕ, ℤ, pos, negsuc, ◌+◌, ◌*◌, ◌/◌, ◌%◌, ◌==◌, map, if◌then◌else◌}
use Rattle.std.specs.FinSet as set
use Rattle.pairs.specs.Pairs.{TextPairs}
use Rattle.ephemerals.specs.Orders.{Bytes, OwnerPairs}

-- The sessions 0, -1, 1, -2, 2, .. have the numbers 0, 1, 2, 3, 4, .., so that each number is one session's.
abbrev pub number_of_session : ℤ → ℕ
number_of_session (pos n) = 2 * n
number_of_session (negsuc n) = 2 * n + 1

abbrev pub session_of_number : ℕ → ℤ
session_of_number number = if number % 2 == 0 then pos (number / 2) else negsuc (number / 2)

abbrev pub owners_in : TextPairs → OwnerPairs
owners_in pairs = set.from_list (map (λ (p : Bytes × ℕ). (session_of_number p.1, p.0)) (set.items pairs))
