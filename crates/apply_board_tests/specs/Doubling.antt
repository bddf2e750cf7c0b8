-- What the tests' work yields.
use Rattle.std.specs.Prelude.{◌≡◌, ◌+◌, ◌%◌, ◌^◌}
use Rattle.apply_board_tests.specs.declared.doubling.Number.{Number}
use Rattle.apply_board_tests.specs.declared.doubling.Doubled.{Doubled}

abbrev pub IsDouble : Number → Doubled → Type 0
IsDouble number doubled = doubled.value ≡ (number.value + number.value) % 2 ^ 64
