-- A line of a configuration file, and those that were joined to it.
use Rattle.std.specs.Prelude.{ℕ, List}

-- Its number is that of the first.
pub record NumberedLine : Type 0 where
  pub number : ℕ
  pub text : List ℕ
