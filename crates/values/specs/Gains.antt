-- What a list has gained from a call that appends to it, whether the call succeeded or an allocation was refused on the
-- way.
use Rattle.std.specs.Prelude.{◌≡◌, List, ◌++◌, Result, Ok, Err}

-- The old items followed by a prefix of the new ones.
pub record Gains {A : Type 0} (old items new : List A) : Type 0 where
  pub front : List A
  pub rest : List A
  pub gained : new ≡ old ++ front
  pub of : items ≡ front ++ rest

-- All the items were appended; or an allocation was refused, and a prefix of them was appended.
abbrev pub Puts : {A U E : Type 0} → Result U E → List A → List A → List A → Type 0
Puts (Ok u) old items new = new ≡ old ++ items
Puts (Err e) old items new = Gains old items new
