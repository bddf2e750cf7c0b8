-- What comes after an int.
use Rattle.std.proofs.Common.{◌≡◌, ℕ, ◌-◌, List, length, drop, slice_range, arith}
use Rattle.std.proofs.lemmas.List.{take_all, length-drop}

pub slice_after : (xs : List ℕ) (n : ℕ) → slice_range xs n (length xs) ≡ drop n xs
slice_after xs n = take_all (length xs - n) (drop n xs) (omega (arith, length-drop n xs))
