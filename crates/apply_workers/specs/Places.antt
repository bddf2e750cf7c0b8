-- The elements at some places of a list.
use Rattle.std.specs.Prelude.{ℕ, List, slice_get}
use Rattle.std.specs.List.{filter_map}

abbrev pub at_places : {A : Type 0} → List A → List ℕ → List A
at_places xs places = filter_map (λ place. slice_get xs place) places
