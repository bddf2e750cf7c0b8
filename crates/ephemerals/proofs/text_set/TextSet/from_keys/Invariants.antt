use Rattle.std.proofs.Common.{drop}
use Rattle.std.proofs.lemmas.Map.Lookups.{exact_bytes}
use Rattle.std.specs.FinSet as set
use Rattle.pairs.proofs.Adding.{IsAdding}
use Rattle.ephemerals.proofs.Totals.{path_total}
use Rattle.ephemerals.proofs.text_set.TextSet.from_keys.Given as goal

abbrev pub invariant-loop-key : goal.invariant-loop-key
invariant-loop-key l =
    IsAdding path_total exact_bytes set.empty (set.from_list l.keys) (drop l.key-index l.keys) l.texts
