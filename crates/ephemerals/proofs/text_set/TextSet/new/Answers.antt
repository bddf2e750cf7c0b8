use Rattle.std.proofs.Common.{◌≡◌, ℕ, suc, ◌+◌, ◌-◌, ◌<◌, ◌≤◌, List, [], ◌∷◌, ◌++◌, length, take, drop, get_or, true, false, not, Ok, rules, refl, sym, ap, subst, ◌∙◌, arith, T, eqb→eq, eq-eqb}
use Rattle.ephemerals.specs.Orders.{Bytes, Names, path_cmp, sorted_names}
use Rattle.ephemerals.specs.Inner.Runs.{joined, names_in, texts_before, AreFilled, AreRuns, AreBelow, AreAbove, IsAt, IsGapFor, ends_below}
use Rattle.ephemerals.proofs.JoinedRuns.{no_runs}
use Rattle.ephemerals.proofs.text_set.TextSet.new.Goals as goal

pub invariant_of-result : goal.invariant_of-result
invariant_of-result c = (
  subst AreRuns (sym c.new.ensures.items) no_runs,
  ap (λ rs. length (joined rs)) (sym c.new.ensures.items),
)
