use Rattle.std.proofs.Common.{◌≡◌, ℕ, suc, ◌+◌, ◌-◌, ◌<◌, ◌≤◌, List, [], ◌∷◌, ◌++◌, length, take, drop, get_or, true, false, not, Ok, rules, refl, sym, ap, subst, ◌∙◌, arith, T, eqb→eq, eq-eqb}
use Rattle.std.specs.FinSet as set
use Rattle.std.proofs.lemmas.Map.Lookups.{exact_bytes}
use Rattle.ephemerals.proofs.Totals.{path_total}
use Rattle.ephemerals.specs.Orders.{Bytes, Names, path_cmp, sorted_names}
use Rattle.ephemerals.specs.Inner.Runs.{joined, names_in, texts_before, AreFilled, AreRuns, AreBelow, AreAbove, IsAt, IsGapFor, ends_below}
use Rattle.values.proofs.Keyed.{len-set_of}
use Rattle.ephemerals.proofs.text_set.TextSet.len.Goals as goal

pub returns : goal.returns
returns c =
    c.self.invariant.1
    ∙ sym (len-set_of path_total exact_bytes (joined c.self.inside.runs.items) c.self.invariant.0.ascending)
    ∙ ap set.len c.self.view_is
