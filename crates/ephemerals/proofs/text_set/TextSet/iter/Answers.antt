use Rattle.std.proofs.Common.{◌≡◌, ℕ, suc, ◌+◌, ◌-◌, ◌<◌, ◌≤◌, List, [], ◌∷◌, ◌++◌, length, take, drop, get_or, true, false, not, Ok, rules, refl, sym, ap, subst, ◌∙◌, arith, T, eqb→eq, eq-eqb}
use Rattle.std.specs.FinSet as set
use Rattle.std.proofs.lemmas.Map.Lookups.{exact_bytes}
use Rattle.ephemerals.proofs.Totals.{path_total}
use Rattle.ephemerals.specs.Orders.{Bytes, Names, path_cmp, sorted_names}
use Rattle.ephemerals.specs.Inner.Runs.{joined, names_in, texts_before, AreFilled, AreRuns, AreBelow, AreAbove, IsAt, IsGapFor, ends_below}
use Rattle.std.specs.List.{list_any}
use Rattle.std.specs.Ordering.{eq_by_cmp}
use Rattle.values.proofs.Keyed.{set_of-in_order}
use Rattle.ephemerals.proofs.text_set.TextSet.iter.Goals as goal

pub returns-clause-texts : goal.returns-clause-texts
returns-clause-texts c =
    c.of.ensures ∙ ap joined c.deref.ensures.value
    ∙ sym (set_of-in_order path_total exact_bytes (joined c.self.inside.runs.items) c.self.invariant.0.ascending)
    ∙ ap (λ (s : Names). sorted_names s) c.self.view_is

pub returns-clause-members : goal.returns-clause-members
returns-clause-members c q =
    ap (λ (s : Names). set.contains s q) (sym c.self.view_is)
    ∙ set.contains-from_list path_total (joined c.self.inside.runs.items) q
    ∙ ap (list_any (eq_by_cmp path_cmp q)) (sym (c.of.ensures ∙ ap joined c.deref.ensures.value))
