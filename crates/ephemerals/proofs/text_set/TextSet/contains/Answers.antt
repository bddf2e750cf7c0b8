use Rattle.std.proofs.Common.{◌≡◌, ℕ, suc, ◌+◌, ◌-◌, ◌<◌, ◌≤◌, List, [], ◌∷◌, ◌++◌, length, take, drop, get_or, true, false, not, Ok, IfOk, IfErr, rules, refl, sym, ap, subst, ◌∙◌, arith}
use Rattle.std.specs.FinSet as set
use Rattle.std.proofs.lemmas.Map.Lookups.{exact_bytes}
use Rattle.ephemerals.proofs.Totals.{path_total}
use Rattle.ephemerals.specs.Orders.{Bytes, Names, path_cmp, sorted_names}
use Rattle.ephemerals.specs.Inner.Runs.{joined, names_in, texts_before, AreFilled, AreRuns, AreBelow, AreAbove, IsAt, IsGapFor, ends_below}
use Rattle.ephemerals.specs.Inner.Placed.{texts_before_place}
use Rattle.ephemerals.proofs.Places.{is_found}
use Rattle.ephemerals.proofs.text_set.TextSet.contains.Goals as goal

pub returns : goal.returns
returns c =
    let runs = c.self.inside.runs.items in
    let text = c.args.text.now in
    let found = subst (λ (rs : List (List Bytes)). IfOk c.find.result (λ p. IsAt text (joined rs) (texts_before_place rs p)))
    c.deref.ensures.value c.find.ensures.found in
    let absent = subst (λ (rs : List (List Bytes)). IfErr c.find.result (λ p. IsGapFor text (joined rs) (texts_before_place rs p)))
    c.deref.ensures.value c.find.ensures.absent in
    c.is_ok.ensures.value
    ∙ is_found (texts_before_place runs) (joined runs) text c.self.invariant.0.ascending c.find.result found absent
    ∙ ap (λ (s : Names). set.contains s text) c.self.view_is
