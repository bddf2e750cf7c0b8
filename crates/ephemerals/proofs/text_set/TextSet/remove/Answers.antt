use Rattle.std.proofs.Common.{◌≡◌, ℕ, suc, ◌+◌, ◌-◌, ◌<◌, ◌≤◌, List, [], ◌∷◌, ◌++◌, length, take, drop, get_or, true, false, not, Ok, IfOk, IfErr, rules, refl, sym, ap, subst, ◌∙◌, arith}
use Rattle.std.specs.FinSet as set
use Rattle.std.proofs.lemmas.Map.Lookups.{exact_bytes}
use Rattle.ephemerals.proofs.Totals.{path_total}
use Rattle.ephemerals.specs.Orders.{Bytes, Names, path_cmp, sorted_names}
use Rattle.ephemerals.specs.Inner.Runs.{joined, names_in, texts_before, AreFilled, AreRuns, AreBelow, AreAbove, IsAt, IsGapFor, ends_below}
use Rattle.ephemerals.specs.Inner.Placed.{texts_before_place}
use Rattle.ephemerals.proofs.Places.{absent_in_gap}
use Rattle.ephemerals.proofs.TextSets.{without_text, remove-absent}
use Rattle.ephemerals.proofs.text_set.TextSet.remove.Goals as goal

pub invariant_of-self : goal.invariant_of-self
invariant_of-self c =
    let runs = c.self.inside.runs.items in
    let text = c.args.text.now in
    let place = texts_before_place runs c.in-Ok.place in
    let found = subst (λ (rs : List (List Bytes)). IsAt text (joined rs) (texts_before_place rs c.in-Ok.place))
    c.deref.ensures.value c.in-Ok.ensures.found in
    let without = without_text text runs c.take.new.runs.items place c.self.invariant.0 found
    c.take.ensures.filled c.take.ensures.rest in
    (without.are, omega (arith, without.len, c.self.invariant.1))

pub returns-in-Ok-clause-removed : goal.returns-in-Ok-clause-removed
returns-in-Ok-clause-removed c =
    let runs = c.self.inside.runs.items in
    let text = c.args.text.now in
    let place = texts_before_place runs c.in-Ok.place in
    let found = subst (λ (rs : List (List Bytes)). IsAt text (joined rs) (texts_before_place rs c.in-Ok.place))
    c.deref.ensures.value c.in-Ok.ensures.found in
    let without = without_text text runs c.take.new.runs.items place c.self.invariant.0 found
    c.take.ensures.filled c.take.ensures.rest in
    without.names ∙ ap (λ (s : Names). set.remove s text) c.self.view_is

pub returns-in-Ok-clause-was : goal.returns-in-Ok-clause-was
returns-in-Ok-clause-was c =
    let runs = c.self.inside.runs.items in
    let text = c.args.text.now in
    let place = texts_before_place runs c.in-Ok.place in
    let found = subst (λ (rs : List (List Bytes)). IsAt text (joined rs) (texts_before_place rs c.in-Ok.place))
    c.deref.ensures.value c.in-Ok.ensures.found in
    let without = without_text text runs c.take.new.runs.items place c.self.invariant.0 found
    c.take.ensures.filled c.take.ensures.rest in
    sym without.was ∙ ap (λ (s : Names). set.contains s text) c.self.view_is

pub returns-in-Err-clause-removed : goal.returns-in-Err-clause-removed
returns-in-Err-clause-removed c =
    let runs = c.self.inside.runs.items in
    let text = c.args.text.now in
    let place = texts_before_place runs c.in-Err.field-0 in
    let gap = subst (λ (rs : List (List Bytes)). IsGapFor text (joined rs) (texts_before_place rs c.in-Err.field-0))
    c.deref.ensures.value c.in-Err.ensures.absent in
    let none = ap (λ (s : Names). set.contains s text) (sym c.self.view_is) ∙ absent_in_gap (joined runs) place text gap in
    sym (remove-absent c.args.self.now text none)

pub returns-in-Err-clause-was : goal.returns-in-Err-clause-was
returns-in-Err-clause-was c =
    let runs = c.self.inside.runs.items in
    let text = c.args.text.now in
    let place = texts_before_place runs c.in-Err.field-0 in
    let gap = subst (λ (rs : List (List Bytes)). IsGapFor text (joined rs) (texts_before_place rs c.in-Err.field-0))
    c.deref.ensures.value c.in-Err.ensures.absent in
    let none = ap (λ (s : Names). set.contains s text) (sym c.self.view_is) ∙ absent_in_gap (joined runs) place text gap in
    sym none
