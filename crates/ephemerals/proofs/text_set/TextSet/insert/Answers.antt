use Rattle.std.proofs.Common.{◌≡◌, ℕ, suc, ◌+◌, ◌-◌, ◌<◌, ◌≤◌, List, [], ◌∷◌, ◌++◌, length, take, drop, get_or, true, false, not, Ok, IfOk, IfErr, rules, refl, sym, ap, subst, ◌∙◌, arith}
use Rattle.std.specs.FinSet as set
use Rattle.std.proofs.lemmas.Map.Lookups.{exact_bytes}
use Rattle.ephemerals.proofs.Totals.{path_total}
use Rattle.ephemerals.specs.Orders.{Bytes, Names, path_cmp, sorted_names}
use Rattle.ephemerals.specs.Inner.Runs.{joined, names_in, texts_before, AreFilled, AreRuns, AreBelow, AreAbove, IsAt, IsGapFor, ends_below}
use Rattle.ephemerals.specs.Inner.Placed.{texts_before_place}
use Rattle.values.proofs.SetSteps.{insert-present}
use Rattle.ephemerals.proofs.Errors.{on_err}
use Rattle.ephemerals.proofs.Places.{absent_in_gap, left_out}
use Rattle.ephemerals.proofs.TextSets.{with_text}
use Rattle.ephemerals.proofs.text_set.TextSet.insert.Goals as goal

pub returns-then-self-clause-absent : goal.returns-then-self-clause-absent
returns-then-self-clause-absent c =
    let runs = c.self.inside.runs.items in
    let text = c.args.text.now in
    let place = texts_before_place runs c.in-Err.place in
    let gap = subst (λ (rs : List (List Bytes)). IsGapFor text (joined rs) (texts_before_place rs c.in-Err.place))
    c.deref.ensures.value c.in-Err.ensures.absent in
    let none = ap (λ (s : Names). set.contains s text) (sym c.self.view_is) ∙ absent_in_gap (joined runs) place text gap in
    none

pub returns-in_err-put-in-Err-clause-absent : goal.returns-in_err-put-in-Err-clause-absent
returns-in_err-put-in-Err-clause-absent c =
    let runs = c.self.inside.runs.items in
    let text = c.args.text.now in
    let place = texts_before_place runs c.in-Err.place in
    let gap = subst (λ (rs : List (List Bytes)). IsGapFor text (joined rs) (texts_before_place rs c.in-Err.place))
    c.deref.ensures.value c.in-Err.ensures.absent in
    let none = ap (λ (s : Names). set.contains s text) (sym c.self.view_is) ∙ absent_in_gap (joined runs) place text gap in
    on_err c.from_residual.result none

pub invariant_of-self-in-Err : goal.invariant_of-self-in-Err
invariant_of-self-in-Err c =
    let runs = c.self.inside.runs.items in
    let text = c.args.text.now in
    let place = texts_before_place runs c.in-Err.place in
    let gap = subst (λ (rs : List (List Bytes)). IsGapFor text (joined rs) (texts_before_place rs c.in-Err.place))
    c.deref.ensures.value c.in-Err.ensures.absent in
    let with = with_text text runs c.put.new.runs.items place c.self.invariant.0 gap
    c.in_ok-put-in-Err.ensures.filled c.in_ok-put-in-Err.ensures.ok in
    (with.are, omega (arith, with.len, c.self.invariant.1))

pub returns-in-Ok-clause-ok : goal.returns-in-Ok-clause-ok
returns-in-Ok-clause-ok c =
    let runs = c.self.inside.runs.items in
    let text = c.args.text.now in
    let place = texts_before_place runs c.in-Ok.field-0 in
    let found = subst (λ (rs : List (List Bytes)). IsAt text (joined rs) (texts_before_place rs c.in-Ok.field-0))
    c.deref.ensures.value c.in-Ok.ensures.found in
    let was = ap (λ (s : Names). set.contains s text) (sym c.self.view_is)
    ∙ (left_out (joined runs) place text c.self.invariant.0.ascending found).was in
    insert-present path_total exact_bytes c.args.self.now text was

pub returns-in-Ok-clause-added : goal.returns-in-Ok-clause-added
returns-in-Ok-clause-added c =
    let runs = c.self.inside.runs.items in
    let text = c.args.text.now in
    let place = texts_before_place runs c.in-Ok.field-0 in
    let found = subst (λ (rs : List (List Bytes)). IsAt text (joined rs) (texts_before_place rs c.in-Ok.field-0))
    c.deref.ensures.value c.in-Ok.ensures.found in
    let was = ap (λ (s : Names). set.contains s text) (sym c.self.view_is)
    ∙ (left_out (joined runs) place text c.self.invariant.0.ascending found).was in
    ap not (sym was)

pub returns-in_ok-put-in-Err-clause-ok : goal.returns-in_ok-put-in-Err-clause-ok
returns-in_ok-put-in-Err-clause-ok c =
    let runs = c.self.inside.runs.items in
    let text = c.args.text.now in
    let place = texts_before_place runs c.in-Err.place in
    let gap = subst (λ (rs : List (List Bytes)). IsGapFor text (joined rs) (texts_before_place rs c.in-Err.place))
    c.deref.ensures.value c.in-Err.ensures.absent in
    let with = with_text text runs c.put.new.runs.items place c.self.invariant.0 gap
    c.in_ok-put-in-Err.ensures.filled c.in_ok-put-in-Err.ensures.ok in
    with.names ∙ ap (λ (s : Names). set.insert s text) c.self.view_is

pub returns-in_ok-put-in-Err-clause-added : goal.returns-in_ok-put-in-Err-clause-added
returns-in_ok-put-in-Err-clause-added c =
    let runs = c.self.inside.runs.items in
    let text = c.args.text.now in
    let place = texts_before_place runs c.in-Err.place in
    let gap = subst (λ (rs : List (List Bytes)). IsGapFor text (joined rs) (texts_before_place rs c.in-Err.place))
    c.deref.ensures.value c.in-Err.ensures.absent in
    let none = ap (λ (s : Names). set.contains s text) (sym c.self.view_is) ∙ absent_in_gap (joined runs) place text gap in
    ap not (sym none)
