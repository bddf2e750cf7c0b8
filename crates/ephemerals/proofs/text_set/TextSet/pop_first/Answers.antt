use Rattle.std.proofs.Common.{◌≡◌, ℕ, suc, ◌+◌, ◌-◌, ◌<◌, ◌≤◌, List, [], ◌∷◌, ◌++◌, length, take, drop, get_or, true, false, not, Ok, IfOk, IfErr, rules, refl, sym, ap, subst, ◌∙◌, arith}
use Rattle.std.specs.FinSet as set
use Rattle.std.proofs.lemmas.Map.Lookups.{exact_bytes}
use Rattle.ephemerals.proofs.Totals.{path_total}
use Rattle.ephemerals.specs.Orders.{Bytes, Names, path_cmp, sorted_names}
use Rattle.ephemerals.specs.Inner.Runs.{joined, names_in, texts_before, AreFilled, AreRuns, AreBelow, AreAbove, IsAt, IsGapFor, ends_below}
use Rattle.ephemerals.specs.Inner.Placed.{texts_before_place}
use Rattle.ephemerals.proofs.Places.{inserted_again}
use Rattle.ephemerals.proofs.TextSets.{without_text, in_order, none_left}
use Rattle.ephemerals.proofs.text_set.TextSet.pop_first.Goals as goal

pub returns-then-is_empty-clause-none : goal.returns-then-is_empty-clause-none
returns-then-is_empty-clause-none c =
    let runs = c.self.inside.runs.items in
    let none : length runs ≡ 0 = search rules in
    ap (λ (s : Names). sorted_names s) (sym c.self.view_is)
    ∙ in_order (joined runs) c.self.invariant.0.ascending
    ∙ none_left runs none

pub invariant_of-self : goal.invariant_of-self
invariant_of-self c =
    let runs = c.self.inside.runs.items in
    let text = c.take-text.result in
    let left = c.take-text.new.runs.items in
    let without = without_text text runs left 0 c.self.invariant.0 c.take-text.ensures.text c.take-text.ensures.filled c.take-text.ensures.rest in
    (without.are, omega (arith, without.len, c.self.invariant.1))

pub returns-clause-first : goal.returns-clause-first
returns-clause-first c =
    let runs = c.self.inside.runs.items in
    let text = c.take-text.result in
    let left = c.take-text.new.runs.items in
    let without = without_text text runs left 0 c.self.invariant.0 c.take-text.ensures.text c.take-text.ensures.filled c.take-text.ensures.rest in
    ap (λ (s : Names). sorted_names s) (sym c.self.view_is)
    ∙ in_order (joined runs) c.self.invariant.0.ascending
    ∙ inserted_again (joined runs) 0 text c.take-text.ensures.text
    ∙ ap (λ (ts : List Bytes). text ∷ ts) (sym c.take-text.ensures.rest ∙ sym (in_order (joined left) without.are.ascending))
