use Rattle.std.proofs.Common.{◌≡◌, ℕ, suc, ◌+◌, ◌-◌, ◌<◌, ◌≤◌, List, [], ◌∷◌, length, take, drop, get_or, set, true, false, not, rules, refl, sym, ap, subst, ◌∙◌, arith}
use Rattle.std.specs.List.{insert, remove}
use Rattle.std.proofs.lemmas.List.{get_or_default}
use Rattle.ephemerals.specs.Orders.{Bytes, path_cmp}
use Rattle.ephemerals.specs.Inner.Runs.{joined, names_in, texts_before, AreFilled, AreRuns, AreBelow, AreAbove, IsAt, IsGapFor, ends_below}
use Rattle.std.proofs.Math.ListN.{length-set}
use Rattle.ephemerals.proofs.JoinedRuns.{taken_from_run, at_in_runs, joined_without, get-set}
use Rattle.ephemerals.proofs.runs.take.Goals as goal

pub returns-then-len-eq0-clause-rest : goal.returns-then-len-eq0-clause-rest
returns-then-len-eq0-clause-rest c =
    let runs = c.args.runs.now.items in
    let i = c.args.place.run in
    let is = c.index_mut-own.ensures.value ∙ get_or_default runs i c.index_mut-own.result.now [] c.requires.taken.run in
    let gone = ap (λ (run : List Bytes). joined (set runs i run))
    (c.remove-text.ensures.rest ∙ ap (λ (run : List Bytes). remove run c.args.place.text) is)
    ∙ taken_from_run runs i c.args.place.text c.requires.taken.run c.requires.taken.text in
    let lt : i < length (set runs i c.remove-text.new.self) = omega (arith, length-set runs i c.remove-text.new.self, c.requires.taken.run) in
    let none : length c.remove-text.new.self ≡ 0 = omega arith in
    ap joined c.remove.ensures.items
    ∙ joined_without (set runs i c.remove-text.new.self) i lt
    (ap length (get-set runs i c.remove-text.new.self c.requires.taken.run) ∙ none)
    ∙ gone

pub returns-then-len-eq0-clause-text : goal.returns-then-len-eq0-clause-text
returns-then-len-eq0-clause-text c =
    let runs = c.args.runs.now.items in
    let i = c.args.place.run in
    let is = c.index_mut-own.ensures.value ∙ get_or_default runs i c.index_mut-own.result.now [] c.requires.taken.run in
    at_in_runs runs i c.args.place.text c.remove-text.result c.requires.taken.run (record {
      in_range = c.requires.taken.text;
      is = sym (c.remove-text.ensures.text
          ∙ ap (λ (run : List Bytes). get_or run c.args.place.text c.remove-text.result) is
          ∙ get_or_default (get_or runs i []) c.args.place.text c.remove-text.result [] c.requires.taken.text);
    })

pub returns-else-len-eq0-clause-rest : goal.returns-else-len-eq0-clause-rest
returns-else-len-eq0-clause-rest c =
    let runs = c.args.runs.now.items in
    let i = c.args.place.run in
    let is = c.index_mut-own.ensures.value ∙ get_or_default runs i c.index_mut-own.result.now [] c.requires.taken.run in
    let gone = ap (λ (run : List Bytes). joined (set runs i run))
    (c.remove-text.ensures.rest ∙ ap (λ (run : List Bytes). remove run c.args.place.text) is)
    ∙ taken_from_run runs i c.args.place.text c.requires.taken.run c.requires.taken.text in
    gone

pub returns-else-len-eq0-clause-text : goal.returns-else-len-eq0-clause-text
returns-else-len-eq0-clause-text c =
    let runs = c.args.runs.now.items in
    let i = c.args.place.run in
    let is = c.index_mut-own.ensures.value ∙ get_or_default runs i c.index_mut-own.result.now [] c.requires.taken.run in
    at_in_runs runs i c.args.place.text c.remove-text.result c.requires.taken.run (record {
      in_range = c.requires.taken.text;
      is = sym (c.remove-text.ensures.text
          ∙ ap (λ (run : List Bytes). get_or run c.args.place.text c.remove-text.result) is
          ∙ get_or_default (get_or runs i []) c.args.place.text c.remove-text.result [] c.requires.taken.text);
    })
