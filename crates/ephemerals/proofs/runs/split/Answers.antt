use Rattle.std.proofs.Common.{◌≡◌, ℕ, suc, ◌+◌, ◌-◌, ◌<◌, ◌≤◌, List, [], ◌∷◌, ◌++◌, length, take, drop, get_or, set, true, false, not, rules, refl, sym, ap, subst, ◌∙◌, arith}
use Rattle.std.specs.List.{insert, remove}
use Rattle.std.proofs.lemmas.List.{get_or_default}
use Rattle.ephemerals.specs.Orders.{Bytes, path_cmp}
use Rattle.ephemerals.specs.Inner.Runs.{joined, names_in, texts_before, AreFilled, AreRuns, AreBelow, AreAbove, IsAt, IsGapFor, ends_below}
use Rattle.std.proofs.lemmas.List.Edits.{get_or-insert_below}
use Rattle.ephemerals.proofs.JoinedRuns.{parted_is, parted}
use Rattle.ephemerals.proofs.runs.split.Goals as goal

pub returns-clause-ok : goal.returns-clause-ok
returns-clause-ok c =
    let runs = c.args.runs.now.items in
    let i = c.args.run in
    let run = get_or runs i [] in
    let lt : i < length runs = c.requires.run in
    let next : i + 1 ≡ suc i = omega arith in
    let made = c.in_ok-insert.ensures.items in
    let later : c.in_ok-later.later ≡ drop 32 run =
    c.in_ok-later.ensures ∙ ap (drop 32) (c.index.ensures ∙ get_or_default runs i c.index.result.now [] lt) in
    let own = c.index_mut-own.result.now in
    let is : own ≡ run =
    c.index_mut-own.ensures.value
    ∙ ap (λ rs. get_or rs i own) made
    ∙ get_or-insert_below runs (i + 1) c.in_ok-later.later own i (omega arith) (omega arith)
    ∙ get_or_default runs i own [] lt in
    let earlier : c.truncate.new.self ≡ take 32 run = c.truncate.ensures ∙ ap (take 32) is in
    ap (λ rs. set rs i c.truncate.new.self) made
    ∙ (λ j. set (insert runs (next j) (later j)) i (earlier j))
    ∙ parted_is runs i (take 32 run) (drop 32 run) lt
    ∙ ap (λ (n : ℕ). take i runs ++ take 32 run ∷ drop 32 run ∷ drop n runs) (sym next)
