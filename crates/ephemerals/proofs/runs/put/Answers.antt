use Rattle.std.proofs.Common.{◌≡◌, ℕ, suc, ◌+◌, ◌-◌, ◌<◌, ◌≤◌, List, [], ◌∷◌, ◌++◌, length, take, drop, get_or, set, true, false, not, rules, refl, sym, ap, subst, ◌∙◌, arith}
use Rattle.std.specs.List.{insert, remove}
use Rattle.std.proofs.lemmas.List.{get_or_default}
use Rattle.ephemerals.specs.Orders.{Bytes, path_cmp}
use Rattle.ephemerals.specs.Inner.Runs.{joined, names_in, texts_before, AreFilled, AreRuns, AreBelow, AreAbove, IsAt, IsGapFor, ends_below}
use Rattle.ephemerals.proofs.Errors.{on_err_then, on_ok_then}
use Rattle.ephemerals.proofs.JoinedRuns.{split_is, put_alike}
use Rattle.ephemerals.proofs.runs.put.Goals as goal

pub put_into-requires-then-at-le-HALF-clause-filled : goal.put_into-requires-then-at-le-HALF-clause-filled
put_into-requires-then-at-le-HALF-clause-filled c =
    let runs = c.args.runs.now.items in
    let i = c.args.place.run in
    let lt : i < length runs = omega (arith, c.requires.open.run) in
    let full = ap length (c.index.ensures ∙ get_or_default runs i c.index.result.now [] lt) in
    let len : 32 < length (get_or runs i []) = omega (arith, full) in
    let parts = split_is runs c.split.new.runs.items i c.requires.filled lt len c.in_ok-split.ensures.ok in
    parts.filled

pub put_into-requires-then-at-le-HALF-clause-place : goal.put_into-requires-then-at-le-HALF-clause-place
put_into-requires-then-at-le-HALF-clause-place c =
    let runs = c.args.runs.now.items in
    let i = c.args.place.run in
    let lt : i < length runs = omega (arith, c.requires.open.run) in
    let full = ap length (c.index.ensures ∙ get_or_default runs i c.index.result.now [] lt) in
    let len : 32 < length (get_or runs i []) = omega (arith, full) in
    let parts = split_is runs c.split.new.runs.items i c.requires.filled lt len c.in_ok-split.ensures.ok in
    omega (arith, parts.first)

pub returns-then-at-le-HALF-clause-ok : goal.returns-then-at-le-HALF-clause-ok
returns-then-at-le-HALF-clause-ok c =
    let runs = c.args.runs.now.items in
    let i = c.args.place.run in
    let lt : i < length runs = omega (arith, c.requires.open.run) in
    let full = ap length (c.index.ensures ∙ get_or_default runs i c.index.result.now [] lt) in
    let len : 32 < length (get_or runs i []) = omega (arith, full) in
    let parts = split_is runs c.split.new.runs.items i c.requires.filled lt len c.in_ok-split.ensures.ok in
    on_ok_then c.put_into-then-at-le-HALF.result
    (put_alike (joined c.put_into-then-at-le-HALF.new.runs.items) (joined c.split.new.runs.items) (joined runs)
    (texts_before c.split.new.runs.items i + c.args.place.text) (texts_before runs i + c.args.place.text)
    c.in_ok-text.text c.args.text.now parts.same (ap (λ (n : ℕ). n + c.args.place.text) parts.before) c.in_ok-text.ensures)
    c.put_into-then-at-le-HALF.ensures.ok

pub returns-then-at-le-HALF-clause-err : goal.returns-then-at-le-HALF-clause-err
returns-then-at-le-HALF-clause-err c =
    let runs = c.args.runs.now.items in
    let i = c.args.place.run in
    let lt : i < length runs = omega (arith, c.requires.open.run) in
    let full = ap length (c.index.ensures ∙ get_or_default runs i c.index.result.now [] lt) in
    let len : 32 < length (get_or runs i []) = omega (arith, full) in
    let parts = split_is runs c.split.new.runs.items i c.requires.filled lt len c.in_ok-split.ensures.ok in
    on_err_then c.put_into-then-at-le-HALF.result (λ e. e ∙ parts.same) c.put_into-then-at-le-HALF.ensures.err

pub put_into-requires-2-clause-filled : goal.put_into-requires-2-clause-filled
put_into-requires-2-clause-filled c =
    let runs = c.args.runs.now.items in
    let i = c.args.place.run in
    let lt : i < length runs = omega (arith, c.requires.open.run) in
    let full = ap length (c.index.ensures ∙ get_or_default runs i c.index.result.now [] lt) in
    let len : 32 < length (get_or runs i []) = omega (arith, full) in
    let parts = split_is runs c.split.new.runs.items i c.requires.filled lt len c.in_ok-split.ensures.ok in
    parts.filled

pub put_into-requires-2-clause-place : goal.put_into-requires-2-clause-place
put_into-requires-2-clause-place c =
    let runs = c.args.runs.now.items in
    let i = c.args.place.run in
    let lt : i < length runs = omega (arith, c.requires.open.run) in
    let full = ap length (c.index.ensures ∙ get_or_default runs i c.index.result.now [] lt) in
    let len : 32 < length (get_or runs i []) = omega (arith, full) in
    let parts = split_is runs c.split.new.runs.items i c.requires.filled lt len c.in_ok-split.ensures.ok in
    omega (arith, parts.second, c.requires.open.text)

pub returns-clause-ok : goal.returns-clause-ok
returns-clause-ok c =
    let runs = c.args.runs.now.items in
    let i = c.args.place.run in
    let lt : i < length runs = omega (arith, c.requires.open.run) in
    let full = ap length (c.index.ensures ∙ get_or_default runs i c.index.result.now [] lt) in
    let len : 32 < length (get_or runs i []) = omega (arith, full) in
    let parts = split_is runs c.split.new.runs.items i c.requires.filled lt len c.in_ok-split.ensures.ok in
    on_ok_then c.put_into-2.result
    (put_alike (joined c.put_into-2.new.runs.items) (joined c.split.new.runs.items) (joined runs)
    (texts_before c.split.new.runs.items (i + 1) + (c.args.place.text - 32)) (texts_before runs i + c.args.place.text)
    c.in_ok-text.text c.args.text.now parts.same (omega (arith, parts.between)) c.in_ok-text.ensures)
    c.put_into-2.ensures.ok

pub returns-clause-err : goal.returns-clause-err
returns-clause-err c =
    let runs = c.args.runs.now.items in
    let i = c.args.place.run in
    let lt : i < length runs = omega (arith, c.requires.open.run) in
    let full = ap length (c.index.ensures ∙ get_or_default runs i c.index.result.now [] lt) in
    let len : 32 < length (get_or runs i []) = omega (arith, full) in
    let parts = split_is runs c.split.new.runs.items i c.requires.filled lt len c.in_ok-split.ensures.ok in
    on_err_then c.put_into-2.result (λ e. e ∙ parts.same) c.put_into-2.ensures.err
