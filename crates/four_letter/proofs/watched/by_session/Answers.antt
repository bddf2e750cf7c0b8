use Rattle.std.proofs.Common.{List, take, sym, ap, subst}
use Rattle.std.specs.FinMap.{find}
use Rattle.std.specs.Ordering.{int_cmp}
use Rattle.four_letter.specs.Inner.Gathered.{paths_by_session, GathersPaths}
use Rattle.four_letter.specs.declared.figures.WatchRow.{WatchRow}
use Rattle.four_letter.proofs.Fronts.{front_at, whole_front}
use Rattle.four_letter.proofs.Gathering.{gathers_path}
use Rattle.four_letter.proofs.watched.by_session.Goals as goal

pub loop-row-init : goal.loop-row-init
loop-row-init c q = ap (λ es. find int_cmp q (paths_by_session es)) c.new-by_session.ensures.empty

pub loop-row-preserved : goal.loop-row-preserved
loop-row-preserved c =
    let rows = c.args.rows.now in
    let i = c.loop-row.row-index in
    let row = c.row-item.result in
    let old = paths_by_session c.loop-row.by_session.entries in
    let new = paths_by_session c.add_path.new.by_session.entries in
    subst (λ (rs : List WatchRow). GathersPaths rs new)
    (sym (front_at rows i row c.loop-row-test.true c.row-item.is))
    (gathers_path (take i rows) row old new c.loop-row.invariant c.in_ok-add_path.ensures)

pub returns : goal.returns
returns c = subst (λ (rs : List WatchRow). GathersPaths rs (paths_by_session c.loop-row.by_session.entries))
    (whole_front c.args.rows.now c.loop-row.row-index c.loop-row-test.false c.loop-row.auto.row-index-end)
    c.loop-row.invariant
