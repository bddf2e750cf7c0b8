use Rattle.std.proofs.Common.{List, take, sym, ap, subst}
use Rattle.std.specs.FinMap.{find}
use Rattle.ephemerals.specs.Orders.{path_cmp}
use Rattle.four_letter.specs.Inner.Gathered.{sessions_by_path, GathersSessions}
use Rattle.four_letter.specs.declared.figures.WatchRow.{WatchRow}
use Rattle.four_letter.proofs.Fronts.{front_at, whole_front}
use Rattle.four_letter.proofs.Gathering.{gathers_session}
use Rattle.four_letter.proofs.watched.by_path.Goals as goal

pub loop-row-init : goal.loop-row-init
loop-row-init c q = ap (λ es. find path_cmp q (sessions_by_path es)) c.new-by_path.ensures.empty

pub loop-row-preserved : goal.loop-row-preserved
loop-row-preserved c =
    let rows = c.args.rows.now in
    let i = c.loop-row.row-index in
    let row = c.row-item.result in
    let old = sessions_by_path c.loop-row.by_path.entries in
    let new = sessions_by_path c.add_session.new.by_path.entries in
    subst (λ (rs : List WatchRow). GathersSessions rs new)
    (sym (front_at rows i row c.loop-row-test.true c.row-item.is))
    (gathers_session (take i rows) row old new c.loop-row.invariant c.in_ok-add_session.ensures)

pub returns : goal.returns
returns c = subst (λ (rs : List WatchRow). GathersSessions rs (sessions_by_path c.loop-row.by_path.entries))
    (whole_front c.args.rows.now c.loop-row.row-index c.loop-row-test.false c.loop-row.auto.row-index-end)
    c.loop-row.invariant
