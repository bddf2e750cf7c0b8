use Rattle.std.proofs.Common.{ap, sym, ◌∙◌, arith, subst}
use Rattle.apply_board.specs.Views.{result_numbers}
use Rattle.apply_workers.proofs.Crews.{EachFits, fits_append, ready}
use Rattle.apply_workers.proofs.crew.make_workers.Goals as goal
use Rattle.apply_workers.proofs.crew.make_workers.Goals.{else-loop-opener-test, then-loop-opener-test+in_default}

pub loop-opener-preserved : goal.loop-opener-preserved
loop-opener-preserved g c = let inv = c.loop-opener.invariant in let e = c.in-Some.ensures in
    let p = c.push_reserved.ensures in let t = c.loop-opener-test.true in let n = c.len.ensures in
    let len = p.len in let cap = p.capacity in let capacity = inv.capacity in let unjoined = inv.unjoined in
    let a = c.loop-opener.crew.ok in let b = c.push_reserved.new.self.ok in
    let more = ap (λ v. v.unjoined) e.counted in let made = ap (λ v. v.made) e.counted in let first = inv.first in
    let new = e.newcomer in record {
      own = e.own ∙ inv.own;
      first = omega arith;
      unjoined = omega arith;
      idle = ap (λ v. v.claimed) e.counted ∙ (inv.idle ∙ ap (λ v. result_numbers v.given) (sym e.counted));
      works = ap (λ v. v.works) e.counted ∙ inv.works;
      others = subst (EachFits c.args.board.now) (sym p.items)
          (fits_append _ _ _ inv.others (
            (
              new.0 ∙ inv.own,
              ap (λ v. v.claimed) new.1 ∙ ap (λ v. result_numbers v.given)
                  (sym new.1),
            ),
            tt,
          ));
      room = omega arith;
      capacity = omega arith;
    }

pub returns : goal.returns
returns g c = let inv = c.loop-opener.invariant in let p = c.push_reserved-2.ensures.items in
    let r = c.reverse.ensures.items in elim c.loop-opener-test.branch [
      | else-loop-opener-test w ↦ let is = w.opener-is in let made = ap (λ s. s.view.made) is in
          let first = inv.first in
          ready _ _ c.loop-opener.crew.items _ _ _ p r inv.others (
            ap (λ s. s.board) is ∙ inv.own,
            ap (λ s. s.view.claimed) is ∙ (inv.idle ∙ ap (λ s. result_numbers s.view.given) (sym is)),
          ) (omega arith)
          (ap (λ s. s.view.unjoined) is ∙ inv.unjoined) (ap (λ s. s.view.works) is ∙ inv.works)
      | then-loop-opener-test+in_default w ↦ let e = w.in_default.ensures in let is = ap (λ s. s.view) w.opener-is
          ∙ e.none in let made = ap (λ v. v.made) is in let first = inv.first in
          ready _ _ c.loop-opener.crew.items _ _ _ p r inv.others (
            ap (λ s. s.board) w.opener-is ∙ (e.own ∙ inv.own),
            ap (λ v. v.claimed) is ∙ (inv.idle ∙ ap (λ v. result_numbers v.given) (sym is)),
          ) (omega arith)
          (ap (λ v. v.unjoined) is ∙ inv.unjoined) (ap (λ v. v.works) is ∙ inv.works)
    ]
