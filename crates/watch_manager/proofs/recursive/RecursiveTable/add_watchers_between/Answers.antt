use Rattle.std.proofs.Common.{ap, sym, ◌∙◌, rules, take}
use Rattle.std.specs.FinSet as set
use Rattle.watch_manager.specs.Pairs.{watchers_of}
use Rattle.watch_manager.specs.Inner.Lasting.{with_watchers_on, is_nonempty, named_fronts}
use Rattle.watch_manager.proofs.Aboves.{named-found, named-empty, named-none, is_nonempty-true, is_empty-true}
use Rattle.watch_manager.proofs.recursive.RecursiveTable.add_watchers_between.Goals as goal

pub loop-above-preserved : goal.loop-above-preserved
loop-above-preserved c =
    let found = c.in-Some.ensures.cases in
    let rest = c.loop-above.rest.now in
    let table = c.args.self.now in (
      search rules,
      (λ i. with_watchers_on (named_fronts (found.3 i)) table (c.in_ok-add_watchers.ensures i))
          ∙ ap (λ p. with_watchers_on (named_fronts (take found.0 rest)) table
          (set.union c.loop-above.conns (watchers_of p table))) found.3
          ∙ ap (λ ps. with_watchers_on ps table c.loop-above.conns)
          (sym (named-found rest found.0 found.1 found.2
          (ap is_nonempty (sym found.3) ∙ is_nonempty-true c.in-Some.above.now (sym c.is_empty.ensures ∙ c.if-is_empty.false))))
          ∙ c.loop-above.invariant.1,
    )

pub returns-then-is_empty : goal.returns-then-is_empty
returns-then-is_empty c =
    let found = c.in-Some.ensures.cases in
    let rest = c.loop-above.rest.now in
    let empty = is_empty-true c.in-Some.above.now (sym c.is_empty.ensures ∙ c.if-is_empty.true) in
    ap (λ ps. with_watchers_on ps c.args.self.now c.loop-above.conns)
    (sym (named-empty rest found.0 found.1 found.2 (sym found.3 ∙ empty)))
    ∙ c.loop-above.invariant.1

pub returns : goal.returns
returns c =
    ap (λ ps. with_watchers_on ps c.args.self.now c.loop-above.conns)
    (sym (named-none c.loop-above.rest.now c.in_default.ensures.cases))
    ∙ c.loop-above.invariant.1
