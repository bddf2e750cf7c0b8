use Rattle.std.proofs.Common.{◌≡◌, OnOk, ap, sym, subst, ◌∙◌}
use Rattle.std.specs.FinSet as set
use Rattle.watch_manager.specs.Pairs.{watchers_of}
use Rattle.watch_manager.specs.Lasting.{root_path}
use Rattle.watch_manager.specs.Inner.Lasting.{with_watchers_on, named_fronts}
use Rattle.watch_manager.proofs.Aboves.{gathered_above, nobody_above, union-nobody}
use Rattle.watch_manager.proofs.Lengths.{no_lengths}
use Rattle.watch_manager.proofs.recursive.RecursiveTable.add_watchers_above.Goals as goal

pub returns-then-is_empty : goal.returns-then-is_empty
returns-then-is_empty c =
    let none = no_lengths c.self.inside.lengths c.self.inside.table c.self.invariant
    (c.is_empty.ensures.0 c.if-is_empty.true) in
    sym (ap (λ s. set.union c.args.conns.now s) (nobody_above c.args.path.now c.args.self.now
    (sym c.self.view_is ∙ none)) ∙ union-nobody c.args.conns.now)

pub returns : goal.returns
returns c =
    let path = c.args.path.now in
    let table = c.args.self.now in
    subst (λ s. OnOk c.add_watchers_between.result (c.add_watchers_between.new.conns ≡ s))
    (ap (λ s. with_watchers_on (named_fronts path) table s) (c.in_ok-add_watchers-2.ensures
    ∙ ap (λ s. set.union s (watchers_of root_path table)) c.in_ok-add_watchers.ensures)
    ∙ gathered_above path table c.args.conns.now)
    c.add_watchers_between.ensures
