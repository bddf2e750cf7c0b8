use Rattle.std.proofs.Common.{◌≡◌, IfOk, ap, sym, subst, ◌∙◌}
use Rattle.watch_manager.specs.Pairs.{watchers_of}
use Rattle.watch_manager.proofs.Lefts.{used_path, other_path}
use Rattle.watch_manager.proofs.left.UnusedWatches.watchers.Goals as goal

pub returns-then-contains : goal.returns-then-contains
returns-then-contains c =
    c.new.ensures
    ∙ used_path c.self.inside.used c.self.inside.table.now c.args.path.now (sym c.contains.ensures ∙ c.if-contains.true)
    ∙ ap (λ s. watchers_of c.args.path.now s) c.self.view_is

pub returns : goal.returns
returns c =
    subst (λ s. IfOk c.watchers.result (λ conns. conns ≡ s))
    (other_path c.self.inside.used c.self.inside.table.now c.args.path.now
    (sym c.contains.ensures ∙ c.if-contains.false)
    ∙ ap (λ s. watchers_of c.args.path.now s) c.self.view_is)
    c.watchers.ensures
