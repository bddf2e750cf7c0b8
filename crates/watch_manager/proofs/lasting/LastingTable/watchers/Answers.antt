use Rattle.std.proofs.Common.{ap, ◌∙◌}
use Rattle.std.specs.FinSet as set
use Rattle.watch_manager.specs.Lasting.{LastingWatches, persistent_watchers, watchers_above}
use Rattle.watch_manager.proofs.lasting.LastingTable.watchers.Goals as goal

pub returns : goal.returns
returns c =
    c.in_ok-add_watchers_above.ensures
    ∙ ap (λ s. set.union s (watchers_above c.args.path.now c.self.inside.recursive)) c.in_ok-conns.ensures
    ∙ ap (λ (l : LastingWatches). set.union (persistent_watchers c.args.path.now c.args.self.now)
    (watchers_above c.args.path.now l.recursive)) c.self.view_is
