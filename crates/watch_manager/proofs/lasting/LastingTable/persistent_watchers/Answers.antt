use Rattle.std.proofs.Common.{ap, ◌∙◌}
use Rattle.std.specs.FinSet as set
use Rattle.watch_manager.specs.Pairs.{watchers_of}
use Rattle.watch_manager.specs.Lasting.{persistent_watchers}
use Rattle.watch_manager.proofs.Aboves.{union-empty}
use Rattle.watch_manager.proofs.lasting.LastingTable.persistent_watchers.Goals as goal

pub returns : goal.returns
returns c =
    c.in_ok-add_watchers.ensures
    ∙ ap (λ s. set.union s (watchers_of c.args.path.now c.self.inside.persistent)) c.new-conns.ensures
    ∙ union-empty (watchers_of c.args.path.now c.self.inside.persistent)
    ∙ ap (λ l. persistent_watchers c.args.path.now l) c.self.view_is
