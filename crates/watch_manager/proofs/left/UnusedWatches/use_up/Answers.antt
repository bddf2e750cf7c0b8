use Rattle.std.proofs.Common.{ap, sym, ◌∙◌}
use Rattle.watch_manager.specs.Pairs.{without_watches_on}
use Rattle.watch_manager.specs.Inner.Telling.{watches_elsewhere}
use Rattle.watch_manager.proofs.Lefts.{but_on-insert, unwatched_left}
use Rattle.watch_manager.proofs.left.UnusedWatches.use_up.Goals as goal

pub returns-then-not-is_watched : goal.returns-then-not-is_watched
returns-then-not-is_watched c =
    sym c.self.view_is
    ∙ unwatched_left c.self.inside.used c.self.inside.table.now c.args.path.now
    (sym c.is_watched.ensures ∙ c.if-not-is_watched.true)
    ∙ ap (λ s. without_watches_on c.args.path.now s) c.self.view_is

pub returns : goal.returns
returns c =
    ap (λ u. watches_elsewhere u c.self.inside.table.now) c.in_ok-insert.ensures.ok
    ∙ but_on-insert c.self.inside.used c.self.inside.table.now c.args.path.now
    ∙ ap (λ s. without_watches_on c.args.path.now s) c.self.view_is
