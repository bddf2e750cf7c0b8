use Rattle.std.proofs.Common.{ℕ, List, ap, subst, ◌∙◌}
use Rattle.std.specs.FinSet as set
use Rattle.ephemerals.specs.Orders.{Names}
use Rattle.pairs.specs.Pairs.{listed_pairs}
use Rattle.watch_manager.proofs.Listing.{Adding, begins, adds, ends}
use Rattle.watch_manager.proofs.summary.add_table.Goals as goal

pub loop-connection-init : goal.loop-connection-init
loop-connection-init c = (
  tt,
  tt,
  begins c.args.table c.args.watches.now c.args.rows.now.keys c.into_iter-connection-iterator.result
      (ap (λ es. set.from_list (listed_pairs es)) c.into_iter-connection-iterator.ensures.into_iter_gives
      ∙ c.iter-connection-items.ensures.pairs),
)

pub loop-connection-preserved : goal.loop-connection-preserved
loop-connection-preserved c = (
  tt,
  tt,
  adds c.args.table c.args.watches.now c.args.rows.now.keys c.loop-connection.rows.keys c.add_paths.new.rows.keys
      c.in-Some.connection.now c.in-Some.paths.now c.next.new.self
      (subst (λ (es : List (ℕ × Names)).
      Adding c.args.table c.args.watches.now c.args.rows.now.keys c.loop-connection.rows.keys es) c.in-Some.ensures.steps
      c.loop-connection.invariant.2)
      c.in_ok-add_paths.ensures,
)

pub returns : goal.returns
returns c =
    ends c.args.table c.args.watches.now c.args.rows.now.keys c.loop-connection.rows.keys
    (subst (λ (es : List (ℕ × Names)).
    Adding c.args.table c.args.watches.now c.args.rows.now.keys c.loop-connection.rows.keys es)
    c.in-None.ensures.steps.0 c.loop-connection.invariant.2)
