use Rattle.std.proofs.Common.{sym, subst}
use Rattle.ephemerals.proofs.Errors.{on_err}
use Rattle.pairs.proofs.Hashed.{distinct}
use Rattle.node_map.proofs.MovedNodes.{IsJoining, joining, joined_one, all_joined, joined_between}
use Rattle.std.specs.FinMap as finmap
use Rattle.node_map.specs.Updates.{with_entries, IsBetween}
use Rattle.node_map.proofs.node_map.NodeMap.append.Goals as goal

pub loop-key-init : goal.loop-key-init
loop-key-init c =
    let gives = c.into_iter-key-iterator.ensures.into_iter_gives in (
      tt,
      tt,
      subst (λ es. IsJoining c.args.others c.args.self.now es c.args.self.now) (sym gives.0)
          (joining c.args.others c.args.self.now c.others.inside.map.entries (distinct _ gives.4) c.others.view_is),
    )

pub loop-key-preserved : goal.loop-key-preserved
loop-key-preserved c = (
  tt,
  tt,
  joined_one c.args.others c.args.self.now c.loop-key.self c.put.new.self (c.in-Some.key, c.in-Some.node)
      c.next.new.self
      (subst (λ es. IsJoining c.args.others c.args.self.now es c.loop-key.self) c.in-Some.ensures.steps
      c.loop-key.invariant.2)
      c.in_ok-put.ensures.ok,
)

pub returns-clause-ok : goal.returns-clause-ok
returns-clause-ok c =
    all_joined c.args.others c.args.self.now c.loop-key.self
    (subst (λ es. IsJoining c.args.others c.args.self.now es c.loop-key.self) c.in-None.ensures.steps.0
    c.loop-key.invariant.2)

pub returns-in_err-put-clause-err : goal.returns-in_err-put-clause-err
returns-in_err-put-clause-err c =
    on_err c.from_residual.result
    (subst (IsBetween c.args.self.now (with_entries c.args.self.now (finmap.entries c.args.others)))
    (sym c.in_err-put.ensures.err)
    (joined_between c.args.others c.args.self.now c.loop-key.self c.loop-key.key-iterator
    c.loop-key.invariant.2))
