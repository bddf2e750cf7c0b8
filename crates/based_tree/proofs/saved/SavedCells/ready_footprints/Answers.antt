use Rattle.std.proofs.Common.{sym, subst}
use Rattle.std.proofs.lemmas.List.{drop_all}
use Rattle.pairs.proofs.Adding.{next_element}
use Rattle.based_tree.specs.Inner.{IsReadyForEach, is_quiet}
use Rattle.based_tree.proofs.Bases.{nothing_more, saves_then}
use Rattle.based_tree.proofs.Changes.{ready_more}
use Rattle.based_tree.proofs.saved.SavedCells.ready_footprints.Goals as goal

pub loop-txn-init : goal.loop-txn-init
loop-txn-init c = record { more = nothing_more c.args.tree.now c.args.self.now; ready = λ s more rest. rest }

pub loop-txn-preserved : goal.loop-txn-preserved
loop-txn-preserved c =
    let tree = c.args.tree.now in
    let all = c.args.txns.now in
    let next = c.ready_footprint.new.self in
    let txn = c.txn-item.result in
    record {
      more = saves_then tree c.args.self.now c.loop-txn.self next c.loop-txn.invariant.more c.in_ok-ready_footprint.ensures.more;
      ready = λ s more rest. c.loop-txn.invariant.ready s
          (saves_then tree c.loop-txn.self next s c.in_ok-ready_footprint.ensures.more more)
          (subst (λ ts. IsReadyForEach ts s tree)
          (sym (next_element all c.loop-txn.txn-index txn c.loop-txn-test.true c.txn-item.is)) (
            λ q at. ready_more (is_quiet txn.body) txn.header.zxid tree next s q more
                (c.in_ok-ready_footprint.ensures.here q at),
            rest,
          ));
    }

pub returns : goal.returns
returns c =
    record {
      more = c.loop-txn.invariant.more;
      here = c.loop-txn.invariant.ready c.loop-txn.self (nothing_more c.args.tree.now c.loop-txn.self)
          (subst (λ ts. IsReadyForEach ts c.loop-txn.self c.args.tree.now)
          (sym (drop_all c.loop-txn.txn-index c.args.txns.now c.loop-txn-test.false)) tt);
    }
