use Rattle.std.proofs.Common.{rules, ◌≡◌, pos, true, false, ap, sym, subst, ◌∙◌, nat_eq}
use Rattle.std.specs.Ordering.{int_eq}
use Rattle.std.proofs.lemmas.Bool.{eqb-true, eq-eqb}
use Rattle.std.specs.FinSet as set
use Rattle.pairs.proofs.Hashed.{distinct}
use Rattle.node_map.proofs.CountedOwners.{AreCounted, counted-first, unowned, one_more, not_owned, all_owned}
use Rattle.node_map.proofs.node_map.NodeMap.are_owned.Goals as goal

pub loop-path-init : goal.loop-path-init
loop-path-init c = (
  tt,
  tt,
  counted-first c.self.inside.map.entries (distinct _ c.iter-path-items.ensures.unique)
      c.iter-path-items.ensures.fits
      c.into_iter-path-iterator.result
      (c.into_iter-path-iterator.ensures.into_iter_gives ∙ c.iter-path-items.ensures.rest) c.args.self.now
      c.self.view_is c.args.pairs.now,
)

pub returns-then-not-contains : goal.returns-then-not-contains
returns-then-not-contains c =
    let some : int_eq c.in-Some.node.now.stat.ephemeral_owner (pos 0) ≡ false = search rules in
    let missing : set.contains c.args.pairs.now
    (c.in-Some.node.now.stat.ephemeral_owner, c.in-Some.path.now) ≡ false = search rules in
    not_owned c.args.self.now c.args.pairs.now (c.in-Some.path.now, c.in-Some.node.now) c.next.new.self
    c.loop-path.owned
    (subst (λ es. AreCounted c.args.self.now c.args.pairs.now es c.loop-path.owned) c.in-Some.ensures.steps
    c.loop-path.invariant.2) some missing

pub loop-path-preserved-then-node-ne0 : goal.loop-path-preserved-then-node-ne0
loop-path-preserved-then-node-ne0 c =
    let some : int_eq c.in-Some.node.now.stat.ephemeral_owner (pos 0) ≡ false = search rules in
    let here : set.contains c.args.pairs.now (c.in-Some.node.now.stat.ephemeral_owner, c.in-Some.path.now)
    ≡ true = search rules in (
      tt,
      tt,
      one_more c.args.self.now c.args.pairs.now (c.in-Some.path.now, c.in-Some.node.now) c.next.new.self
          c.loop-path.owned
          (subst (λ es. AreCounted c.args.self.now c.args.pairs.now es c.loop-path.owned) c.in-Some.ensures.steps
          c.loop-path.invariant.2) some here,
    )

pub loop-path-preserved : goal.loop-path-preserved
loop-path-preserved c =
    let zero : int_eq c.in-Some.node.now.stat.ephemeral_owner (pos 0) ≡ true = search rules in (
      tt,
      tt,
      unowned c.args.self.now c.args.pairs.now (c.in-Some.path.now, c.in-Some.node.now) c.next.new.self
          c.loop-path.owned
          (subst (λ es. AreCounted c.args.self.now c.args.pairs.now es c.loop-path.owned) c.in-Some.ensures.steps
          c.loop-path.invariant.2) zero,
    )

pub returns : goal.returns
returns c =
    let done = all_owned c.args.self.now c.args.pairs.now c.loop-path.owned
    (subst (λ es. AreCounted c.args.self.now c.args.pairs.now es c.loop-path.owned) c.in-None.ensures.steps.0
    c.loop-path.invariant.2) in
    let told : nat_eq c.loop-path.owned c.count.result ≡ nat_eq c.loop-path.owned (set.len c.args.pairs.now) =
    ap (nat_eq c.loop-path.owned) c.count.ensures in
    ((λ same. done.0 (eqb-true _ _ (sym told ∙ same))), (λ owned. told ∙ eq-eqb _ _ (done.1 owned)))
