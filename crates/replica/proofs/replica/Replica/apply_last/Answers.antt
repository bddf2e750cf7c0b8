use Rattle.std.proofs.Common.{◌≡◌, ◌-◌, Some, length, refl, sym, ap, subst, ◌∙◌}
use Rattle.data_tree.specs.Meaning.{effect_of_txn}
use Rattle.based_tree.specs.Based.{BasedTree}
use Rattle.replica.specs.declared.item_outcome.LeaderNews.TheVariants as news
use Rattle.replica.specs.Replica.{Replica}
use Rattle.replica.specs.Taking.{last_txn, apply_to_tree}
use Rattle.replica.specs.Inner.{with_told}
use Rattle.replica.proofs.Carrying.{applied-last}
use Rattle.replica.proofs.replica.Replica.apply_last.Goals as goal

pub returns : goal.returns
returns c =
    let based = c.self.inside.based in
    let inside : Replica = record { learner = c.self.inside.learner; base = based.base; tree = based.tree } in
    let log = c.since_base-log.result.now in
    let txn = c.in-Some.txn.now in
    let outcome = c.in_ok-outcome.outcome in
    let told = Some (news.Applied (length log - 1) outcome.results) in
    let after : BasedTree = c.apply.new.self in
    let with_based : BasedTree → Replica =
    λ b. record { learner = inside.learner; base = b.base; tree = b.tree } in
    subst (λ (r : Replica). apply_to_tree (with_told c.args.triggers.now c.args.news.now r) (last_txn r.learner.log)
    ≡ with_told outcome.triggers told (with_based after))
    c.self.view_is
    (applied-last inside c.args.triggers.now c.args.news.now log txn (effect_of_txn inside.tree txn).state outcome
    c.since_base-log.ensures c.in-Some.ensures.value refl c.in_ok-outcome.ensures.answer
    ∙ ap (λ (b : BasedTree). with_told outcome.triggers told (with_based b)) (sym c.in_ok-outcome.ensures.tree))
